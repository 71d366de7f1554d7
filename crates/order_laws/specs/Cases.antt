-- Worked cases of one order over several parts: small journals in which each operation is answered at once.
use Rattle.std.specs.Prelude.{ℕ, Some, List, [], ◌∷◌}
use Rattle.nook_data.specs.declared.calls.Answer.{Answer}
use Rattle.nook_data.specs.declared.calls.Op.{Op}
use Rattle.nook_data.specs.declared.scenario.ThreadSpec.{ThreadSpec}
use Rattle.nook_data.specs.declared.steps.Event.{Event}
use Rattle.nook_data.specs.declared.steps.Event.TheVariants as event

-- a thread that invokes one operation on each of two parts
abbrev pub visits : Op → List ℕ → ℕ → ℕ → ThreadSpec
visits o name first next = record { name = name; ops = (first, o) ∷ (next, o) ∷ [] }

-- a journal of two calls, of one thread and then another
abbrev pub calls_of : Op → Answer → ℕ → ℕ → List Event
calls_of o a first next = event.Invoke 1 first o (Some a) ∷ event.Invoke 2 next o (Some a) ∷ []

-- ---- a cycle of two parts

-- thread 0 goes from part 0 to part 1, thread 1 from part 1 to part 0
abbrev pub crossed_threads : Op → List ℕ → List ThreadSpec
crossed_threads o name = visits o name 0 1 ∷ visits o name 1 0 ∷ []

-- on each part the thread that visits it second was there first
abbrev pub crossed_journals : Op → Answer → List (List Event)
crossed_journals o a = calls_of o a 1 0 ∷ calls_of o a 0 1 ∷ []

-- ---- a ring of three parts

-- each thread goes from its part to the next
abbrev pub ring_threads : Op → List ℕ → List ThreadSpec
ring_threads o name = visits o name 0 1 ∷ visits o name 1 2 ∷ visits o name 2 0 ∷ []

-- on each part the thread that comes from the previous part was there first
abbrev pub ring_journals : Op → Answer → List (List Event)
ring_journals o a = calls_of o a 2 0 ∷ calls_of o a 0 1 ∷ calls_of o a 1 2 ∷ []

-- ---- no cycle

-- one thread that goes to and fro
abbrev pub to_and_fro : Op → List ℕ → List ThreadSpec
to_and_fro o name = record { name = name; ops = (0, o) ∷ (1, o) ∷ (0, o) ∷ (1, o) ∷ [] } ∷ []

-- each part has two of its calls
abbrev pub woven_journals : Op → Answer → List (List Event)
woven_journals o a = calls_of o a 0 0 ∷ calls_of o a 0 0 ∷ []
