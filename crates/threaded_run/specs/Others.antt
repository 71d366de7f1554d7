-- Journals whose only invocations are the scripts', and whose only arrivals are the scenario's.
use Rattle.std.specs.Prelude.{◌≡◌, ℕ, suc, ◌==◌, Bool, false, Option, Some, None, List, [], ◌∷◌, filter, length}
use Rattle.std.specs.Prelude.{slice_get}
use Rattle.nook_data.specs.declared.steps.Event.{Event}
use Rattle.nook_data.specs.declared.steps.Event.TheVariants as event
use Rattle.nook_data.specs.declared.calls.Op.{Op}
use Rattle.nook_data.specs.declared.scenario.PartSpec.{PartSpec}
use Rattle.nook_data.specs.declared.scenario.ThreadSpec.{ThreadSpec}
use Rattle.part_laws.specs.Bound.{is_arrival}

-- an invocation by a thread
abbrev pub is_invocation_by : ℕ → Event → Bool
is_invocation_by thread (event.Invoke call t o answer) = t == thread
is_invocation_by thread e = false

-- how many operations on a part a thread's script has; 0 if there is no such thread
abbrev pub operations_on : ℕ → Option ThreadSpec → ℕ
operations_on index None = 0
operations_on index (Some t) = length (filter (λ (o : ℕ × Op). o.0 == index) t.ops)

-- how many invocations by a thread a journal has
abbrev pub invocations_by : ℕ → List Event → ℕ
invocations_by thread journal = length (filter (is_invocation_by thread) journal)

-- each thread invoked as many operations on the part as its script has for it, no other thread invoked any, and as many
-- frames arrived as the part has
pub record HasNoOthers (threads : List ThreadSpec) (index : ℕ) (spec : PartSpec) (journal : List Event) : Type 0 where
  pub invoked : (thread : ℕ) → invocations_by thread journal ≡ operations_on index (slice_get threads thread)
  pub arrived : length (filter is_arrival journal) ≡ length spec.arrivals

-- the same for each part, the first of them with this index
abbrev pub HaveNoOthers : List ThreadSpec → ℕ → List PartSpec → List (List Event) → Type 0
HaveNoOthers threads index [] [] = Unit {0}
HaveNoOthers threads index [] (journal ∷ journals) = ⊥
HaveNoOthers threads index (spec ∷ parts) [] = ⊥
HaveNoOthers threads index (spec ∷ parts) (journal ∷ journals) =
    HasNoOthers threads index spec journal × HaveNoOthers threads (suc index) parts journals
