use Rattle.std.specs.Prelude.{◌≡◌, ◌≤◌, ◌<◌, ℕ, zero, suc, ◌+◌, Option, Some, None, List, [], ◌∷◌, ◌++◌, take, drop}
use Rattle.nook_data.specs.Types.{Event, Fault, PartSpec, Step}
use Rattle.nook_data.specs.declared.steps.Step.TheVariants as step
use Rattle.guard_defs.specs.Guard.{guard, guarded, known_at_first}
use Rattle.part_defs.specs.Domain.{context_of}
use Rattle.part_defs.specs.Runs.{state_after, step_of}
use Rattle.part_defs.specs.State.{PartState}
use Rattle.part_defs.specs.Steps.{opening}
use Rattle.promise_defs.specs.Contract.{Known, known_after}
use Rattle.guard_defs.specs.Every.{turns_made}

-- What a fault does not change in a guarded run.

-- a burst under the guard does not reach a fault: it executes at most as many instructions as precede the fault, or the
-- guard's trap comes before the fault's position. At the same position the fault would strike first
abbrev pub StaysBefore : Fault → PartState → ℕ → Option Fault → Type 0
StaysBefore f p context None = turns_made p (context_of context p.domain.contexts) ≤ f.after
StaysBefore f p context (Some stop) = stop.after < f.after

-- a guarded step does not reach a fault
abbrev pub IsPastGuarded : Fault → PartState → Known → Step → Type 0
IsPastGuarded f p k (step.Burst context) =
    p.bursts + 1 ≡ f.burst → StaysBefore f p context (guard p k (step.Burst context))
IsPastGuarded f p k s = Unit {0}

-- no step of a guarded run reaches the fault
unfoldable pub IsPastGuardedFrom : Fault → PartState → Known → List Event → Type 0
IsPastGuardedFrom f p k [] = Unit {0}
IsPastGuardedFrom f p k (e ∷ events) = IsPastGuarded f p k (step_of e)
    × IsPastGuardedFrom f (state_after (guarded p k (step_of e)) (step_of e)) (known_after k e) events

-- no burst of a part's guarded run reaches the fault
abbrev pub IsUnreachedGuarded : Fault → PartSpec → List Event → Type 0
IsUnreachedGuarded f spec journal = IsPastGuardedFrom f (opening spec) (known_at_first spec) journal

-- a fault among the faults of a part, after this number of the part's own
abbrev pub inserted : ℕ → Fault → List Fault → List Fault
inserted count f faults = take count faults ++ f ∷ drop count faults

-- the same for the part at an index, which has this number of own faults
abbrev pub inserted_at : ℕ → ℕ → Fault → ℕ → List Fault → List Fault
inserted_at zero count f zero faults = inserted count f faults
inserted_at zero count f (suc n) faults = faults
inserted_at (suc index) count f zero faults = faults
inserted_at (suc index) count f (suc n) faults = inserted_at index count f n faults
