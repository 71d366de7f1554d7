use Rattle.std.specs.Prelude.{◌≡◌, ◌≤◌, ℕ, ◌+◌, nat_le, if◌then◌else◌, List, [], ◌∷◌}
use Rattle.nook_data.specs.Types.{Act, Event, Fault, PartSpec, Step}
use Rattle.nook_data.specs.declared.machine.BurstEnd.TheVariants as ends
use Rattle.nook_data.specs.declared.machine.TrapCause.TheVariants as trap
use Rattle.nook_data.specs.declared.steps.Step.TheVariants as step
use Rattle.guard_defs.specs.Every.{turns_made}
use Rattle.guard_defs.specs.Guard.{with_own}
use Rattle.machine_defs.specs.Burst.{Burst}
use Rattle.part_defs.specs.Domain.{context_of}
use Rattle.part_defs.specs.Runs.{IsRun, state_after, state_of, step_of}
use Rattle.part_defs.specs.State.{PartState}
use Rattle.part_defs.specs.Steps.{opening}

-- What a fault does not change: the events before its burst, and the bursts that do not reach its position.

-- a part of a scenario with other faults
abbrev pub with_faults : List Fault → PartSpec → PartSpec
with_faults faults spec = record spec { faults = faults }

-- with these faults the events are a run exactly if they are one without, and lead to a part that differs only in them
pub record IsSameRun (spec : PartSpec) (faults : List Fault) (events : List Event) : Type 0 where
  pub there : IsRun spec events → IsRun (with_faults faults spec) events
  pub back : IsRun (with_faults faults spec) events → IsRun spec events
  pub state : state_of (with_faults faults spec) events ≡ with_own faults (state_of spec events)

-- a fault is inserted after the faults of a burst that strike no later, and before those that strike later
abbrev pub put_after : Fault → List Fault → List Fault
put_after f [] = f ∷ []
put_after f (g ∷ faults) = if nat_le g.after f.after then g ∷ put_after f faults else f ∷ g ∷ faults

-- a step does not reach a fault: it is not the fault's burst, or executes at most as many instructions as precede it
abbrev pub IsPast : Fault → PartState → Step → Type 0
IsPast f p (step.Burst context) = p.bursts + 1 ≡ f.burst
    → turns_made p (context_of context p.domain.contexts) ≤ f.after
IsPast f p s = Unit {0}

-- no step of the events reaches the fault
unfoldable pub IsPastFrom : Fault → PartState → List Event → Type 0
IsPastFrom f p [] = Unit {0}
IsPastFrom f p (e ∷ events) = IsPast f p (step_of e) × IsPastFrom f (state_after p (step_of e)) events

-- no burst of a part's journal reaches the fault
abbrev pub IsUnreached : Fault → PartSpec → List Event → Type 0
IsUnreached f spec journal = IsPastFrom f (opening spec) journal

-- faults in increasing order of their positions, the first at this position or later
abbrev pub IsRising : ℕ → List Fault → Type 0
IsRising point [] = Unit {0}
IsRising point (f ∷ faults) = (point ≤ f.after) × IsRising f.after faults

-- a burst that an injected trap ends after this number of instructions, with these acts
pub record IsCutShort (turns : ℕ) (acts : List Act) (b : Burst) : Type 0 where
  pub acts_of_turns : b.acts ≡ acts
  pub count : b.count ≡ turns
  pub ending : b.ending ≡ ends.Trap trap.Injected
