use Rattle.std.specs.Prelude.{◌≡◌, ℕ, if◌then◌else◌, true, is_some, Option, Some, None, List, [], ◌∷◌, ◌++◌}
use Rattle.std.specs.Option.{option_or}
use Rattle.nook_data.specs.Types.{CallEntry, Event, PartSpec, Step}
use Rattle.nook_data.specs.declared.steps.Event.TheVariants as event
use Rattle.nook_data.specs.declared.steps.Step.TheVariants as step
use Rattle.nook_data.specs.declared.limits.TheConstants.{SHADOW}
use Rattle.part_defs.specs.Log.{call_of_thread}
use Rattle.part_defs.specs.State.{PartState}
use Rattle.part_defs.specs.Steps.{opening, enabled, stepped}

-- a part with its journal
pub record PartRun : Type 0 where
  pub state : PartState
  pub journal : List Event

-- the initial run: nothing has happened
abbrev pub opening_run : PartSpec → PartRun
opening_run spec = record { state = opening spec; journal = [] }

-- the part after a step
abbrev pub state_after : PartState → Step → PartState
state_after p s = (stepped p s).state

-- the event that a step makes
abbrev pub event_of : PartState → Step → Event
event_of p s = (stepped p s).event

-- the part after a step: the journal has its event
abbrev pub run_after : PartRun → Step → PartRun
run_after r s = record { state = state_after r.state s; journal = r.journal ++ event_of r.state s ∷ [] }

-- the step that an event names
abbrev pub step_of : Event → Step
step_of (event.Invoke call thread o answer) = step.Invoke thread o
step_of (event.Enter call thread attempt answer) = step.Enter thread
step_of (event.Burst context call burst count end acts answer failure) = step.Burst context
step_of (event.Stage stage answers released) = step.Stage
step_of (event.Arrive frame kept) = step.Arrive frame

-- from a part on, the events are made by their steps, each of which may be taken
unfoldable pub IsRunFrom : PartState → List Event → Type 0
IsRunFrom p [] = Unit {0}
IsRunFrom p (e ∷ events) =
    (enabled p (step_of e) ≡ true) × (event_of p (step_of e) ≡ e) × IsRunFrom (state_after p (step_of e)) events

-- the part after the steps of the events
unfoldable pub state_from : PartState → List Event → PartState
state_from p [] = p
state_from p (e ∷ events) = state_from (state_after p (step_of e)) events

-- the journal is a run of the part
abbrev pub IsRun : PartSpec → List Event → Type 0
IsRun spec journal = IsRunFrom (opening spec) journal

-- the part at the end of a journal
abbrev pub state_of : PartSpec → List Event → PartState
state_of spec journal = state_from (opening spec) journal

-- The next step

-- a step if it may be taken, else another
abbrev pub if_enabled : PartState → Step → Option Step → Option Step
if_enabled p s others = if enabled p s then Some s else others

-- the Enter or Burst of a thread's open call, if it may be taken; None if the thread has no open call
unfoldable pub next_for : PartState → ℕ → Option Step
next_for p thread = if is_some (call_of_thread thread p.log.pending)
    then if_enabled p (step.Enter thread) (if_enabled p (step.Burst thread) None) else None

-- the stage or the burst of the shadow's context, if it may be taken
unfoldable pub next_recovery : PartState → Option Step
next_recovery p = if_enabled p step.Stage (if_enabled p (step.Burst SHADOW) None)

-- the next step of the first call that has one
abbrev pub next_of_calls : PartState → List CallEntry → Option Step
next_of_calls p [] = None
next_of_calls p (c ∷ calls) = option_or (next_for p c.thread) (next_of_calls p calls)

-- the recovery's step, else the step of the open call with the smallest number that has one
unfoldable pub next_any : PartState → Option Step
next_any p = option_or (next_recovery p) (next_of_calls p p.log.pending)
