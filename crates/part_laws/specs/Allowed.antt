use Rattle.std.specs.Prelude.{◌≡◌, ℕ, Bool, true, false, List, [], ◌∷◌, length, Option, Some, None, is_some, is_none}
use Rattle.std.specs.Prelude.{nat_lt, ◌+◌, ◌==◌, ◌&&◌, ◌||◌}
use Rattle.nook_data.specs.declared.calls.Answer.{Answer}
use Rattle.nook_data.specs.declared.calls.Answer.TheVariants as answered
use Rattle.nook_data.specs.declared.steps.Event.{Event}
use Rattle.nook_data.specs.declared.steps.Event.TheVariants as event
use Rattle.nook_data.specs.declared.verdicts.Losses.{Losses}
use Rattle.nook_data.specs.declared.steps.Mode.TheVariants as mode
use Rattle.nook_data.specs.declared.steps.Mode.{Mode}
use Rattle.nook_data.specs.declared.calls.Op.{Op}
use Rattle.nook_data.specs.declared.calls.Op.TheVariants.{Send, Play}
use Rattle.nook_data.specs.declared.scenario.PartSpec.{PartSpec}
use Rattle.nook_data.specs.declared.steps.Stage.{Stage}
use Rattle.nook_data.specs.declared.steps.Stage.TheVariants as stages
use Rattle.promise_defs.specs.Blocks.{has_block}
use Rattle.part_laws.specs.Watch.{Watch, Watched, first_watch, sees}
use Rattle.part_laws.specs.Counts.{counted_losses}
use Rattle.nook_data.specs.Numbered.{at_number}
use Rattle.part_defs.specs.Runs.{state_after, step_of}
use Rattle.part_defs.specs.State.{PartState}
use Rattle.part_defs.specs.Steps.{opening}
use Rattle.promise_defs.specs.Licence.{is_balanced, is_stage, same_stage, shadow_stage}
use Rattle.nook_data.specs.Frames.{is_empty}

-- Which losses and busy answers are licensed, by the fold of the contract. This is proved first; over a run it is the
-- licence that nook_defs defines.

-- ---- when the shadow answers

-- the stage of a recovery
abbrev pub recovery_stage : Mode → Option Stage
recovery_stage (mode.Recovering s) = Some s
recovery_stage m = None

-- ---- one answer

-- a call that may be answered Done: its frame was sent, or all its samples were played
abbrev pub is_served : Op → Watched → Bool
is_served (Send frame) c = nat_lt 0 c.sent
is_served (Play samples) c = c.played == length samples
is_served o c = true

abbrev pub is_served_found : Option Watched → Bool
is_served_found None = true
is_served_found (Some c) = is_served c.op c

-- a command on the block failed in the attempt
abbrev pub has_failed : ℕ → Option Watched → Bool
has_failed block None = false
has_failed block (Some c) = has_block block c.failed

-- whether an answer is licensed: `shadow` is the current stage if the shadow answers, `queue` is the kernel's queue,
-- and `w` is what the monitor knows after the event
abbrev pub allows : Option Stage → List (List ℕ) → Watch → ℕ → Answer → Bool
allows shadow queue w call answered.Done = is_some shadow || is_served_found (at_number call w.calls)
allows shadow queue w call (answered.Busy s) = is_stage shadow s
allows shadow queue w call answered.Empty = is_some shadow || is_empty queue && is_empty w.ring
allows shadow queue w call (answered.IoError block) = is_none shadow && has_failed block (at_number call w.calls)
allows shadow queue w call a = true

-- ---- events

abbrev pub allows_option : Option Stage → List (List ℕ) → Watch → ℕ → Option Answer → Bool
allows_option shadow queue w call None = true
allows_option shadow queue w call (Some a) = allows shadow queue w call a

abbrev pub allows_each : Option Stage → List (List ℕ) → Watch → List (ℕ × Answer) → Bool
allows_each shadow queue w [] = true
allows_each shadow queue w (a ∷ answers) = allows shadow queue w a.0 a.1 && allows_each shadow queue w answers

abbrev pub allows_event : Option Stage → List (List ℕ) → Watch → Event → Bool
allows_event shadow queue w (event.Invoke call thread o a) = allows_option shadow queue w call a
allows_event shadow queue w (event.Enter call thread attempt a) = allows_option shadow queue w call a
allows_event shadow queue w (event.Burst context call burst count end acts a failure) =
    allows_option shadow queue w call a
allows_event shadow queue w (event.Stage s answers released) = allows_each shadow queue w answers
allows_event shadow queue w (event.Arrive frame kept) = true

-- whether an event of a part in this state is licensed; the monitor knows `w` after it
abbrev pub licenses : PartState → Watch → Event → Bool
licenses p w e = allows_event (shadow_stage p.mode e) p.queue w e

-- the same of consecutive events of a part in this state; the monitor knows `w` before them
unfoldable pub licensed_from : PartState → Watch → List Event → Bool
licensed_from p w [] = true
licensed_from p w (e ∷ events) = licenses p (sees w e) e && licensed_from (state_after p (step_of e)) (sees w e) events

-- the same of a journal of a part
unfoldable pub licensed : PartSpec → List Event → Bool
licensed spec events =
    licensed_from (opening spec) (first_watch spec.class spec.blocks) events && is_balanced (counted_losses events)

abbrev pub IsAllowed : PartSpec → List Event → Type 0
IsAllowed spec events = licensed spec events ≡ true
