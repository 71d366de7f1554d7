use Rattle.std.specs.Prelude.{◌≡◌, ℕ, Bool, true, false, List, [], ◌∷◌, length, Option, Some, None, is_some, is_none}
use Rattle.std.specs.Prelude.{nat_lt, not, ◌+◌, ◌==◌, ◌&&◌, ◌||◌}
use Rattle.std.specs.List.{list_any}
use Rattle.nook_data.specs.Types.{Answer, Event, Losses, Mode, PartSpec, Stage}
use Rattle.nook_data.specs.declared.calls.Answer.TheVariants as answer
use Rattle.nook_data.specs.declared.steps.Event.TheVariants as event
use Rattle.nook_data.specs.declared.steps.Mode.TheVariants as mode
use Rattle.nook_data.specs.declared.calls.Op.TheVariants.{Send, Play}
use Rattle.nook_data.specs.declared.steps.Stage.TheVariants as stage
use Rattle.nook_data.specs.Answers.{answers_of}
use Rattle.promise_defs.specs.Blocks.{has_block}
use Rattle.promise_defs.specs.Contract.{Known, OpenCall, known_first, call_of, during, known_after}
use Rattle.nook_data.specs.Frames.{is_empty}
use Rattle.promise_defs.specs.Losses.{losses}
use Rattle.part_defs.specs.Runs.{state_after, step_of}
use Rattle.part_defs.specs.State.{PartState}
use Rattle.part_defs.specs.Steps.{opening}

-- Losses and busy answers occur only around a failure, or if a ring or a queue was full.

-- the two stages are the same
abbrev pub same_stage : Stage → Stage → Bool
same_stage stage.Stop stage.Stop = true
same_stage stage.Collect stage.Collect = true
same_stage stage.Reset stage.Reset = true
same_stage stage.Load stage.Load = true
same_stage stage.Init stage.Init = true
same_stage (stage.ReplaySet k v) (stage.ReplaySet key value) = (k == key) && (v == value)
same_stage stage.ReplayOpen stage.ReplayOpen = true
same_stage stage.Resume stage.Resume = true
same_stage a b = false

-- the current stage if the shadow answers: at an invocation while the part recovers, and at Stop
abbrev pub shadow_stage : Mode → Event → Option Stage
shadow_stage m (event.Invoke call thread o a) = elim m as (λ m. Option Stage) [ mode.Recovering s ↦ Some s | _ ↦ None ]
shadow_stage m (event.Stage stage.Stop answers released) = Some stage.Stop
shadow_stage m e = None

-- ---- one answer

-- the call is not an open Send or Play, or its frame was sent, or all its samples were played
abbrev pub is_served_call : Option OpenCall → Bool
is_served_call None = true
is_served_call (Some c) =
    elim c.op [ (Send frame) ↦ nat_lt 0 c.sent | (Play samples) ↦ c.played == length samples | _ ↦ true ]

-- the shadow answers, and this is the current stage
abbrev pub is_stage : Option Stage → Stage → Bool
is_stage None s = false
is_stage (Some current) s = same_stage current s

-- an answer to a call is allowed: `shadow` is the current stage if the shadow answers, `queue` is the kernel's queue,
-- and `k` is what is known during the event, with the calls that it answers still open
abbrev pub allows : Option Stage → List (List ℕ) → Known → ℕ → Answer → Bool
allows shadow queue k call answer.Done = is_some shadow || is_served_call (call_of call k.calls)
allows shadow queue k call (answer.Busy s) = is_stage shadow s
allows shadow queue k call answer.Empty = is_some shadow || is_empty queue && is_empty k.ring
allows shadow queue k call (answer.IoError block) =
    is_none shadow && elim (call_of call k.calls) [ None ↦ false | Some c ↦ has_block block c.failed ]
allows shadow queue k call a = true

-- an answer is not allowed
abbrev pub refuses : Option Stage → List (List ℕ) → Known → ℕ × Answer → Bool
refuses shadow queue k a = not (allows shadow queue k a.0 a.1)

-- ---- events

-- each answer of an event is allowed, given the state of its part and what is known
abbrev pub licenses : PartState → Known → Event → Bool
licenses p k e = not (list_any (refuses (shadow_stage p.mode e) p.queue k) (answers_of e))

-- each answer of the events is allowed, given the state of the part and what is known before them
unfoldable pub is_licensed_from : PartState → Known → List Event → Bool
is_licensed_from p k [] = true
is_licensed_from p k (e ∷ events) =
    licenses p (during k e) e && is_licensed_from (state_after p (step_of e)) (known_after k e) events

-- each frame that arrived was received, is in the queue, the ring or the driver, or is counted as lost
abbrev pub is_balanced : Losses → Bool
is_balanced n = n.arrived == n.received + n.queued + n.ring + n.driver + n.reset + n.full_ring + n.full_queue

-- a journal of a part has only licensed answers, and its frames are balanced
unfoldable pub is_licensed : PartSpec → List Event → Bool
is_licensed spec events =
    is_licensed_from (opening spec) (known_first spec.class spec.blocks) events && is_balanced (losses events)

-- the same as a proposition
abbrev pub IsLicensed : PartSpec → List Event → Type 0
IsLicensed spec events = is_licensed spec events ≡ true
