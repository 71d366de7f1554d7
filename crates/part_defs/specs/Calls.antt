use Rattle.std.specs.Prelude.{ℕ, ◌+◌, Option, Some, None, List, length}
use Rattle.nook_data.specs.Types.{Admit, Answer, CallEntry, Event, Mode, Op}
use Rattle.nook_data.specs.declared.classes.Admit.TheVariants as admits
use Rattle.nook_data.specs.declared.calls.Answer.TheVariants as answer
use Rattle.nook_data.specs.declared.steps.Event.TheVariants as event
use Rattle.nook_data.specs.declared.steps.Mode.TheVariants as mode
use Rattle.nook_data.specs.Classes.{static_check, admit}
use Rattle.nook_data.specs.Frames.{head_of, tail_of}
use Rattle.part_defs.specs.Domain.{entered_domain}
use Rattle.part_defs.specs.Log.{after_answering, after_entering, call_of_thread, queue_after, shadow_answer}
use Rattle.part_defs.specs.Log.{with_answered_call, with_call}
use Rattle.part_defs.specs.State.{CallLog, PartState}

-- the part after a step, and the step's one event
pub record Stepped : Type 0 where
  pub state : PartState
  pub event : Event

-- the answer that the mode gives to an operation that passed the static check; None if the call is held
abbrev pub answer_in : Mode → ℕ → Op → PartState → Option Answer
answer_in (mode.Recovering s) thread o p = shadow_answer o thread p.log.config p.log.holder s p.queue
answer_in (mode.Dead collected) thread o p = Some (answer.Gone p.failures)
answer_in _ thread o p = None

-- the queue after the invocation of an operation that passed the static check
abbrev pub queue_in : Mode → Op → List (List ℕ) → List (List ℕ)
queue_in (mode.Recovering s) o queue = queue_after o queue
queue_in _ o queue = queue

-- the part after an Invoke with its answer, if any: a call that is answered is only counted; any other is open
abbrev pub invoked_with : PartState → ℕ → Op → Option Answer → List (List ℕ) → Stepped
invoked_with p thread o a queue =
    let log : CallLog = elim a [ None ↦ with_call thread o p.log | Some a ↦ with_answered_call p.log ] in
    record { state = record p { log = log; queue = queue }; event = event.Invoke (p.log.count + 1) thread o a }

-- a thread invokes an operation: the static check answers it without other changes, or the mode answers or holds it
unfoldable pub after_invoke : ℕ → Op → PartState → Stepped
after_invoke thread o p = elim (static_check p.spec.class p.spec.blocks o) [
  | None ↦ invoked_with p thread o (answer_in p.mode thread o p) (queue_in p.mode o p.queue)
  | Some a ↦ invoked_with p thread o (Some a) p.queue
]

-- the event of an Enter, with the number of the attempt
abbrev pub entering : PartState → CallEntry → Option Answer → Event
entering p c a = event.Enter c.call c.thread (c.attempts + 1) a

-- a call that its class answers is over; any other begins an attempt
abbrev pub after_admit : PartState → CallEntry → Admit → Stepped
after_admit p c (admits.Reply a) =
    record { state = record p { log = after_answering c.call p.log }; event = entering p c (Some a) }
after_admit p c admits.TakeFrame = record {
  state = record p { log = after_answering c.call p.log; queue = tail_of p.queue };
  event = entering p c (Some (answer.Frame (head_of p.queue)));
}
after_admit p c (admits.Enter index) = record {
  state = record p { log = after_entering c.call p.log; domain = entered_domain c.thread index c.op p.domain };
  event = entering p c None;
}

-- a thread's held call is answered by the class, or goes Inside with its parameters copied from the log. A thread
-- without an open call may not take this step, so the first line is not reached
unfoldable pub after_enter : ℕ → PartState → Stepped
after_enter thread p = elim (call_of_thread thread p.log.pending) [
  | None ↦ record { state = p; event = event.Enter 0 thread 0 None }
  | Some c ↦ after_admit p c (admit p.spec.class thread c.op p.log.holder (length p.queue))
]
