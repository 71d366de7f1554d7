use Rattle.std.specs.Prelude.{ℕ, ◌+◌, ◌*◌, ◌==◌, ◌&&◌, if◌then◌else◌, Bool, true, false, Option, Some, None, Ok, Err}
use Rattle.std.specs.Prelude.{[], length, slice_index, slice_set}
use Rattle.nook_data.specs.Types.{Answer, BurstEnd, CallEntry, End, FailCause, Mode, Op, Stage}
use Rattle.nook_data.specs.declared.classes.Accept.TheVariants as accepts
use Rattle.nook_data.specs.declared.calls.Answer.TheVariants as answer
use Rattle.nook_data.specs.declared.steps.End.TheVariants as end
use Rattle.nook_data.specs.declared.steps.FailCause.TheVariants as fail
use Rattle.nook_data.specs.declared.steps.Mode.TheVariants as mode
use Rattle.nook_data.specs.declared.calls.Op.TheVariants as op
use Rattle.nook_data.specs.declared.steps.Stage.TheVariants as stage
use Rattle.nook_data.specs.declared.limits.TheConstants.{BLOCK_WORDS, MOST_BURSTS, SHADOW}
use Rattle.nook_data.specs.declared.memory_map.TheConstants.{DATA_START}
use Rattle.nook_data.specs.declared.machine.BurstEnd.TheVariants as ends
use Rattle.nook_data.specs.Classes.{accept}
use Rattle.part_defs.specs.Domain.{first_argument, second_argument, attempt_bursts, result_set, left_domain, noted}
use Rattle.part_defs.specs.Domain.{buffer_words}
use Rattle.machine_defs.specs.Entries.{is_registered}
use Rattle.part_defs.specs.Log.{call_of_thread, after_acknowledging, after_answering, frame_or_empty, queue_after}
use Rattle.nook_data.specs.Layout.{buffer_start}
use Rattle.machine_defs.specs.Services.{Served, checked, served}
use Rattle.part_defs.specs.Stages.{mode_after}
use Rattle.part_defs.specs.State.{DomainState, PartState}

-- What the crossing at the end of a burst requests is done in the same step.

-- the part after a crossing, and what the event shows of it
pub record Crossed : Type 0 where
  pub state : PartState
  pub end : End
  pub answer : Option Answer
  pub failure : Option FailCause

-- Failures

-- the shadow's own call ends
abbrev pub without_shadow : DomainState → DomainState
without_shadow d = record d { contexts = slice_set d.contexts SHADOW None }

-- a failure is counted, also in object 0; the shadow's call ends, and the part recovers, beginning with Stop
unfoldable pub fails : PartState → PartState
fails p = record p {
  domain = noted 4 (p.failures + 1) (without_shadow p.domain);
  mode = mode.Recovering stage.Stop;
  failures = p.failures + 1;
}

-- a crossing with a failure: nothing is answered
abbrev pub failed_crossing : PartState → End → FailCause → Crossed
failed_crossing p e cause = record { state = fails p; end = e; answer = None; failure = Some cause }

-- a crossing that does not end a call: nothing is answered, and nothing fails
abbrev pub goes_on : PartState → End → Crossed
goes_on p e = record { state = p; end = e; answer = None; failure = None }

-- the burst was the last that an attempt may have
abbrev pub is_last : ℕ → PartState → Bool
is_last context p = attempt_bursts context p.domain == MOST_BURSTS

-- Kernel calls

-- a kernel call that is not served
abbrev pub refused_service : ℕ → ℕ → PartState → End
refused_service number context p =
    end.Service number (first_argument context p.domain) (second_argument context p.domain) None []

-- the start of the driver's heap, after the initial words of its image
abbrev pub heap_start : PartState → ℕ
heap_start p = DATA_START + length p.spec.image.initial

-- the crossing of a served call: the event shows the answer and the words that were moved; the answer is in a register
abbrev pub served_call : ℕ → ℕ → Served → PartState → Crossed
served_call number context s p = goes_on
    (record p {
      domain = result_set context s.answer (record p.domain { memory = s.memory; entries = s.entries });
      queue = s.queue;
    })
    (end.Service number (first_argument context p.domain) (second_argument context p.domain) (Some s.answer) s.moved)

-- a kernel call by its number, with the first two arguments that the driver passes: a bad argument makes
-- the driver fail; otherwise the call is served
abbrev pub kernel_call : ℕ → ℕ → PartState → Crossed
kernel_call number context p =
    let first : ℕ = first_argument context p.domain in
    elim (checked number first (second_argument context p.domain) p.spec.class p.domain.entries) [
      | Err bad ↦ failed_crossing p (refused_service number context p) (fail.BadParam bad.service bad.argument)
      | Ok s ↦ served_call number context (served (heap_start p) s p.domain.memory p.domain.entries p.queue) p
    ]

-- Replies of the shadow's own calls

-- the stage of a boot or a recovery; in other modes the shadow has no call, so no reply needs a stage
abbrev pub stage_in : Mode → Stage
stage_in m =
    elim m [ (mode.Boot s) ↦ s | (mode.Recovering s) ↦ s | mode.Running ↦ stage.Resume | (mode.Dead c) ↦ stage.Collect ]

-- the stage is Init
abbrev pub is_init : Stage → Bool
is_init s = elim s [ stage.Init ↦ true | _ ↦ false ]

-- the mode after the shadow's call was accepted: a boot resumes, a recovery continues; other modes have no such call
abbrev pub next_mode : Mode → PartState → Mode
next_mode (mode.Boot s) p = mode.Boot stage.Resume
next_mode (mode.Recovering s) p = mode_after s p.log (mode.Recovering s)
next_mode m p = m

-- the shadow's call is accepted: the status is 0, and after Init the driver is registered
abbrev pub is_accepted : ℕ → PartState → Bool
is_accepted status p = status == 0 && (if is_init (stage_in p.mode) then is_registered p.domain.entries else true)

-- the failure if a reply to the shadow is refused
abbrev pub shadow_fault : ℕ → Stage → FailCause
shadow_fault status s = if is_init s then fail.BadInit status else fail.BadReply status

-- the shadow's call is over, and the next stage is due
unfoldable pub next_stage : PartState → PartState
next_stage p = record p { domain = left_domain SHADOW p.domain; mode = next_mode p.mode p }

-- the crossing of a reply to the shadow's own call
abbrev pub shadow_replied : ℕ → PartState → Crossed
shadow_replied status p =
    if is_accepted status p then goes_on (next_stage p) (end.Reply status)
    else failed_crossing p (end.Reply status) (shadow_fault status (stage_in p.mode))

-- Replies of applications' calls

-- the answer to an operation whose reply has status 0
abbrev pub reply_answer : Op → ℕ → PartState → Answer
reply_answer (op.Read first count) thread p = answer.Blocks (buffer_words thread (BLOCK_WORDS * count) p.domain)
reply_answer op.Recv thread p = frame_or_empty p.queue
reply_answer (op.Get key) thread p = answer.Value (slice_index p.domain.memory (buffer_start thread))
reply_answer _ thread p = answer.Done

-- an acknowledged Set is noted in object 0
abbrev pub noted_set : Op → DomainState → DomainState
noted_set (op.Set key value) d = noted key value d
noted_set _ d = d

-- the call is answered: its buffer is no longer lent, and the record and the holder are updated
unfoldable pub closes_call : CallEntry → PartState → PartState
closes_call c p = record p {
  domain = noted_set c.op (left_domain c.thread p.domain);
  log = after_answering c.call (after_acknowledging c.thread c.op p.log);
  queue = queue_after c.op p.queue;
}

-- an accepted reply answers its call
abbrev pub accepted_crossing : CallEntry → ℕ → Answer → PartState → Crossed
accepted_crossing c status a p =
    record { state = closes_call c p; end = end.Reply status; answer = Some a; failure = None }

-- the reply to a thread's open call is accepted, reports a failure of the medium, or fails the driver. A context with
-- no open call has no burst, so it does not reply
abbrev pub call_replied : ℕ → PartState → Option CallEntry → Crossed
call_replied status p None = goes_on p (end.Reply status)
call_replied status p (Some c) = elim (accept c.op status) [
  | accepts.Take ↦ accepted_crossing c status (reply_answer c.op c.thread p) p
  | (accepts.IoError block) ↦ accepted_crossing c status (answer.IoError block) p
  | (accepts.Fail cause) ↦ failed_crossing p (end.Reply status) cause
]

-- a reply, by the context that replies
abbrev pub after_reply : ℕ → ℕ → PartState → Crossed
after_reply status context p = if context == SHADOW then shadow_replied status p
    else call_replied status p (call_of_thread context p.log.pending)

-- the crossing of a context: a trap; a 32nd burst that is not a reply; a kernel call; a pause; a reply
unfoldable pub after_crossing : ℕ → BurstEnd → PartState → Crossed
after_crossing context (ends.Trap cause) p = failed_crossing p end.Trap (fail.Trap cause)
after_crossing context (ends.Kcall number) p =
    if is_last context p then failed_crossing p (refused_service number context p) fail.TooManyCrossings
    else kernel_call number context p
after_crossing context ends.Pause p =
    if is_last context p then failed_crossing p end.Pause fail.TooManyCrossings else goes_on p end.Pause
after_crossing context (ends.Reply status) p = after_reply status context p
