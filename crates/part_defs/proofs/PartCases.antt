-- Parts of the definitions under separate names, for laws that split an Option, a Result or a kind into cases. The
-- definitions contain the same parts inline.
use Rattle.std.specs.Prelude.{◌≡◌, ℕ, ◌+◌, ◌==◌, Bool, true, false, if◌then◌else◌, is_some, filter, map}
use Rattle.std.specs.Prelude.{Option, Some, None, Result, Ok, Err, List, [], length, slice_set}
use Rattle.nook_data.specs.Types.{Accept, Admit, Answer, BadParam, CallEntry, Context}
use Rattle.nook_data.specs.Types.{End, Fault, Op, Service, Stage}
use Rattle.nook_data.specs.declared.calls.Answer.TheVariants as answer
use Rattle.nook_data.specs.declared.calls.Op.TheVariants as op
use Rattle.nook_data.specs.declared.classes.Accept.TheVariants as accepts
use Rattle.nook_data.specs.declared.classes.Admit.TheVariants as admits
use Rattle.nook_data.specs.declared.machine.BurstEnd.TheVariants as ends
use Rattle.nook_data.specs.declared.steps.End.TheVariants as end
use Rattle.nook_data.specs.declared.steps.Event.TheVariants as event
use Rattle.nook_data.specs.declared.steps.FailCause.TheVariants as fail
use Rattle.nook_data.specs.declared.steps.Stage.TheVariants as stage
use Rattle.machine_defs.specs.Burst.{burst}
use Rattle.part_defs.specs.Calls.{Stepped, after_admit, answer_in, invoked_with, queue_in}
use Rattle.nook_data.specs.Classes.{admit, open_point}
use Rattle.part_defs.specs.Crossing.{Crossed, accepted_crossing, after_crossing, failed_crossing, heap_start}
use Rattle.part_defs.specs.Crossing.{refused_service, reply_answer, served_call}
use Rattle.part_defs.specs.Domain.{DomainBurst, after_burst, machine_of}
use Rattle.part_defs.specs.Log.{held_call, is_call, is_held, with_answered_call, with_call}
use Rattle.machine_defs.specs.Services.{served}
use Rattle.part_defs.specs.Stages.{stage_done, stage_step}
use Rattle.part_defs.specs.State.{CallLog, DomainState, PartState}
use Rattle.part_defs.specs.Steps.{served_number}

-- the end of a served give_back of an object that moved these words
abbrev pub IsGiveBack : ℕ → List ℕ → End → Type 0
IsGiveBack object words (end.Service number first second answer moved) =
    (number ≡ 5) × (first ≡ object) × (is_some answer ≡ true) × (moved ≡ words)
IsGiveBack object words _ = ⊥

-- a call of the thread
abbrev pub is_of_thread : ℕ → CallEntry → Bool
is_of_thread thread c = c.thread == thread

-- a new call: Held and never entered
abbrev pub new_entry : ℕ → ℕ → Op → CallEntry
new_entry call thread o = record { call = call; thread = thread; op = o; inside = false; attempts = 0 }

-- changes a call if it has the number
abbrev pub change_entry : ℕ → (CallEntry → CallEntry) → CallEntry → CallEntry
change_entry call f c = if is_call call c then f c else c

-- the configuration after an acknowledged operation
abbrev pub config_after : Op → List ℕ → List ℕ
config_after o config = elim o [ (op.Set key value) ↦ slice_set config key value | _ ↦ config ]

-- the thread that holds the stream after an acknowledged operation of a thread
abbrev pub holder_after : ℕ → Op → Option ℕ → Option ℕ
holder_after thread o holder = elim o [ op.Open ↦ Some thread | op.Close ↦ None | _ ↦ holder ]

-- the stage after the last ReplaySet: the stream is opened again if it has a holder
abbrev pub replay_stream : Option ℕ → Stage
replay_stream None = stage.Resume
replay_stream (Some thread) = stage.ReplayOpen

-- the calls that stay open at Stop, all Held
abbrev pub stop_calls : List CallEntry → List CallEntry
stop_calls pending = map held_call (filter (λ c. is_held c.op) pending)

-- a call that is answered at once is only counted; any other is open
abbrev pub log_after_invoke : ℕ → Op → Option Answer → CallLog → CallLog
log_after_invoke thread o a log = elim a [ None ↦ with_call thread o log | Some a ↦ with_answered_call log ]

-- an Invoke, by the result of the static check
abbrev pub invoked_by : PartState → ℕ → Op → Option Answer → Stepped
invoked_by p thread o None = invoked_with p thread o (answer_in p.mode thread o p) (queue_in p.mode o p.queue)
invoked_by p thread o (Some a) = invoked_with p thread o (Some a) p.queue

-- an Enter, by the open call of its thread
abbrev pub entered_by : PartState → ℕ → Option CallEntry → Stepped
entered_by p thread None = record { state = p; event = event.Enter 0 thread 0 None }
entered_by p thread (Some c) = after_admit p c (admit p.spec.class thread c.op p.log.holder (length p.queue))

-- a kernel call, by the result of its check
abbrev pub serve_by : ℕ → ℕ → PartState → Result Service BadParam → Crossed
serve_by number context p (Err bad) =
    failed_crossing p (refused_service number context p) (fail.BadParam bad.service bad.argument)
serve_by number context p (Ok s) =
    served_call number context (served (heap_start p) s p.domain.memory p.domain.entries p.queue) p

-- a reply, by the meaning of its status
abbrev pub reply_by : CallEntry → ℕ → PartState → Accept → Crossed
reply_by c status p accepts.Take = accepted_crossing c status (reply_answer c.op c.thread p) p
reply_by c status p (accepts.IoError block) = accepted_crossing c status (answer.IoError block) p
reply_by c status p (accepts.Fail cause) = failed_crossing p (end.Reply status) cause

-- a stage step, by the stage that is due
abbrev pub stage_by : PartState → Option Stage → Stepped
stage_by p None = stage_step stage.Resume p [] []
stage_by p (Some s) = stage_done s p

-- a call's number; 0 represents the shadow's own call
abbrev pub number_of_call : Option CallEntry → ℕ
number_of_call None = 0
number_of_call (Some c) = c.call

-- the part after a burst and its crossing, with the event of both
abbrev pub burst_event : ℕ → PartState → DomainBurst → Crossed → Stepped
burst_event context p b c = record {
  state = c.state;
  event = event.Burst context (served_number context p) (p.bursts + 1) b.count c.end b.acts c.answer c.failure;
}

-- the part after one more burst in its domain
abbrev pub with_burst : DomainState → PartState → PartState
with_burst d p = record p { domain = d; bursts = p.bursts + 1 }

-- a burst, followed by what its crossing requests
abbrev pub burst_step : ℕ → PartState → DomainBurst → Stepped
burst_step context p b = burst_event context p b (after_crossing context b.ending (with_burst b.domain p))

-- a burst of a context, by what runs in it
abbrev pub burst_by : ℕ → List Fault → DomainState → Option Context → DomainBurst
burst_by context faults d None = record { domain = d; count = 0; ending = ends.Pause; acts = [] }
burst_by context faults d (Some x) = after_burst context x (burst d.entries faults (machine_of x d)) d

-- the number of bursts of what runs in a context
abbrev pub bursts_of : Option Context → ℕ
bursts_of None = 0
bursts_of (Some x) = x.bursts

-- the result of a kernel call is in a register
abbrev pub with_result : ℕ → Option Context → Option Context
with_result word None = None
with_result word (Some x) = Some (record x { cpu = record x.cpu { registers = slice_set x.cpu.registers 1 word } })

-- an Open, by whether a thread holds the stream
abbrev pub admit_open : Option ℕ → Admit
admit_open o = elim o [ None ↦ admits.Enter open_point | Some other ↦ admits.Reply (answer.InUse other) ]

-- an open call after it goes Inside: one attempt more
abbrev pub entered_call : CallEntry → CallEntry
entered_call c = record c { inside = true; attempts = c.attempts + 1 }

-- a context in which nothing runs
abbrev pub no_context : Option Context
no_context = None
