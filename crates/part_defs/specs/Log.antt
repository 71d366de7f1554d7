use Rattle.std.specs.Prelude.{ℕ, zero, suc, ◌+◌, ◌-◌, ◌==◌, ◌&&◌, not, if◌then◌else◌, Bool, true, false, is_none}
use Rattle.std.specs.Prelude.{Option, Some, None, List, [], ◌∷◌, ◌++◌, filter, map, nat_lt, slice_index, slice_set}
use Rattle.std.specs.List.{find, list_any}
use Rattle.nook_data.specs.Types.{Answer, CallEntry, Class, Op, Stage}
use Rattle.nook_data.specs.declared.calls.Answer.TheVariants as answer
use Rattle.nook_data.specs.declared.calls.Op.TheVariants as op
use Rattle.nook_data.specs.declared.steps.Stage.TheVariants as stage
use Rattle.nook_data.specs.Classes.{conflicts, is_holder}
use Rattle.nook_data.specs.Frames.{tail_of}
use Rattle.part_defs.specs.State.{CallLog}

-- What the shadow records while the driver runs: the open calls, the record and the holder.

-- the initial log: no call was made, and the record has the defaults
unfoldable pub opening_log : List ℕ → CallLog
opening_log defaults = record { pending = []; count = 0; config = defaults; defaults = defaults; holder = None }

-- the call has the number
abbrev pub is_call : ℕ → CallEntry → Bool
is_call call c = c.call == call

-- the open call of a thread
abbrev pub call_of_thread : ℕ → List CallEntry → Option CallEntry
call_of_thread thread pending = find (λ c. c.thread == thread) pending

-- an open call by its number
abbrev pub open_call : ℕ → List CallEntry → Option CallEntry
open_call call pending = find (is_call call) pending

-- a call is invoked and stays open: it is Held and was never entered
unfoldable pub with_call : ℕ → Op → CallLog → CallLog
with_call thread o log =
    let call : CallEntry = record { call = log.count + 1; thread = thread; op = o; inside = false; attempts = 0 } in
    record log { pending = log.pending ++ call ∷ []; count = log.count + 1 }

-- a call is invoked and answered at once: it only takes a number
unfoldable pub with_answered_call : CallLog → CallLog
with_answered_call log = record log { count = log.count + 1 }

-- an open call that becomes Held
abbrev pub held_call : CallEntry → CallEntry
held_call c = record c { inside = false }

-- the call goes Inside, with one attempt more
unfoldable pub after_entering : ℕ → CallLog → CallLog
after_entering call log =
    let enter : CallEntry → CallEntry = λ c. record c { inside = true; attempts = c.attempts + 1 } in
    record log { pending = map (λ c. if is_call call c then enter c else c) log.pending }

-- the call is no longer open
unfoldable pub after_answering : ℕ → CallLog → CallLog
after_answering call log = record log { pending = filter (λ c. not (is_call call c)) log.pending }

-- the driver's reply to an operation of a thread was accepted with status 0: a Set gives the configuration its value,
-- an Open gives the thread the stream, and a Close frees it
unfoldable pub after_acknowledging : ℕ → Op → CallLog → CallLog
after_acknowledging thread o log = record log {
  config = elim o [ (op.Set key value) ↦ slice_set log.config key value | _ ↦ log.config ];
  holder = elim o [ op.Open ↦ Some thread | op.Close ↦ None | _ ↦ log.holder ];
}

-- the earlier of two open calls blocks the other if its number is smaller and they conflict
abbrev pub blocks_call : Class → CallEntry → CallEntry → Bool
blocks_call class c earlier = nat_lt earlier.call c.call && conflicts class c.op earlier.op

-- the call is blocked: an open call with a smaller number conflicts with it
abbrev pub is_blocked : Class → CallEntry → List CallEntry → Bool
is_blocked class c pending = list_any (blocks_call class c) pending

-- The shadow's table: while the driver does not serve, an operation is answered here, or held.

-- the answer to a Recv from the kernel's queue
abbrev pub frame_or_empty : List (List ℕ) → Answer
frame_or_empty queue = elim queue [ [] ↦ answer.Empty | (frame ∷ rest) ↦ answer.Frame frame ]

-- the shadow's answer to an operation of a thread at a stage; None if the call is held. The samples of a Play are
-- dropped if its caller holds the stream
unfoldable pub shadow_answer : Op → ℕ → List ℕ → Option ℕ → Stage → List (List ℕ) → Option Answer
shadow_answer (op.Send frame) thread config holder s queue = Some answer.Done
shadow_answer op.Recv thread config holder s queue = Some (frame_or_empty queue)
shadow_answer op.Open thread config holder s queue = Some (answer.Busy s)
shadow_answer (op.Play samples) thread config holder s queue =
    Some (if is_holder holder thread then answer.Done else answer.NotOpen)
shadow_answer (op.Get key) thread config holder s queue = Some (answer.Value (slice_index config key))
shadow_answer _ thread config holder s queue = None

-- the shadow's table has no answer to the operation, whatever the caller and the state: the call is held
abbrev pub is_held : Op → Bool
is_held o = is_none (shadow_answer o 0 [] None stage.Stop [])

-- the queue after the shadow's answer: a Recv takes its first frame
abbrev pub queue_after : Op → List (List ℕ) → List (List ℕ)
queue_after op.Recv queue = tail_of queue
queue_after _ queue = queue

-- the replay of the first key whose value differs from its default, of this many keys from `key` on; after the last
-- key, the stream is opened again if a thread holds it
abbrev pub next_replay : ℕ → ℕ → List ℕ → List ℕ → Option ℕ → Stage
next_replay key zero config defaults holder = elim holder [ None ↦ stage.Resume | Some thread ↦ stage.ReplayOpen ]
next_replay key (suc more) config defaults holder = if slice_index config key == slice_index defaults key
    then next_replay (key + 1) more config defaults holder
    else stage.ReplaySet key (slice_index config key)

-- the stage after Init or a replay: Resume after ReplayOpen; no other stages occur here
unfoldable pub replay_after : Stage → CallLog → Stage
replay_after stage.Init log = next_replay 0 4 log.config log.defaults log.holder
replay_after (stage.ReplaySet key value) log = next_replay (key + 1) (3 - key) log.config log.defaults log.holder
replay_after _ log = stage.Resume

-- the stage after a stage of a recovery; None after Resume
abbrev pub following : Stage → CallLog → Option Stage
following stage.Stop log = Some stage.Collect
following stage.Collect log = Some stage.Reset
following stage.Reset log = Some stage.Load
following stage.Load log = Some stage.Init
following stage.Resume log = None
following s log = Some (replay_after s log)

-- Stop: each open call is answered by the shadow's table or held, in the order of numbers; if the part is given up,
-- each is answered Gone

-- puts an answer, if any, before those of the later calls
abbrev pub with_answer : ℕ → Option Answer → List (ℕ × Answer) → List (ℕ × Answer)
with_answer call None answers = answers
with_answer call (Some a) answers = (call, a) ∷ answers

-- the answers; each sees the queue that the earlier calls left
abbrev pub stop_answers : List CallEntry → List ℕ → Option ℕ → List (List ℕ) → List (ℕ × Answer)
stop_answers [] config holder queue = []
stop_answers (c ∷ pending) config holder queue =
    with_answer c.call (shadow_answer c.op c.thread config holder stage.Stop queue)
    (stop_answers pending config holder (queue_after c.op queue))

-- the queue after the open calls
abbrev pub stop_queue : List CallEntry → List (List ℕ) → List (List ℕ)
stop_queue [] queue = queue
stop_queue (c ∷ pending) queue = stop_queue pending (queue_after c.op queue)

-- a given-up part's answers to the open calls
abbrev pub gone_answers : ℕ → List CallEntry → List (ℕ × Answer)
gone_answers failures pending = map (λ c. (c.call, answer.Gone failures)) pending

-- the log after Stop within the limit: the calls without an answer in the table stay open, all Held
abbrev pub held_by_shadow : CallLog → CallLog
held_by_shadow log = record log { pending = map held_call (filter (λ c. is_held c.op) log.pending) }

-- the log after Stop past the limit
abbrev pub no_call_open : CallLog → CallLog
no_call_open log = record log { pending = [] }
