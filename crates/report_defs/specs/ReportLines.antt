use Rattle.std.specs.Prelude.{if◌then◌else◌, ℕ, suc, List, [], ◌∷◌, ◌++◌, flat_map, Option, Some, None, codes, decimal}
use Rattle.nook_data.specs.Types.{Act, Answer, End, Entry, Event, FailCause, Op, Stage, TrapCause}
use Rattle.nook_data.specs.declared.calls.Answer.TheVariants as answered
use Rattle.nook_data.specs.declared.calls.Op.TheVariants as op
use Rattle.nook_data.specs.declared.entries.Entry.TheVariants as entry
use Rattle.nook_data.specs.declared.machine.Act.TheVariants as act
use Rattle.nook_data.specs.declared.machine.TrapCause.TheVariants as trap
use Rattle.nook_data.specs.declared.steps.End.TheVariants as ends
use Rattle.nook_data.specs.declared.steps.Event.TheVariants as event
use Rattle.nook_data.specs.declared.steps.FailCause.TheVariants as cause
use Rattle.nook_data.specs.declared.steps.Stage.TheVariants as stages

-- The text of an event: one line of a report.

-- ---- pieces

-- a word and a number
abbrev pub with_number : List ℕ → ℕ → List ℕ
with_number text number = text ++ decimal number

-- a space and a number
abbrev pub spaced : ℕ → List ℕ
spaced number = with_number (codes " ") number

-- words with commas between them
abbrev pub inner_words : List ℕ → List ℕ
inner_words [] = []
inner_words (word ∷ words) = decimal word ++ flat_map (with_number (codes ",")) words

-- a text and words in brackets
abbrev pub with_list : List ℕ → List ℕ → List ℕ
with_list text words = text ++ (codes "[" ++ (inner_words words ++ codes "]"))

-- the end of a line
abbrev pub line_feed : List ℕ
line_feed = 10 ∷ []

-- ---- names

-- an operation with its numbers
abbrev pub op_text : Op → List ℕ
op_text (op.Read first count) = with_number (codes "read ") first ++ spaced count
op_text (op.Write first words) = with_number (codes "write ") first ++ with_list (codes " ") words
op_text (op.Send frame) = with_list (codes "send ") frame
op_text op.Recv = codes "recv"
op_text op.Open = codes "open"
op_text (op.Play samples) = with_list (codes "play ") samples
op_text op.Close = codes "close"
op_text (op.Get key) = with_number (codes "get ") key
op_text (op.Set key value) = with_number (codes "set ") key ++ spaced value

-- a stage
abbrev pub stage_text : Stage → List ℕ
stage_text stages.Stop = codes "stop"
stage_text stages.Collect = codes "collect"
stage_text stages.Reset = codes "reset"
stage_text stages.Load = codes "load"
stage_text stages.Init = codes "init"
stage_text (stages.ReplaySet key value) = with_number (codes "replay_set ") key ++ spaced value
stage_text stages.ReplayOpen = codes "replay_open"
stage_text stages.Resume = codes "resume"

-- an answer
abbrev pub answer_text : Answer → List ℕ
answer_text answered.Done = codes "done"
answer_text (answered.Blocks words) = with_list (codes "data ") words
answer_text (answered.Value word) = with_number (codes "value ") word
answer_text (answered.Frame frame) = with_list (codes "frame ") frame
answer_text answered.Empty = codes "empty"
answer_text (answered.Busy stage) = codes "busy " ++ stage_text stage
answer_text (answered.InUse holder) = with_number (codes "in_use ") holder
answer_text answered.NotOpen = codes "not_open"
answer_text answered.BadRange = codes "bad_range"
answer_text answered.BadLength = codes "bad_length"
answer_text answered.BadKey = codes "bad_key"
answer_text answered.BadValue = codes "bad_value"
answer_text answered.BadClass = codes "bad_class"
answer_text (answered.IoError block) = with_number (codes "io_error ") block
answer_text (answered.Gone failures) = with_number (codes "gone ") failures

-- why a burst ended with a trap
abbrev pub trap_text : TrapCause → List ℕ
trap_text trap.BadOpcode = codes "bad_opcode"
trap_text trap.BadFetch = codes "bad_fetch"
trap_text (trap.BadRead address) = with_number (codes "bad_read ") address
trap_text (trap.ForeignWrite address) = with_number (codes "foreign_write ") address
trap_text (trap.BadPort port) = with_number (codes "bad_port ") port
trap_text trap.Hang = codes "hang"
trap_text trap.Explicit = codes "explicit"
trap_text trap.Injected = codes "injected"

-- why a driver failed
abbrev pub cause_text : FailCause → List ℕ
cause_text (cause.Trap t) = codes "trap " ++ trap_text t
cause_text (cause.BadParam service argument) = with_number (codes "bad_param ") service ++ spaced argument
cause_text cause.TooManyCrossings = codes "too_many_crossings"
cause_text (cause.BadReply status) = with_number (codes "bad_reply ") status
cause_text (cause.BadInit status) = with_number (codes "bad_init ") status

-- a device act
abbrev pub act_text : Act → List ℕ
act_text (act.Load block) = with_number (codes "load ") block
act_text (act.Store block words) = with_number (codes "store ") block ++ with_list (codes " ") words
act_text (act.Failed block store) =
    with_number (if store then codes "failed store " else codes "failed load ") block
act_text (act.Sent frame) = with_list (codes "sent ") frame
act_text (act.Popped frame) = with_list (codes "popped ") frame
act_text (act.Played word rate volume) = with_number (codes "played ") word ++ (spaced rate ++ spaced volume)
act_text (act.Register key value) = with_number (codes "register ") key ++ spaced value

-- the result of a kernel call if it was served, and the words that it moved if there are any
abbrev pub result_text : Option ℕ → List ℕ → List ℕ
result_text None moved = []
result_text (Some result) moved = with_number (codes " = ") result
    ++ elim moved [ [] ↦ [] | (word ∷ words) ↦ with_list (codes " ") (word ∷ words) ]

-- how a burst ended
abbrev pub end_text : End → List ℕ
end_text (ends.Service service first second result moved) =
    with_number (codes "service ") service ++ (spaced first ++ (spaced second ++ result_text result moved))
end_text (ends.Reply status) = with_number (codes "reply ") status
end_text ends.Pause = codes "pause"
end_text ends.Trap = codes "trap"

-- what a Collect released; for a buffer, also whether the driver could write it
abbrev pub released_text : Entry → List ℕ
released_text (entry.Heap start len) = with_number (codes " heap ") start ++ spaced len
released_text (entry.Borrow object start) = with_number (codes " borrow ") object ++ spaced start
released_text (entry.Buffer context writable) =
    with_number (codes " buffer ") context ++ (if writable then codes " write" else codes " read")
released_text (entry.Registration live) = []

-- ---- optional ends of a line

-- an answer at the end of a line, if there is one
abbrev pub answer_tail : Option Answer → List ℕ
answer_tail None = []
answer_tail (Some a) = codes " -> " ++ answer_text a

-- a failure at the end of a line, if there is one
abbrev pub cause_tail : Option FailCause → List ℕ
cause_tail None = []
cause_tail (Some c) = codes " ! " ++ cause_text c

-- acts at the end of a line
abbrev pub acts_tail : List Act → List ℕ
acts_tail acts = flat_map (λ a. codes " | " ++ act_text a) acts

-- ---- events

-- an event without its number; a frame that arrived is kept or lost
abbrev pub event_text : Event → List ℕ
event_text (event.Invoke call thread o a) =
    with_number (codes "invoke c") call
    ++ (with_number (codes " t") thread ++ (codes " " ++ (op_text o ++ answer_tail a)))
event_text (event.Enter call thread attempt a) =
    with_number (codes "enter c") call
    ++ (with_number (codes " x") thread ++ (with_number (codes " try ") attempt ++ answer_tail a))
event_text (event.Burst context call burst count end acts a failure) =
    with_number (codes "burst x") context ++ (with_number (codes " c") call ++ (with_number (codes " b") burst
    ++ (with_number (codes " n") count
    ++ (codes " " ++ (end_text end ++ (acts_tail acts ++ (answer_tail a ++ cause_tail failure)))))))
event_text (event.Stage stage answers released) =
    codes "stage " ++ (stage_text stage
    ++ (flat_map (λ a. with_number (codes " -> c") a.0 ++ (codes " " ++ answer_text a.1)) answers
    ++ flat_map released_text released))
event_text (event.Arrive frame kept) =
    with_list (codes "arrive ") frame ++ (if kept then codes " kept" else codes " lost")

-- the line of an event with its number
unfoldable pub event_line : ℕ → Event → List ℕ
event_line position e = decimal position ++ (codes " " ++ (event_text e ++ line_feed))

-- the lines of events, numbered from `position` on
unfoldable pub event_lines : ℕ → List Event → List ℕ
event_lines position [] = []
event_lines position (e ∷ events) = event_line position e ++ event_lines (suc position) events
