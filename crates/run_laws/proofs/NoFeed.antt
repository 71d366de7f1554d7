-- The text of an event has no line feed.
use Rattle.std.proofs.Common.{◌≡◌, ℕ, true, false, None, Some, Option, List, [], ◌∷◌, ◌++◌, ◌==◌, not, refl, codes, decimal}
use Rattle.std.proofs.lemmas.Bool.{and_from, and_parts}
use Rattle.report_defs.specs.ReportLines.{act_text, acts_tail, answer_tail, answer_text, cause_tail, cause_text}
use Rattle.report_defs.specs.ReportLines.{end_text, event_text, inner_words, op_text, released_text, result_text}
use Rattle.report_defs.specs.ReportLines.{spaced, stage_text, trap_text, with_list, with_number}
use Rattle.report_defs.specs.Views.Reporting.{answers_tail, comma_words, kept_text, moved_text, released_tail}
use Rattle.report_defs.specs.Views.Reporting.{right_text, words_text}
use Rattle.nook_data.specs.declared.machine.Act.{Act}
use Rattle.nook_data.specs.declared.machine.Act.TheVariants as act
use Rattle.nook_data.specs.declared.calls.Answer.{Answer}
use Rattle.nook_data.specs.declared.calls.Answer.TheVariants as answered
use Rattle.nook_data.specs.declared.steps.End.{End}
use Rattle.nook_data.specs.declared.steps.End.TheVariants as ends
use Rattle.nook_data.specs.declared.entries.Entry.{Entry}
use Rattle.nook_data.specs.declared.entries.Entry.TheVariants as entry
use Rattle.nook_data.specs.declared.steps.Event.{Event}
use Rattle.nook_data.specs.declared.steps.Event.TheVariants as event
use Rattle.nook_data.specs.declared.steps.FailCause.{FailCause}
use Rattle.nook_data.specs.declared.steps.FailCause.TheVariants as cause
use Rattle.nook_data.specs.declared.calls.Op.{Op}
use Rattle.nook_data.specs.declared.calls.Op.TheVariants as op
use Rattle.nook_data.specs.declared.steps.Stage.{Stage}
use Rattle.nook_data.specs.declared.steps.Stage.TheVariants as stages
use Rattle.nook_data.specs.declared.machine.TrapCause.{TrapCause}
use Rattle.nook_data.specs.declared.machine.TrapCause.TheVariants as trap
use Rattle.run_laws.proofs.Lines.{has_no_feed}
use Rattle.run_laws.proofs.Words.{decimal_no_feed}

-- a text with no line feed
abbrev pub IsPlain : List ℕ → Type 0
IsPlain text = has_no_feed text ≡ true

pub plain : (a b : List ℕ) → IsPlain a → IsPlain b → IsPlain (a ++ b)
plain [] b h k = k
plain (byte ∷ a) b h k =
    let parts = and_parts (not (byte == 10)) (has_no_feed a) h in
    and_from (not (byte == 10)) (has_no_feed (a ++ b)) parts.0 (plain a b parts.1 k)

-- ---- numbers and words

-- a number, and what follows it
number : (n : ℕ) (rest : List ℕ) → IsPlain rest → IsPlain (decimal n ++ rest)
number n rest h = plain (decimal n) rest (decimal_no_feed n) h

comma_plain : (words : List ℕ) → IsPlain (comma_words words)
comma_plain [] = refl
comma_plain (word ∷ words) = number word (comma_words words) (comma_plain words)

inner_plain : (words : List ℕ) → IsPlain (inner_words words)
inner_plain [] = refl
inner_plain (word ∷ words) = number word (comma_words words) (comma_plain words)

words_plain : (words : List ℕ) → IsPlain (words_text words)
words_plain words = plain (inner_words words) (codes "]") (inner_plain words) refl

-- ---- names

op_plain : (o : Op) → IsPlain (op_text o)
op_plain (op.Read first count) = number first (spaced count) (decimal_no_feed count)
op_plain (op.Write first words) = number first (with_list (codes " ") words) (words_plain words)
op_plain (op.Send frame) = words_plain frame
op_plain op.Recv = refl
op_plain op.Open = refl
op_plain (op.Play samples) = words_plain samples
op_plain op.Close = refl
op_plain (op.Get key) = decimal_no_feed key
op_plain (op.Set key value) = number key (spaced value) (decimal_no_feed value)

stage_plain : (s : Stage) → IsPlain (stage_text s)
stage_plain stages.Stop = refl
stage_plain stages.Collect = refl
stage_plain stages.Reset = refl
stage_plain stages.Load = refl
stage_plain stages.Init = refl
stage_plain (stages.ReplaySet key value) = number key (spaced value) (decimal_no_feed value)
stage_plain stages.ReplayOpen = refl
stage_plain stages.Resume = refl

answer_plain : (a : Answer) → IsPlain (answer_text a)
answer_plain answered.Done = refl
answer_plain (answered.Blocks words) = words_plain words
answer_plain (answered.Value word) = decimal_no_feed word
answer_plain (answered.Frame frame) = words_plain frame
answer_plain answered.Empty = refl
answer_plain (answered.Busy stage) = stage_plain stage
answer_plain (answered.InUse holder) = decimal_no_feed holder
answer_plain answered.NotOpen = refl
answer_plain answered.BadRange = refl
answer_plain answered.BadLength = refl
answer_plain answered.BadKey = refl
answer_plain answered.BadValue = refl
answer_plain answered.BadClass = refl
answer_plain (answered.IoError block) = decimal_no_feed block
answer_plain (answered.Gone failures) = decimal_no_feed failures

trap_plain : (t : TrapCause) → IsPlain (trap_text t)
trap_plain trap.BadOpcode = refl
trap_plain trap.BadFetch = refl
trap_plain (trap.BadRead address) = decimal_no_feed address
trap_plain (trap.ForeignWrite address) = decimal_no_feed address
trap_plain (trap.BadPort port) = decimal_no_feed port
trap_plain trap.Hang = refl
trap_plain trap.Explicit = refl
trap_plain trap.Injected = refl

cause_plain : (c : FailCause) → IsPlain (cause_text c)
cause_plain (cause.Trap t) = trap_plain t
cause_plain (cause.BadParam service argument) = number service (spaced argument) (decimal_no_feed argument)
cause_plain cause.TooManyCrossings = refl
cause_plain (cause.BadReply status) = decimal_no_feed status
cause_plain (cause.BadInit status) = decimal_no_feed status

act_plain : (a : Act) → IsPlain (act_text a)
act_plain (act.Load block) = decimal_no_feed block
act_plain (act.Store block words) = number block (with_list (codes " ") words) (words_plain words)
act_plain (act.Failed block true) = decimal_no_feed block
act_plain (act.Failed block false) = decimal_no_feed block
act_plain (act.Sent frame) = words_plain frame
act_plain (act.Popped frame) = words_plain frame
act_plain (act.Played word rate volume) = number word (spaced rate ++ spaced volume) (number rate (spaced volume) (decimal_no_feed volume))
act_plain (act.Register key value) = number key (spaced value) (decimal_no_feed value)

moved_plain : (words : List ℕ) → IsPlain (moved_text words)
moved_plain [] = refl
moved_plain (word ∷ words) = words_plain (word ∷ words)

result_plain : (result : Option ℕ) (moved : List ℕ) → IsPlain (result_text result moved)
result_plain None moved = refl
result_plain (Some result) moved = number result (moved_text moved) (moved_plain moved)

end_plain : (e : End) → IsPlain (end_text e)
end_plain (ends.Service service first second result moved) =
    number service (spaced first ++ (spaced second ++ result_text result moved))
    (number first (spaced second ++ result_text result moved) (number second (result_text result moved) (result_plain result moved)))
end_plain (ends.Reply status) = decimal_no_feed status
end_plain ends.Pause = refl
end_plain ends.Trap = refl

released_plain : (e : Entry) → IsPlain (released_text e)
released_plain (entry.Heap start len) = number start (spaced len) (decimal_no_feed len)
released_plain (entry.Borrow object start) = number object (spaced start) (decimal_no_feed start)
released_plain (entry.Buffer context true) = number context (right_text true) refl
released_plain (entry.Buffer context false) = number context (right_text false) refl
released_plain (entry.Registration live) = refl

-- ---- how a line may end

answer_tail_plain : (a : Option Answer) → IsPlain (answer_tail a)
answer_tail_plain None = refl
answer_tail_plain (Some a) = answer_plain a

cause_tail_plain : (c : Option FailCause) → IsPlain (cause_tail c)
cause_tail_plain None = refl
cause_tail_plain (Some c) = cause_plain c

acts_tail_plain : (acts : List Act) → IsPlain (acts_tail acts)
acts_tail_plain [] = refl
acts_tail_plain (a ∷ acts) = plain (act_text a) (acts_tail acts) (act_plain a) (acts_tail_plain acts)

answers_tail_plain : (answers : List (ℕ × Answer)) → IsPlain (answers_tail answers)
answers_tail_plain [] = refl
answers_tail_plain (a ∷ answers) =
    plain (with_number (codes " -> c") a.0 ++ (codes " " ++ answer_text a.1)) (answers_tail answers)
    (number a.0 (codes " " ++ answer_text a.1) (answer_plain a.1)) (answers_tail_plain answers)

released_tail_plain : (released : List Entry) → IsPlain (released_tail released)
released_tail_plain [] = refl
released_tail_plain (e ∷ released) = plain (released_text e) (released_tail released) (released_plain e) (released_tail_plain released)

-- ---- events

pub event_plain : (e : Event) → IsPlain (event_text e)
event_plain (event.Invoke call thread o a) =
    number call (with_number (codes " t") thread ++ (codes " " ++ (op_text o ++ answer_tail a)))
    (number thread (codes " " ++ (op_text o ++ answer_tail a)) (plain (op_text o) (answer_tail a) (op_plain o) (answer_tail_plain a)))
event_plain (event.Enter call thread attempt a) =
    number call (with_number (codes " x") thread ++ (with_number (codes " try ") attempt ++ answer_tail a))
    (number thread (with_number (codes " try ") attempt ++ answer_tail a) (number attempt (answer_tail a) (answer_tail_plain a)))
event_plain (event.Burst context call burst count end acts a failure) =
    number context _ (number call _ (number burst _ (number count _
    (plain (end_text end) (acts_tail acts ++ (answer_tail a ++ cause_tail failure)) (end_plain end)
    (plain (acts_tail acts) (answer_tail a ++ cause_tail failure) (acts_tail_plain acts)
    (plain (answer_tail a) (cause_tail failure) (answer_tail_plain a) (cause_tail_plain failure)))))))
event_plain (event.Stage stage answers released) =
    plain (stage_text stage) (answers_tail answers ++ released_tail released) (stage_plain stage)
    (plain (answers_tail answers) (released_tail released) (answers_tail_plain answers) (released_tail_plain released))
event_plain (event.Arrive frame true) = plain (words_text frame) (kept_text true) (words_plain frame) refl
event_plain (event.Arrive frame false) = plain (words_text frame) (kept_text false) (words_plain frame) refl
