use Rattle.std.specs.Prelude.{ℕ, suc, Bool, true, false, List, [], ◌∷◌, ◌++◌, map, filter, find, length, drop, fold}
use Rattle.std.specs.Prelude.{Option, Some, None, is_some, nat_lt, ◌==◌, ◌&&◌, ◌||◌, not, if◌then◌else◌, slice_index}
use Rattle.std.specs.Prelude.{slice_set, bytes_eq}
use Rattle.std.specs.List.{list_any}
use Rattle.nook_data.specs.Types.{Act, Answer, Break, Class, Clause, End, Event, FailCause, Op, Stage}
use Rattle.nook_data.specs.declared.clause.Clause.TheVariants.{UnaskedStore, OtherStore, UnstoredWrite, OtherRead}
use Rattle.nook_data.specs.declared.clause.Clause.TheVariants.{UnaskedFrame, SecondFrame, UnsentSend, OutOfOrder}
use Rattle.nook_data.specs.declared.clause.Clause.TheVariants.{LeftInRing, OtherSample, UnplayedPlay, UnaskedRegister}
use Rattle.nook_data.specs.declared.clause.Clause.TheVariants.{UnmadeSet, OtherGet, UnseenFailure}
use Rattle.nook_data.specs.declared.machine.Act.TheVariants as act
use Rattle.nook_data.specs.declared.calls.Answer.TheVariants as answer
use Rattle.nook_data.specs.declared.steps.End.TheVariants as end
use Rattle.nook_data.specs.declared.steps.Event.TheVariants as event
use Rattle.nook_data.specs.declared.calls.Op.TheVariants.{Read, Write, Send, Play, Get, Set}
use Rattle.nook_data.specs.declared.steps.Stage.TheVariants as stage
use Rattle.promise_defs.specs.Blocks.{blank_blocks, get_blocks, has_block, holds_from, words_for}
use Rattle.nook_data.specs.Classes.{covers, defaults_of, is_next, is_play, is_write, sends, is_recv}
use Rattle.nook_data.specs.Answers.{answers_of}
use Rattle.nook_data.specs.Clauses.{all_clauses, clause_number}
use Rattle.nook_data.specs.Frames.{is_empty}

-- The contract of a class is what a driver owes its device and its callers, in fifteen clauses. It is judged from the
-- events of a journal alone. Two things are defined separately: what is known after some events, and what the next
-- event breaks.

-- ---- what is known

-- an open call: whether it is Inside; how many frames were sent in its bursts, and how many of its samples were
-- played; and, in its current attempt, whether a frame was handed up and on which blocks a command failed
pub record OpenCall : Type 0 where
  pub number : ℕ
  pub op : Op
  pub inside : Bool
  pub sent : ℕ
  pub played : ℕ
  pub handed : Bool
  pub failed : List ℕ

-- what is known after some events: the medium, the ring and the registers after them; the frames popped and the
-- frames handed up since the last Load; the open calls in the order in which they were made; and the key and value of
-- the ReplaySet that is Inside
pub record Known : Type 0 where
  pub class : Class
  pub medium : List (List ℕ)
  pub ring : List (List ℕ)
  pub registers : List ℕ
  pub popped : List (List ℕ)
  pub handed : List (List ℕ)
  pub calls : List OpenCall
  pub replay : Option (ℕ × ℕ)

-- what is known at first, of a disk with this many blocks
abbrev pub known_first : Class → ℕ → Known
known_first class size = record {
  class = class;
  medium = blank_blocks class size;
  ring = [];
  registers = defaults_of class;
  popped = [];
  handed = [];
  calls = [];
  replay = None;
}

-- ---- what a driver does

-- one thing done in a burst
pub data Deed : Type 0 where
  -- a device act
  acts : Act → Deed
  -- a frame is handed up
  hands_up : List ℕ → Deed
  -- the reply of the burst's call is accepted, with this answer
  replies : Answer → Deed
  -- the reply of the shadow's own call is accepted
  replays : Deed

-- the deeds of a crossing: a served service 6 hands a frame up, and a reply without a failure is accepted
abbrev pub crossing_deeds : End → Option Answer → Option FailCause → List Deed
crossing_deeds (end.Service number first second result moved) a failure =
    if number == 6 && is_some result then hands_up moved ∷ [] else []
crossing_deeds (end.Reply status) (Some a) None = replies a ∷ []
crossing_deeds (end.Reply status) None None = replays ∷ []
crossing_deeds e a failure = []

-- the deeds of a burst: its acts in order, then those of its crossing
abbrev pub deeds_of : List Act → End → Option Answer → Option FailCause → List Deed
deeds_of done e a failure = map acts done ++ crossing_deeds e a failure

-- ---- questions about the open calls

-- the open call with a number
abbrev pub call_of : ℕ → List OpenCall → Option OpenCall
call_of number calls = find (λ c. c.number == number) calls

-- a Write that is Inside and covers a block
abbrev pub may_store : ℕ → OpenCall → Bool
may_store block c = c.inside && is_write c.op && covers c.op block

-- such a Write with other words for the block
abbrev pub stores_other : ℕ → List ℕ → OpenCall → Bool
stores_other block words c = may_store block c && not (bytes_eq words (words_for c.op block))

-- a Play that is Inside
abbrev pub is_playing : OpenCall → Bool
is_playing c = c.inside && is_play c.op

-- the Play that is Inside
abbrev pub play_inside : List OpenCall → Option OpenCall
play_inside calls = find is_playing calls

-- the sample is the next one of a Play
abbrev pub is_next_of : ℕ → Option OpenCall → Bool
is_next_of word o = elim o [ None ↦ false | Some c ↦ is_next c.op c.played word ]

-- the call is a Send of this frame
abbrev pub is_send_of : List ℕ → Option OpenCall → Bool
is_send_of frame o = elim o [ None ↦ false | Some c ↦ sends frame c.op ]

-- a Set of a key and value
abbrev pub sets : ℕ → ℕ → Op → Bool
sets key value o = elim o [ (Set k v) ↦ (k == key) && (v == value) | _ ↦ false ]

-- such a Set that is Inside
abbrev pub is_setting : ℕ → ℕ → OpenCall → Bool
is_setting key value c = c.inside && sets key value c.op

-- the ReplaySet is of this key and value
abbrev pub is_replay_of : ℕ → ℕ → Option (ℕ × ℕ) → Bool
is_replay_of key value o = elim o [ None ↦ false | Some set ↦ (set.0 == key) && (set.1 == value) ]

-- a Set or a ReplaySet that is Inside sets the register to this value
abbrev pub is_asked : ℕ → ℕ → Known → Bool
is_asked key value k = list_any (is_setting key value) k.calls || is_replay_of key value k.replay

-- the first list of frames is a prefix of the second
abbrev pub is_front : List (List ℕ) → List (List ℕ) → Bool
is_front [] frames = true
is_front (first ∷ more) [] = false
is_front (first ∷ more) (frame ∷ frames) = bytes_eq first frame && is_front more frames

-- the register has the value of the ReplaySet that is Inside, if there is one
abbrev pub is_replayed : Option (ℕ × ℕ) → List ℕ → Bool
is_replayed None registers = true
is_replayed (Some set) registers = slice_index registers set.0 == set.1

-- ---- the fifteen clauses

-- the deed, in a burst of this call (none for the shadow's own), breaks the clause
abbrev pub breaks : Clause → Known → Option OpenCall → Deed → Bool
-- 1: a block is stored that no Write Inside covers
breaks UnaskedStore k c (acts (act.Store block words)) = not (list_any (may_store block) k.calls)
-- 2: a block that a Write Inside covers is stored with words other than that Write's
breaks OtherStore k c (acts (act.Store block words)) = list_any (stores_other block words) k.calls
-- 3: a Write is accepted, but a block that it covers does not hold its words
breaks UnstoredWrite k (Some c) (replies answer.Done) = is_write c.op && not (holds_from 0 c.op k.medium)
-- 4: a Read is accepted with words other than the medium's
breaks OtherRead k (Some c) (replies (answer.Blocks words)) =
    elim c.op [ (Read first count) ↦ not (bytes_eq words (get_blocks k.medium first count)) | _ ↦ false ]
-- 5: a frame is sent outside a burst of a Send, or a frame other than that Send's
breaks UnaskedFrame k c (acts (act.Sent frame)) = not (is_send_of frame c)
-- 6: a second frame is sent in one Send
breaks SecondFrame k (Some c) (acts (act.Sent frame)) = nat_lt 0 c.sent
-- 7: a Send is accepted, but no frame was sent in it
breaks UnsentSend k (Some c) (replies answer.Done) = elim c.op [ (Send frame) ↦ c.sent == 0 | _ ↦ false ]
-- 8: after a frame is handed up, the frames handed up since the last Load are not the first of those popped since then
breaks OutOfOrder k c (hands_up frame) = not (is_front (k.handed ++ frame ∷ []) k.popped)
-- 9: a Recv is accepted while the ring is not empty, although no frame was handed up in a burst of that attempt
breaks LeftInRing k (Some c) (replies a) = is_recv c.op && not (is_empty k.ring) && not c.handed
-- 10: a sample is played that is not the next one of the Play Inside, or although no Play is Inside
breaks OtherSample k c (acts (act.Played word rate volume)) = not (is_next_of word (play_inside k.calls))
-- 11: a Play is accepted although it was not played to its end
breaks UnplayedPlay k (Some c) (replies answer.Done) =
    elim c.op [ (Play samples) ↦ not (c.played == length samples) | _ ↦ false ]
-- 12: a register is changed to a value that no Set or ReplaySet Inside gives it
breaks UnaskedRegister k c (acts (act.Register key value)) =
    not (slice_index k.registers key == value) && not (is_asked key value k)
-- 13: a Set or a ReplaySet is accepted, but the register does not hold its value
breaks UnmadeSet k (Some c) (replies answer.Done) =
    elim c.op [ (Set key value) ↦ not (slice_index k.registers key == value) | _ ↦ false ]
breaks UnmadeSet k c replays = not (is_replayed k.replay k.registers)
-- 14: a Get is accepted with a value other than the register's
breaks OtherGet k (Some c) (replies (answer.Value word)) =
    elim c.op [ (Get key) ↦ not (slice_index k.registers key == word) | _ ↦ false ]
-- 15: a Read or Write is accepted with an IoError of a block, although no command on it failed in that attempt
breaks UnseenFailure k (Some c) (replies (answer.IoError block)) = elim c.op [
  | (Read first count) ↦ not (has_block block c.failed)
  | (Write first words) ↦ not (has_block block c.failed)
  | _ ↦ false
]
breaks clause k c d = false

-- ---- what is known after a deed

-- the calls after the one with this number is changed
abbrev pub change_call : ℕ → (OpenCall → OpenCall) → List OpenCall → List OpenCall
change_call number change calls = map (λ c. if c.number == number then change c else c) calls

-- the Play after one more sample was played
abbrev pub played_more : OpenCall → OpenCall
played_more c = record c { played = suc c.played }

-- the calls after the first one that passes a test is changed; the others stay
abbrev pub change_first : (OpenCall → Bool) → (OpenCall → OpenCall) → List OpenCall → List OpenCall
change_first test change [] = []
change_first test change (c ∷ calls) = if test c then change c ∷ calls else c ∷ change_first test change calls

-- what is known after a deed in a burst of the call with this number
abbrev pub after_deed : ℕ → Known → Deed → Known
after_deed call k (acts (act.Load block)) = k
after_deed call k (acts (act.Failed block store)) = record k
    { calls = change_call call (λ c. record c { failed = block ∷ c.failed }) k.calls }
after_deed call k (acts (act.Store block words)) = record k { medium = slice_set k.medium block words }
after_deed call k (acts (act.Sent frame)) = record k
    { calls = change_call call (λ c. record c { sent = suc c.sent }) k.calls }
after_deed call k (acts (act.Popped frame)) = record k { ring = drop 1 k.ring; popped = k.popped ++ frame ∷ [] }
after_deed call k (acts (act.Played word rate volume)) = record k
    { calls = change_first is_playing played_more k.calls }
after_deed call k (acts (act.Register key value)) = record k { registers = slice_set k.registers key value }
after_deed call k (hands_up frame) = record k
    { handed = k.handed ++ frame ∷ []; calls = change_call call (λ c. record c { handed = true }) k.calls }
after_deed call k (replies a) = k
after_deed call k replays = record k { replay = None }

-- ---- what is known after an event

-- a new call is open, and not yet Inside
abbrev pub new_call : ℕ → Op → OpenCall
new_call number o = record
    { number = number; op = o; inside = false; sent = 0; played = 0; handed = false; failed = [] }

-- a call after an attempt ends: it stays open
abbrev pub leave_call : OpenCall → OpenCall
leave_call c = record c { inside = false }

-- after a stage: Stop ends each attempt, Reset clears the ring and sets the registers to their defaults, Load clears
-- the lists of frames popped and handed up, and a ReplaySet is Inside from its stage on
abbrev pub after_stage : Stage → Known → Known
after_stage stage.Stop k = record k { calls = map leave_call k.calls }
after_stage stage.Reset k = record k { ring = []; registers = defaults_of k.class }
after_stage stage.Load k = record k { popped = []; handed = [] }
after_stage (stage.ReplaySet key value) k = record k { replay = Some (key, value) }
after_stage s k = k

-- a failure ends the ReplaySet that was Inside; the calls stay Inside up to the next Stop
abbrev pub after_failure : Option FailCause → Known → Known
after_failure None k = k
after_failure (Some cause) k = record k { replay = None }

-- what is known after an event, except that the calls that it answers are still open
abbrev pub during : Known → Event → Known
during k (event.Invoke call thread o a) = record k { calls = k.calls ++ new_call call o ∷ [] }
during k (event.Enter call thread attempt a) = record k
    { calls = change_call call (λ c. record c { inside = true; handed = false; failed = [] }) k.calls }
during k (event.Burst context call burst count e done a failure) =
    after_failure failure (fold (after_deed call) k (deeds_of done e a failure))
during k (event.Stage s answers released) = after_stage s k
during k (event.Arrive frame kept) = record k { ring = if kept then k.ring ++ frame ∷ [] else k.ring }

-- the call is among those that were answered
abbrev pub is_answered_in : List (ℕ × Answer) → OpenCall → Bool
is_answered_in answers c = list_any (λ a. a.0 == c.number) answers

-- what is known after one more event: a call is open until an event answers it
abbrev pub known_after : Known → Event → Known
known_after k e = record (during k e) { calls = filter (λ c. not (is_answered_in (answers_of e) c)) (during k e).calls }

-- ---- the first break

-- one of the deeds, in order, breaks the clause
abbrev pub is_broken_by : Clause → ℕ → Known → List Deed → Bool
is_broken_by clause call k [] = false
is_broken_by clause call k (d ∷ ds) =
    breaks clause k (call_of call k.calls) d || is_broken_by clause call (after_deed call k d) ds

-- the clauses that an event breaks, in the order of their numbers
abbrev pub broken : Known → Event → List Clause
broken k (event.Burst context call burst count e done a failure) =
    filter (λ clause. is_broken_by clause call k (deeds_of done e a failure)) all_clauses
broken k e = []

-- the first break in consecutive events, numbered from `position` on
unfoldable pub break_from : ℕ → Known → List Event → Option Break
break_from position k [] = None
break_from position k (e ∷ events) = elim (broken k e) [
  | [] ↦ break_from (suc position) (known_after k e) events
  | (clause ∷ more) ↦ Some (record { event = position; clause = clause_number clause })
]

-- the first event that breaks a clause, with the smallest clause that it breaks
unfoldable pub first_break : Class → ℕ → List Event → Option Break
first_break class size events = break_from 1 (known_first class size) events
