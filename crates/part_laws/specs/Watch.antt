use Rattle.std.specs.Prelude.{ℕ, suc, Bool, true, false, List, [], ◌∷◌, ◌++◌, length, map, drop, Option, Some, None}
use Rattle.std.specs.Prelude.{is_some, is_none, nat_lt, min, ◌==◌, ◌&&◌, ◌||◌, not, if◌then◌else◌, slice_index}
use Rattle.std.specs.Prelude.{slice_set, bytes_eq}
use Rattle.nook_data.specs.declared.machine.Act.{Act}
use Rattle.nook_data.specs.declared.machine.Act.TheVariants as act
use Rattle.nook_data.specs.declared.calls.Answer.{Answer}
use Rattle.nook_data.specs.declared.calls.Answer.TheVariants as answered
use Rattle.nook_data.specs.declared.verdicts.Break.{Break}
use Rattle.nook_data.specs.declared.classes.Class.{Class}
use Rattle.nook_data.specs.declared.steps.End.{End}
use Rattle.nook_data.specs.declared.steps.End.TheVariants as ends
use Rattle.nook_data.specs.declared.steps.Event.{Event}
use Rattle.nook_data.specs.declared.steps.Event.TheVariants as event
use Rattle.nook_data.specs.declared.steps.FailCause.{FailCause}
use Rattle.nook_data.specs.declared.calls.Op.{Op}
use Rattle.nook_data.specs.declared.calls.Op.TheVariants.{Read, Write, Send, Recv, Play, Get, Set}
use Rattle.nook_data.specs.declared.steps.Stage.{Stage}
use Rattle.nook_data.specs.declared.steps.Stage.TheVariants as stages
use Rattle.promise_defs.specs.Blocks.{blank_blocks, get_blocks, has_block, holds_from, words_for}
use Rattle.nook_data.specs.Classes.{covers, defaults_of, is_write, is_next, is_play, sends}
use Rattle.nook_data.specs.Numbered.{at_number, change_number, number_where}
use Rattle.promise_defs.specs.Contract.{is_front, is_replay_of, is_replayed, sets}
use Rattle.nook_data.specs.Frames.{is_empty}

-- The contract of a class as one fold that keeps all calls in the order of their numbers. The proof of the recovery
-- theorem uses it. The contract to believe is the one in nook_defs; over a run both are first broken at the same event,
-- by the same clause.

-- a call: whether it is Inside; how many frames its bursts sent, and how many of its samples were played; and, in its
-- attempt, whether a frame was handed up, and on which blocks a command failed
pub record Watched : Type 0 where
  pub op : Op
  pub inside : Bool
  pub sent : ℕ
  pub played : ℕ
  pub handed : Bool
  pub failed : List ℕ

-- what a monitor knows after some events: the medium, the ring and the registers after them; the frames popped and the
-- frames handed up since the last Load; all calls in the order of their numbers; the key and value of the ReplaySet
-- that is Inside; and the smallest clause that the events so far broke
pub record Watch : Type 0 where
  pub class : Class
  pub medium : List (List ℕ)
  pub ring : List (List ℕ)
  pub registers : List ℕ
  pub popped : List (List ℕ)
  pub handed : List (List ℕ)
  pub calls : List Watched
  pub replay : Option (ℕ × ℕ)
  pub clause : Option ℕ

-- what it knows at first, of a disk with this number of blocks
abbrev pub first_watch : Class → ℕ → Watch
first_watch class size = record {
  class = class;
  medium = blank_blocks class size;
  ring = [];
  registers = defaults_of class;
  popped = [];
  handed = [];
  calls = [];
  replay = None;
  clause = None;
}

abbrev pub smaller_clause : ℕ → Option ℕ → ℕ
smaller_clause clause None = clause
smaller_clause clause (Some other) = min clause other

-- the smallest broken clause; this clause is kept exactly if the test holds
abbrev pub required : Bool → ℕ → Option ℕ → Option ℕ
required true clause broken = broken
required false clause broken = Some (smaller_clause clause broken)

-- ---- calls

abbrev pub watched : Op → Watched
watched o = record { op = o; inside = false; sent = 0; played = 0; handed = false; failed = [] }

-- the call is entered; it is Inside if it got no answer
abbrev pub enters : Bool → Watched → Watched
enters inside c = record c { inside = inside; handed = false; failed = [] }

abbrev pub leaves : Watched → Watched
leaves c = record c { inside = false }

abbrev pub sent_once : Watched → Watched
sent_once c = record c { sent = suc c.sent }

abbrev pub played_one : Watched → Watched
played_one c = record c { played = suc c.played }

abbrev pub handed_one : Watched → Watched
handed_one c = record c { handed = true }

abbrev pub failed_at : ℕ → Watched → Watched
failed_at block c = record c { failed = block ∷ c.failed }

-- ---- clauses 1 and 2: stores

-- a Write that is Inside and covers the block
abbrev pub stores_at : ℕ → Watched → Bool
stores_at block c = c.inside && is_write c.op && covers c.op block

abbrev pub is_covered : ℕ → List Watched → Bool
is_covered block [] = false
is_covered block (c ∷ calls) = stores_at block c || is_covered block calls

-- each Write that is Inside and covers the block has these words for it
abbrev pub is_agreed : ℕ → List ℕ → List Watched → Bool
is_agreed block words [] = true
is_agreed block words (c ∷ calls) =
    (not (stores_at block c) || bytes_eq words (words_for c.op block)) && is_agreed block words calls

-- ---- clauses 5 and 6: frames sent

abbrev pub is_own_frame : List ℕ → Option Watched → Bool
is_own_frame frame None = false
is_own_frame frame (Some c) = sends frame c.op

abbrev pub is_first_frame : Option Watched → Bool
is_first_frame None = true
is_first_frame (Some c) = c.sent == 0

-- ---- clause 8: frames handed up

-- ---- clause 10: samples played

abbrev pub is_playing : Watched → Bool
is_playing c = c.inside && is_play c.op

abbrev pub is_next_of : ℕ → Option Watched → Bool
is_next_of word None = false
is_next_of word (Some c) = is_next c.op c.played word

-- ---- clause 12: registers changed

abbrev pub is_setting : ℕ → ℕ → List Watched → Bool
is_setting key value [] = false
is_setting key value (c ∷ calls) = c.inside && sets key value c.op || is_setting key value calls

-- the register has the value, or a Set or ReplaySet that gives it is Inside
abbrev pub may_register : ℕ → ℕ → Watch → Bool
may_register key value w =
    (slice_index w.registers key == value) || is_setting key value w.calls || is_replay_of key value w.replay

-- ---- the acts of a burst of a call, 0 for the shadow's own

abbrev pub sees_act : ℕ → Act → Watch → Watch
sees_act call (act.Load block) w = w
sees_act call (act.Failed block store) w = record w { calls = change_number (failed_at block) call w.calls }
sees_act call (act.Store block words) w = record w {
  medium = slice_set w.medium block words;
  clause = required (is_covered block w.calls) 1 (required (is_agreed block words w.calls) 2 w.clause);
}
sees_act call (act.Sent frame) w = record w {
  calls = change_number sent_once call w.calls;
  clause = required (is_own_frame frame (at_number call w.calls)) 5
      (required (is_first_frame (at_number call w.calls)) 6 w.clause);
}
sees_act call (act.Popped frame) w = record w { ring = drop 1 w.ring; popped = w.popped ++ frame ∷ [] }
sees_act call (act.Played word rate volume) w = record w {
  calls = change_number played_one (number_where is_playing w.calls) w.calls;
  clause = required (is_next_of word (at_number (number_where is_playing w.calls) w.calls)) 10 w.clause;
}
sees_act call (act.Register key value) w = record w {
  registers = slice_set w.registers key value;
  clause = required (may_register key value w) 12 w.clause;
}

abbrev pub sees_acts : ℕ → List Act → Watch → Watch
sees_acts call [] w = w
sees_acts call (a ∷ acts) w = sees_acts call acts (sees_act call a w)

-- ---- replies that are accepted

-- the smallest broken clause after a call's reply is accepted with this answer
abbrev pub owes : Watched → Op → Answer → Watch → Option ℕ
owes c (Write first words) answered.Done w = required (holds_from 0 (Write first words) w.medium) 3 w.clause
owes c (Read first count) (answered.Blocks words) w =
    required (bytes_eq words (get_blocks w.medium first count)) 4 w.clause
owes c (Send frame) answered.Done w = required (nat_lt 0 c.sent) 7 w.clause
owes c Recv a w = required (is_empty w.ring || c.handed) 9 w.clause
owes c (Play samples) answered.Done w = required (c.played == length samples) 11 w.clause
owes c (Set key value) answered.Done w = required (slice_index w.registers key == value) 13 w.clause
owes c (Get key) (answered.Value word) w = required (slice_index w.registers key == word) 14 w.clause
owes c (Read first count) (answered.IoError block) w = required (has_block block c.failed) 15 w.clause
owes c (Write first words) (answered.IoError block) w = required (has_block block c.failed) 15 w.clause
owes c o a w = w.clause

abbrev pub owes_found : Option Watched → Answer → Watch → Option ℕ
owes_found None a w = w.clause
owes_found (Some c) a w = owes c c.op a w

-- a reply with its answer; the shadow's own calls have none
abbrev pub sees_reply : ℕ → Option Answer → Watch → Watch
sees_reply call (Some a) w = record w
    { calls = change_number leaves call w.calls; clause = owes_found (at_number call w.calls) a w }
sees_reply call None w = record w { replay = None; clause = required (is_replayed w.replay w.registers) 13 w.clause }

-- ---- the crossing of a burst

-- service 6 hands a frame up
abbrev pub hands_up : ℕ → Option ℕ → Bool
hands_up service result = (service == 6) && is_some result

-- a kernel call, with the words that it moved
abbrev pub sees_service : Bool → ℕ → List ℕ → Watch → Watch
sees_service up call moved w = record w {
  handed = if up then w.handed ++ moved ∷ [] else w.handed;
  calls = if up then change_number handed_one call w.calls else w.calls;
  clause = required (not up || is_front (w.handed ++ moved ∷ []) w.popped) 8 w.clause;
}

-- a failure ends the ReplaySet; calls stay Inside until the next Stop
abbrev pub sees_crossing : ℕ → End → Option Answer → Option FailCause → Watch → Watch
sees_crossing call end a (Some cause) w = record w { replay = None }
sees_crossing call (ends.Service service first second result moved) a None w =
    sees_service (hands_up service result) call moved w
sees_crossing call (ends.Reply status) a None w = sees_reply call a w
sees_crossing call ends.Pause a None w = w
sees_crossing call ends.Trap a None w = w

-- ---- events

abbrev pub sees_stage : Stage → Watch → Watch
sees_stage stages.Stop w = record w { calls = map leaves w.calls }
sees_stage stages.Reset w = record w { ring = []; registers = defaults_of w.class }
sees_stage stages.Load w = record w { popped = []; handed = [] }
sees_stage (stages.ReplaySet key value) w = record w { replay = Some (key, value) }
sees_stage s w = w

-- what the monitor knows after one more event
abbrev pub sees : Watch → Event → Watch
sees w (event.Invoke call thread o a) = record w { calls = w.calls ++ watched o ∷ [] }
sees w (event.Enter call thread attempt a) = record w { calls = change_number (enters (is_none a)) call w.calls }
sees w (event.Burst context call burst count end acts a failure) =
    sees_crossing call end a failure (sees_acts call acts w)
sees w (event.Stage stage answers released) = sees_stage stage w
sees w (event.Arrive frame kept) = record w { ring = if kept then w.ring ++ frame ∷ [] else w.ring }

-- ---- the first break

-- the break of this event if it breaks a clause, otherwise that of the later ones
abbrev pub break_at : Option ℕ → ℕ → Option Break → Option Break
break_at None number later = later
break_at (Some clause) number later = Some (record { event = number; clause = clause })

-- the first break of consecutive events, numbered from `number` on
unfoldable pub break_from : ℕ → Watch → List Event → Option Break
break_from number w [] = None
break_from number w (e ∷ events) = break_at (sees w e).clause number (break_from (suc number) (sees w e) events)

-- the first event that breaks a clause, with the smallest clause that it breaks
unfoldable pub watched_break : Class → ℕ → List Event → Option Break
watched_break class size events = break_from 1 (first_watch class size) events
