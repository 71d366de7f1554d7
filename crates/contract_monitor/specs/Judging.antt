use Rattle.std.specs.Prelude.{ℕ, Bool, false, List, [], ◌∷◌, find, length, Option, Some, None, nat_lt, ◌==◌, ◌||◌, not}
use Rattle.std.specs.Prelude.{if◌then◌else◌, slice_index, bytes_eq}
use Rattle.std.specs.List.{list_any}
use Rattle.nook_data.specs.declared.machine.Act.{Act}
use Rattle.nook_data.specs.declared.machine.Act.TheVariants as act
use Rattle.nook_data.specs.declared.calls.Answer.{Answer}
use Rattle.nook_data.specs.declared.calls.Answer.TheVariants as answer
use Rattle.nook_data.specs.declared.steps.Event.{Event}
use Rattle.nook_data.specs.declared.steps.Event.TheVariants as event
use Rattle.nook_data.specs.declared.calls.Op.{Op}
use Rattle.nook_data.specs.declared.calls.Op.TheVariants.{Read, Write, Send, Recv, Play, Get, Set}
use Rattle.promise_defs.specs.Blocks.{get_blocks, has_block, holds_from}
use Rattle.nook_data.specs.declared.clause.Clause.{Clause}
use Rattle.nook_data.specs.declared.clause.Clause.TheVariants.{UnaskedStore, OtherStore, UnstoredWrite, OtherRead}
use Rattle.nook_data.specs.declared.clause.Clause.TheVariants.{UnaskedFrame, SecondFrame, UnsentSend, LeftInRing}
use Rattle.nook_data.specs.declared.clause.Clause.TheVariants.{OtherSample, UnplayedPlay, UnaskedRegister, UnmadeSet}
use Rattle.nook_data.specs.declared.clause.Clause.TheVariants.{OtherGet, UnseenFailure}
use Rattle.promise_defs.specs.Contract.{Deed, Known, OpenCall, replies, replays, breaks, deeds_of, is_asked}
use Rattle.nook_data.specs.Clauses.{all_clauses}
use Rattle.promise_defs.specs.Contract.{is_broken_by, is_next_of, is_send_of, play_inside, may_store}
use Rattle.nook_data.specs.Clauses.{clause_number}
use Rattle.promise_defs.specs.Contract.{stores_other}
use Rattle.nook_data.specs.Frames.{is_empty}

-- the clause with the smaller number
abbrev pub smaller : Option Clause → Option Clause → Option Clause
smaller None b = b
smaller (Some a) None = Some a
smaller (Some a) (Some b) = if nat_lt (clause_number b) (clause_number a) then Some b else Some a

-- the smallest clause that a deed breaks
abbrev pub least : Known → Option OpenCall → Deed → Option Clause
least k c d = find (λ clause. breaks clause k c d) all_clauses

-- the smallest clause that deeds break in order
abbrev pub first_broken : ℕ → Known → List Deed → Option Clause
first_broken call k ds = find (λ clause. is_broken_by clause call k ds) all_clauses

-- the smallest clause that an event breaks
abbrev pub event_broken : Known → Event → Option Clause
event_broken k (event.Burst context call burst count e done a failure) = first_broken call k (deeds_of done e a failure)
event_broken k e = None

-- ---- what each kind of deed can break

-- the clause, unless it is kept
abbrev pub unless : Bool → Clause → Option Clause
unless kept clause = if not kept then Some clause else None

abbrev pub had_frame : Option OpenCall → Bool
had_frame None = false
had_frame (Some c) = nat_lt 0 c.sent

abbrev pub store_broken : ℕ → List ℕ → Known → Option Clause
store_broken block words k =
    if not (list_any (may_store block) k.calls) then Some UnaskedStore
    else if list_any (stores_other block words) k.calls then Some OtherStore else None

abbrev pub sent_broken : List ℕ → Option OpenCall → Option Clause
sent_broken frame c =
    if not (is_send_of frame c) then Some UnaskedFrame else if had_frame c then Some SecondFrame else None

abbrev pub register_broken : ℕ → ℕ → Known → Option Clause
register_broken key value k = unless ((slice_index k.registers key == value) || is_asked key value k) UnaskedRegister

abbrev pub act_broken : Known → Option OpenCall → Act → Option Clause
act_broken k c (act.Store block words) = store_broken block words k
act_broken k c (act.Sent frame) = sent_broken frame c
act_broken k c (act.Played word rate volume) = unless (is_next_of word (play_inside k.calls)) OtherSample
act_broken k c (act.Register key value) = register_broken key value k
act_broken k c a = None

-- a reply with this answer, to a call of this operation
abbrev pub reply_broken : Known → OpenCall → Op → Answer → Option Clause
reply_broken k c (Write first words) answer.Done = unless (holds_from 0 (Write first words) k.medium) UnstoredWrite
reply_broken k c (Read first count) (answer.Blocks words) =
    unless (bytes_eq words (get_blocks k.medium first count)) OtherRead
reply_broken k c (Send frame) answer.Done = unless (nat_lt 0 c.sent) UnsentSend
reply_broken k c Recv a = unless (is_empty k.ring || c.handed) LeftInRing
reply_broken k c (Play samples) answer.Done = unless (c.played == length samples) UnplayedPlay
reply_broken k c (Set key value) answer.Done = unless (slice_index k.registers key == value) UnmadeSet
reply_broken k c (Get key) (answer.Value word) = unless (slice_index k.registers key == word) OtherGet
reply_broken k c (Read first count) (answer.IoError block) = unless (has_block block c.failed) UnseenFailure
reply_broken k c (Write first words) (answer.IoError block) = unless (has_block block c.failed) UnseenFailure
reply_broken k c o a = None

-- what an accepted reply does, with the answer of a call or without one
abbrev pub reply_deeds : Option Answer → List Deed
reply_deeds (Some a) = replies a ∷ []
reply_deeds None = replays ∷ []

abbrev pub reply_broken_of : Known → Option OpenCall → Answer → Option Clause
reply_broken_of k None a = None
reply_broken_of k (Some c) a = reply_broken k c c.op a
