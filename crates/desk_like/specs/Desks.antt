-- What a caller of a desk knows of the desk's part, and what each call adds to it.
use Rattle.std.specs.Prelude.{◌≡◌, ℕ, ◌<◌, ◌≤◌, Bool, true, false, List, [], ◌∷◌, ◌++◌, ◌⊎◌, length, All, Contains}
use Rattle.std.specs.Prelude.{Some, None, Result, Ok, Err}
use mathlib.Core.List.{IsPrefix}
use Rattle.nook_data.specs.declared.limits.TheConstants.{MOST_CALLS}
use Rattle.nook_data.specs.declared.calls.Answer.{Answer}
use Rattle.nook_data.specs.declared.calls.CallEntry.{CallEntry}
use Rattle.nook_data.specs.declared.desks.DeskRefused.{DeskRefused}
use Rattle.nook_data.specs.declared.desks.DeskRefused.TheVariants as refused
use Rattle.nook_data.specs.declared.steps.Event.{Event}
use Rattle.nook_data.specs.declared.steps.Event.TheVariants as event
use Rattle.nook_data.specs.declared.calls.Op.{Op}
use Rattle.nook_data.specs.declared.scenario.PartSpec.{PartSpec}
use Rattle.nook_data.specs.declared.desks.Receipt.{Receipt}
use Rattle.part_defs.specs.Log.{call_of_thread}
use Rattle.nook_data.specs.Numbered.{at_number}
use Rattle.nook_data.specs.Answers.{answer_at}
use Rattle.part_defs.specs.Runs.{state_of}
use Rattle.part_defs.specs.State.{PartState}
use Rattle.shares.specs.Shares.{IsWhole, Share, half}

-- What a seat knows: a prefix of its part's journal, the numbers (from 1) of the events that were added through it, its
-- share of the desk (the first seat has the whole, and no two seats share a point), the stamps of the events that it
-- has seen, by one clock over all desks, and its clock's time.
pub record DeskView : Type 0 where
  pub seen : List Event
  pub made : List ℕ
  pub share : Share
  pub stamps : List ℕ
  pub clock : ℕ

-- the seat is the only one
abbrev pub IsAlone : DeskView → Type 0
IsAlone v = IsWhole v.share

-- what holds for every seat between two calls: what was added through it is in what it has seen, and a seat that is the
-- only one added all of that, itself or through the seats that were joined into it
pub record Accounts (v : DeskView) : Type 0 where
  pub within : All (λ position. (0 < position) × (position ≤ length v.seen)) v.made
  pub all : IsAlone v → (position : ℕ) → 0 < position → position ≤ length v.seen → Contains v.made position

-- ---- events and their numbers

-- the event with this number has this property
pub record IsAt (seen : List Event) (position : ℕ) (Is : Event → Type 0) : Type 0 where
  pub event : Event
  pub there : at_number position seen ≡ Some event
  pub is : Is event

abbrev pub IsInvoke : ℕ → ℕ → Op → Event → Type 0
IsInvoke call thread op (event.Invoke c t o answer) = (c ≡ call) × (t ≡ thread) × (o ≡ op)
IsInvoke call thread op _ = ⊥

abbrev pub IsArrive : List ℕ → Bool → Event → Type 0
IsArrive frame kept (event.Arrive f k) = (f ≡ frame) × (k ≡ kept)
IsArrive frame kept _ = ⊥

abbrev pub IsReply : ℕ → Answer → Event → Type 0
IsReply call answer e = answer_at call e ≡ Some answer

-- neither an invocation nor an arrival
abbrev pub IsOther : Event → Type 0
IsOther (event.Invoke call thread op answer) = ⊥
IsOther (event.Arrive frame kept) = ⊥
IsOther _ = Unit {0}

abbrev pub AreOthers : List Event → List ℕ → Type 0
AreOthers seen numbers = All (λ position. IsAt seen position IsOther) numbers

-- the numbers rise: each is larger than the one before
abbrev pub IsRisingFrom : ℕ → List ℕ → Type 0
IsRisingFrom last [] = Unit {0}
IsRisingFrom last (position ∷ numbers) = (last < position) × IsRisingFrom position numbers

-- ---- how calls change what a seat knows

-- a seat has seen more, and these are the numbers of the events that were added through it; if it is the only seat, all
-- the events that are new to it were added through it
pub record Adds (old new : DeskView) (numbers : List ℕ) : Type 0 where
  pub seen : IsPrefix old.seen new.seen
  pub made : new.made ≡ old.made ++ numbers
  pub rising : IsRisingFrom (length old.seen) numbers
  pub share : new.share ≡ old.share
  pub own : IsAlone old → (position : ℕ) → length old.seen < position → position ≤ length new.seen → Contains numbers position

-- only events that are neither an invocation nor an arrival were added
pub record Waits (old new : DeskView) : Type 0 where
  pub numbers : List ℕ
  pub adds : Adds old new numbers
  pub others : AreOthers new.seen numbers

-- nothing was added through the seat
abbrev pub AddsNothing : DeskView → DeskView → Type 0
AddsNothing old new = Adds old new []

-- one invocation was added first, after all that was seen, and then other events
pub record Invokes (old new : DeskView) (call thread : ℕ) (op : Op) (at_invoke : ℕ) : Type 0 where
  pub others : List ℕ
  pub adds : Adds old new (at_invoke ∷ others)
  pub invoked : IsAt new.seen at_invoke (IsInvoke call thread op)
  pub rest : AreOthers new.seen others

-- ---- receipts

-- a receipt for a thread's operation: its call was invoked and got this answer
pub record IsReceipt (seen : List Event) (thread : ℕ) (op : Op) (receipt : Receipt) : Type 0 where
  pub invoked : IsAt seen receipt.at_invoke (IsInvoke receipt.call thread op)
  pub answered : IsAt seen receipt.at_reply (IsReply receipt.call receipt.answer)
  pub ordered : receipt.at_invoke ≤ receipt.at_reply

-- ---- refusals

abbrev pub state_seen : PartSpec → DeskView → PartState
state_seen spec view = state_of spec view.seen

-- the thread has this call open
pub record HasOpen (p : PartState) (thread call : ℕ) : Type 0 where
  pub entry : CallEntry
  pub open_one : call_of_thread thread p.log.pending ≡ Some entry
  pub number : entry.call ≡ call

abbrev pub HasNoneOpen : PartState → ℕ → Type 0
HasNoneOpen p thread = call_of_thread thread p.log.pending ≡ None

-- ---- the calls

-- how a call for a thread's operation ends
abbrev pub CallEnds : PartSpec → DeskView → DeskView → ℕ → Op → Result Receipt DeskRefused → Type 0
CallEnds spec old new thread op (Ok receipt) =
    Invokes old new receipt.call thread op receipt.at_invoke × IsReceipt new.seen thread op receipt
CallEnds spec old new thread op (Err (refused.OpenCall call)) =
    AddsNothing old new × HasOpen (state_seen spec new) thread call
CallEnds spec old new thread op (Err refused.TooManyCalls) =
    AddsNothing old new × HasNoneOpen (state_seen spec new) thread × ((state_seen spec new).log.count ≡ MOST_CALLS)
CallEnds spec old new thread op (Err (refused.NoMemory None)) = AddsNothing old new
CallEnds spec old new thread op (Err (refused.NoMemory (Some call))) =
    HasOpen (state_seen spec new) thread call × ((at_invoke : ℕ) × Invokes old new call thread op at_invoke)
CallEnds spec old new thread op (Err _) = ⊥

-- a receipt for a call that was resumed
pub record IsResumed (old new : DeskView) (thread : ℕ) (receipt : Receipt) : Type 0 where
  pub op : Op
  pub known : IsReceipt new.seen thread op receipt
  pub later : length old.seen < receipt.at_reply

-- how resuming a thread's open call ends
abbrev pub ResumeEnds : PartSpec → DeskView → DeskView → ℕ → Result Receipt DeskRefused → Type 0
ResumeEnds spec old new thread (Ok receipt) = Waits old new × IsResumed old new thread receipt
ResumeEnds spec old new thread (Err refused.NoOpenCall) = AddsNothing old new × HasNoneOpen (state_seen spec new) thread
ResumeEnds spec old new thread (Err (refused.NoMemory None)) = AddsNothing old new
ResumeEnds spec old new thread (Err (refused.NoMemory (Some call))) =
    Waits old new × HasOpen (state_seen spec new) thread call
ResumeEnds spec old new thread (Err _) = ⊥

-- how the arrival of a frame ends; the result is whether the device's ring had room for it
abbrev pub ArriveEnds : PartSpec → DeskView → DeskView → List ℕ → Result Bool DeskRefused → Type 0
ArriveEnds spec old new frame (Ok kept) =
    (position : ℕ) × Adds old new (position ∷ []) × IsAt new.seen position (IsArrive frame kept)
ArriveEnds spec old new frame (Err refused.TooManyArrivals) =
    AddsNothing old new × ((state_seen spec new).arrived ≡ MOST_CALLS)
ArriveEnds spec old new frame (Err (refused.NoMemory None)) = AddsNothing old new
ArriveEnds spec old new frame (Err _) = ⊥

-- ---- seats that are split and joined

-- a seat that gave half of its share to a new one
abbrev pub halved_view : DeskView → DeskView
halved_view v = record v { share = half false v.share }

-- a new seat, split from another: it has seen the same and its clock has the same time, nothing was added through it,
-- and it has the other half of the share
abbrev pub new_view : DeskView → DeskView
new_view v = record { seen = v.seen; made = []; share = half true v.share; stamps = v.stamps; clock = v.clock }

-- another seat was joined into a seat: it has seen the longer of the two lists, of which both are prefixes, and has the
-- event numbers and the shares of both
pub record Joins (old other new : DeskView) : Type 0 where
  pub seen : IsPrefix old.seen new.seen
  pub other_seen : IsPrefix other.seen new.seen
  pub longer : (new.seen ≡ old.seen) ⊎ (new.seen ≡ other.seen)
  pub made : new.made ≡ old.made ++ other.made
  pub share : new.share ≡ old.share ++ other.share
