-- How one turn changes a part, and what a seat of its desk knows.
use Rattle.std.specs.Prelude.{◌≡◌, ℕ, suc, ◌+◌, ◌<◌, ◌≤◌, Bool, true, false, Option, Some, None, Result, Ok, Err, List, []}
use Rattle.std.specs.Prelude.{◌∷◌, ◌++◌, drop, length}
use mathlib.Core.List.{IsPrefix}
use Rattle.atomic_table.specs.declared.shared.Seat.{Seat}
use Rattle.nook_data.specs.declared.desks.DeskRefused.{DeskRefused}
use Rattle.nook_data.specs.declared.desks.DeskRefused.TheVariants as refused
use Rattle.nook_data.specs.declared.steps.Event.{Event}
use Rattle.nook_data.specs.declared.calls.Op.{Op}
use Rattle.nook_data.specs.declared.scenario.PartSpec.{PartSpec}
use Rattle.nook_data.specs.declared.desks.Receipt.{Receipt}
use Rattle.nook_data.specs.declared.steps.Step.{Step}
use Rattle.nook_data.specs.declared.steps.Step.TheVariants as step
use Rattle.nook_data.specs.declared.memory.NoMemory.{NoMemory}
use Rattle.nook_data.specs.declared.limits.TheConstants.{MOST_ANSWER_WORDS}
use Rattle.part_defs.specs.Runs.{PartRun, IsRun, next_any}
use Rattle.nook_data.specs.Answers.{answer_at}
use Rattle.part_defs.specs.Views.CallLogs.{answered_from}
use Rattle.desk_like.specs.Desks.{DeskView, IsAt, IsInvoke, IsArrive, IsOther, IsReply, Adds, AddsNothing, Waits}
use Rattle.desk_like.specs.Desks.{HasOpen, HasNoneOpen, CallEnds, ResumeEnds, state_seen}
use Rattle.desk_like.specs.Stamps.{IsStamped, stamp_of}
use Rattle.clocks.specs.Clocks.{last_of, latest}
use Rattle.shares.specs.Shares.{whole}
use Rattle.turn_lock.specs.Views.{committed, gave}
use Rattle.turn_lock.specs.declared.view.View.{View}
use Rattle.part_server.specs.Answers.{InvokesCall, Numbers}
use Rattle.part_server.specs.Entries.{DatedRun, TurnView, entries, journal_view, stamps_of}
use Rattle.part_server.specs.declared.waiting.Progress.{Progress}
use Rattle.part_server.specs.declared.waiting.Progress.TheVariants as progress
use Rattle.part_server.specs.declared.waiting.Waiting.{Waiting}

-- ---- how a turn changes the part

-- the journal has one more event, which has this property
pub record Grows (old new : PartRun) (Is : Event → Type 0) : Type 0 where
  pub event : Event
  pub journal : new.journal ≡ old.journal ++ event ∷ []
  pub spec : new.state.spec ≡ old.state.spec
  pub is : Is event

-- the call is open, all events were looked at, and there is room for its answer
abbrev pub IsWaitingFor : PartRun → Waiting → Type 0
IsWaitingFor r w = HasOpen r.state w.thread w.call × (w.looked ≡ length r.journal) × (MOST_ANSWER_WORDS ≤ w.room)

-- the call is open, and there is room for its answer
abbrev pub IsGoingOn : PartRun → Waiting → Type 0
IsGoingOn r w = HasOpen r.state w.thread w.call × (MOST_ANSWER_WORDS ≤ w.room)

-- both wait for the same call
abbrev pub IsSameCall : Waiting → Waiting → Type 0
IsSameCall w next = (next.call ≡ w.call) × (next.thread ≡ w.thread) × (next.at_invoke ≡ w.at_invoke)

-- why a thread may not invoke an operation
abbrev pub RefusalGives : PartRun → ℕ → DeskRefused → Type 0
RefusalGives r thread (refused.OpenCall call) = HasOpen r.state thread call
RefusalGives r thread refused.TooManyCalls = HasNoneOpen r.state thread × (r.state.log.count ≡ 100000)
RefusalGives r thread _ = ⊥

-- neither an invocation nor an arrival
abbrev pub IsOwn : Step → Type 0
IsOwn (step.Invoke thread op) = ⊥
IsOwn (step.Enter thread) = Unit {0}
IsOwn (step.Burst context) = Unit {0}
IsOwn step.Stage = Unit {0}
IsOwn (step.Arrive frame) = ⊥

-- the events not yet looked at are searched for an answer to an open call
abbrev pub LookGives : List Event → Waiting → Result Receipt Waiting → Type 0
LookGives journal w (Ok receipt) =
    (receipt.call ≡ w.call) × (receipt.at_invoke ≡ w.at_invoke) × (w.looked < receipt.at_reply)
    × IsAt journal receipt.at_reply (IsReply w.call receipt.answer)
LookGives journal w (Err next) = (next ≡ w) × (answered_from (w.looked + 1) w.call (drop w.looked journal) ≡ None)

-- how far a call got in the last event of a journal
abbrev pub ReachedGives : List Event → Waiting → Progress → Type 0
ReachedGives journal w (progress.Answered receipt) =
    (receipt.call ≡ w.call) × (receipt.at_invoke ≡ w.at_invoke) × (receipt.at_reply ≡ length journal)
    × IsAt journal (length journal) (IsReply w.call receipt.answer)
ReachedGives journal w (progress.Open next) =
    (next ≡ w) × IsAt journal (length journal) (λ e. answer_at w.call e ≡ None)

-- how far a call got in its invocation, which is the last event of a journal
abbrev pub InvokedGives : List Event → ℕ → Progress → Type 0
InvokedGives journal thread (progress.Answered receipt) =
    (receipt.at_invoke ≡ length journal) × (receipt.at_reply ≡ length journal)
    × IsAt journal (length journal) (λ e. Numbers receipt.call e × IsReply receipt.call receipt.answer e)
InvokedGives journal thread (progress.Open w) =
    (w.at_invoke ≡ length journal) × (w.thread ≡ thread) × (w.looked ≡ length journal) × (MOST_ANSWER_WORDS ≤ w.room)
    × IsAt journal (length journal) (λ e. Numbers w.call e × (answer_at w.call e ≡ None))

-- an operation of a thread is invoked
abbrev pub InvokeGives : PartRun → PartRun → ℕ → Op → Result Progress DeskRefused → Type 0
InvokeGives old new thread op (Ok (progress.Answered receipt)) =
    Grows old new (λ e. IsInvoke receipt.call thread op e × IsReply receipt.call receipt.answer e)
    × (receipt.at_invoke ≡ length new.journal) × (receipt.at_reply ≡ length new.journal)
InvokeGives old new thread op (Ok (progress.Open w)) =
    Grows old new (IsInvoke w.call thread op) × (w.at_invoke ≡ length new.journal) × (w.thread ≡ thread)
    × IsWaitingFor new w
InvokeGives old new thread op (Err (refused.OpenCall call)) = (new ≡ old) × HasOpen old.state thread call
InvokeGives old new thread op (Err refused.TooManyCalls) =
    (new ≡ old) × HasNoneOpen old.state thread × (old.state.log.count ≡ 100000)
InvokeGives old new thread op (Err (refused.NoMemory None)) = new ≡ old
InvokeGives old new thread op (Err _) = ⊥

-- a step is taken for an open call
abbrev pub GoOnGives : PartRun → PartRun → Waiting → Result Progress DeskRefused → Type 0
GoOnGives old new w (Ok (progress.Answered receipt)) =
    Grows old new (λ e. IsOther e × IsReply w.call receipt.answer e)
    × (receipt.call ≡ w.call) × (receipt.at_invoke ≡ w.at_invoke) × (receipt.at_reply ≡ length new.journal)
GoOnGives old new w (Ok (progress.Open next)) = Grows old new IsOther × IsSameCall w next × IsWaitingFor new next
GoOnGives old new w (Err (refused.NoMemory (Some call))) = (new ≡ old) × (call ≡ w.call)
GoOnGives old new w (Err _) = ⊥

-- a thread's open call is found
abbrev pub FindGives : PartRun → ℕ → Result Waiting DeskRefused → Type 0
FindGives r thread (Ok w) =
    (w.thread ≡ thread) × IsWaitingFor r w × IsAt r.journal w.at_invoke (InvokesCall w.call thread)
FindGives r thread (Err refused.NoOpenCall) = HasNoneOpen r.state thread
FindGives r thread (Err _) = ⊥

-- a frame arrives
abbrev pub ArriveGives : PartRun → PartRun → List ℕ → Result Bool DeskRefused → Type 0
ArriveGives old new frame (Ok kept) = Grows old new (IsArrive frame kept)
ArriveGives old new frame (Err refused.TooManyArrivals) = (new ≡ old) × (old.state.arrived ≡ 100000)
ArriveGives old new frame (Err (refused.NoMemory None)) = new ≡ old
ArriveGives old new frame (Err _) = ⊥

-- the next step is taken, if there is one
abbrev pub SettleGives : PartRun → PartRun → Result Bool NoMemory → Type 0
SettleGives old new (Ok true) = Grows old new IsOther
SettleGives old new (Ok false) = (new ≡ old) × (next_any old.state ≡ None)
SettleGives old new (Err e) = new ≡ old

-- whether a step was taken
abbrev pub took_step : Result Bool NoMemory → Bool
took_step (Ok is_taken) = is_taken
took_step (Err e) = false

-- a turn added an entry to the list that was taken, or left the list as it was
abbrev pub IsGrown : {E : Type 0} → Bool → List E → List E → Type 0
IsGrown {E} true taken now = (entry : E) × (now ≡ taken ++ entry ∷ [])
IsGrown false taken now = now ≡ taken

-- ---- how a turn changes the stamps, and the clock of its seat

-- the clock was set past its time and the last stamp, which made a new stamp, or it was raised to the last stamp
abbrev pub StampsOnce : Bool → List ℕ → ℕ → List ℕ → ℕ → Type 0
StampsOnce true old clock new now = (now ≡ suc (latest (last_of old) clock)) × (new ≡ old ++ now ∷ [])
StampsOnce false old clock new now = (now ≡ latest clock (last_of old)) × (new ≡ old)

-- if an event was added, its stamp is later than the clock was; the clock is now no earlier than any stamp
pub record EndsStamped (is_added : Bool) (taken : List ℕ) (clock : ℕ) (journal : List Event) (stamps : List ℕ)
    (now : ℕ) : Type 0 where
  pub begins : IsPrefix taken stamps
  pub stamped : IsStamped journal stamps
  pub last : last_of stamps ≤ now
  pub risen : clock ≤ now
  pub added : is_added ≡ true → clock < stamp_of stamps (length journal)

-- the part that was taken had a stamp for each event; it stayed the same, or gained one event with its stamp
pub record Dates (is_added : Bool) (old new : DatedRun) (clock now : ℕ) : Type 0 where
  pub was : IsStamped old.run.journal old.stamps
  pub grown : IsGrown is_added (entries old.run.journal old.stamps) (entries new.run.journal new.stamps)
  pub spec : new.run.state.spec ≡ old.run.state.spec
  pub ends : EndsStamped is_added old.stamps clock new.run.journal new.stamps now

-- ---- what a seat knows

-- a seat of the turn that keeps the part
abbrev pub TurnValue : Type 0
TurnValue = Seat (Option DatedRun) TurnView

-- a seat of the desk: one of its turn, and the time of its clock
pub record SeatValue : Type 0 where
  pub seat : TurnValue
  pub clock : ℕ

-- a seat ended its turn with this journal: it committed an event, or gave the part back
abbrev pub ended : Bool → View Event PartSpec → List Event → View Event PartSpec
ended true v journal = gave (committed v journal)
ended false v journal = gave v

-- what callers of a desk see of what a seat knows
abbrev pub seen_view : View Event PartSpec → List ℕ → ℕ → DeskView
seen_view v stamps clock = record { seen = v.seen; made = v.made; share = v.share; stamps = stamps; clock = clock }

-- the same for a seat of the turn, with the time of its clock
abbrev pub timed_view : TurnView → ℕ → DeskView
timed_view v clock = seen_view (journal_view v) (stamps_of v.seen) clock

-- what was seen is a run of the part that the seat knows of
abbrev pub IsSeen : Option PartSpec → List Event → Type 0
IsSeen home seen = (spec : PartSpec) → home ≡ Some spec → IsRun spec seen

-- the call is open after all that the seat has seen, all of that was looked at, and there is room for the answer
abbrev pub IsWaitingIn : PartSpec → DeskView → Waiting → Type 0
IsWaitingIn spec v w =
    HasOpen (state_seen spec v) w.thread w.call × (w.looked ≡ length v.seen) × (MOST_ANSWER_WORDS ≤ w.room)

-- ---- how a turn changes what a seat knows

-- an operation of a thread is invoked
abbrev pub InvokeEnds : PartSpec → DeskView → DeskView → ℕ → Op → Result Progress DeskRefused → Type 0
InvokeEnds spec old new thread op (Ok (progress.Answered receipt)) = CallEnds spec old new thread op (Ok receipt)
InvokeEnds spec old new thread op (Ok (progress.Open w)) =
    Adds old new (w.at_invoke ∷ []) × IsAt new.seen w.at_invoke (IsInvoke w.call thread op) × (w.thread ≡ thread)
    × IsWaitingIn spec new w
InvokeEnds spec old new thread op (Err e) = CallEnds spec old new thread op (Err e)

-- an open call is waited for until it is answered
abbrev pub FinishEnds : PartSpec → DeskView → DeskView → Waiting → Result Receipt DeskRefused → Type 0
FinishEnds spec old new w (Ok receipt) =
    Waits old new × (receipt.call ≡ w.call) × (receipt.at_invoke ≡ w.at_invoke)
    × IsAt new.seen receipt.at_reply (IsReply w.call receipt.answer) × (length old.seen < receipt.at_reply)
FinishEnds spec old new w (Err (refused.NoMemory (Some call))) =
    Waits old new × HasOpen (state_seen spec new) w.thread w.call × (call ≡ w.call)
FinishEnds spec old new w (Err _) = ⊥

-- one turn of such a wait
abbrev pub AdvanceEnds : PartSpec → DeskView → DeskView → Waiting → Result Progress DeskRefused → Type 0
AdvanceEnds spec old new w (Ok (progress.Answered receipt)) = FinishEnds spec old new w (Ok receipt)
AdvanceEnds spec old new w (Ok (progress.Open next)) = Waits old new × IsSameCall w next × IsWaitingIn spec new next
AdvanceEnds spec old new w (Err e) = FinishEnds spec old new w (Err e)

-- a thread's open call is found
abbrev pub FindEnds : PartSpec → DeskView → DeskView → ℕ → Result Waiting DeskRefused → Type 0
FindEnds spec old new thread (Ok w) =
    AddsNothing old new × (w.thread ≡ thread) × IsWaitingIn spec new w
    × IsAt new.seen w.at_invoke (InvokesCall w.call thread)
FindEnds spec old new thread (Err e) = ResumeEnds spec old new thread (Err e)

-- the next step is taken, if there is one
abbrev pub SettlesOnce : PartSpec → DeskView → DeskView → Result Bool NoMemory → Type 0
SettlesOnce spec old new (Ok true) = Waits old new
SettlesOnce spec old new (Ok false) = AddsNothing old new × (next_any (state_seen spec new) ≡ None)
SettlesOnce spec old new (Err e) = AddsNothing old new

-- the seat of a new desk is the only one, with the whole share, and has seen and made nothing
abbrev pub opening_view : DeskView
opening_view = record { seen = []; made = []; share = whole; stamps = []; clock = 0 }
