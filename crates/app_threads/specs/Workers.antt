-- What workers are to do at desks, and what the desks' seats know afterwards.
use Rattle.std.specs.Prelude.{◌≡◌, ℕ, ◌<◌, ◌≤◌, ◌==◌, if◌then◌else◌, Bool, true, false, List, [], ◌∷◌, ◌++◌, length}
use Rattle.std.specs.Prelude.{slice_get, slice_index_or, All, Option, Some, None, Result, Ok, Err, is_some}
use Rattle.std.specs.List.{filter, filter_map}
use mathlib.Core.List.{IsPrefix}
use Rattle.nook_data.specs.declared.calls.Answer.{Answer}
use Rattle.nook_data.specs.Classes.{same_class}
use Rattle.nook_data.specs.declared.classes.Class.TheVariants as class
use Rattle.nook_data.specs.declared.desks.DeskRefused.{DeskRefused}
use Rattle.nook_data.specs.declared.desks.DeskRefused.TheVariants as refused
use Rattle.nook_data.specs.declared.steps.Event.{Event}
use Rattle.nook_data.specs.declared.steps.Event.TheVariants as event
use Rattle.nook_data.specs.declared.calls.Op.{Op}
use Rattle.nook_data.specs.declared.scenario.PartSpec.{PartSpec}
use Rattle.nook_data.specs.declared.desks.Receipt.{Receipt}
use Rattle.nook_data.specs.declared.scenario.ThreadSpec.{ThreadSpec}
use Rattle.nook_data.specs.declared.limits.TheConstants.{MOST_ARRIVALS, MOST_CALLS, MOST_FRAME_WORDS, MOST_OPS}
use Rattle.nook_data.specs.declared.limits.TheConstants.{MOST_THREADS}
use Rattle.nook_data.specs.Numbered.{at_number}
use Rattle.part_defs.specs.Runs.{IsRun, state_of}
use Rattle.part_defs.specs.State.{PartState}
use Rattle.desk_like.specs.Desks.{Accounts, IsReply, DeskView, HasNoneOpen, HasOpen, IsAlone, IsAt, IsReceipt}
use Rattle.desk_like.specs.Desks.{IsRisingFrom}
use Rattle.app_threads.specs.declared.stop.WorkerStop.{WorkerStop}
use Rattle.app_threads.specs.declared.stop.WorkerStop.TheVariants as stop
use Rattle.app_threads.specs.declared.work.Work.TheVariants as work

-- ---- one seat

abbrev pub is_invoke : Option Event → Bool
is_invoke (Some (event.Invoke call thread op answer)) = true
is_invoke _ = false

abbrev pub frame_of : Option Event → Option (List ℕ)
frame_of (Some (event.Arrive frame kept)) = Some frame
frame_of _ = None

-- an invocation by this thread
abbrev pub is_invoke_by : ℕ → Option Event → Bool
is_invoke_by thread (Some (event.Invoke call t op answer)) = t == thread
is_invoke_by thread _ = false

-- of these numbers, those of invocations
abbrev pub invokes_at : List Event → List ℕ → List ℕ
invokes_at seen numbers = filter (λ number. is_invoke (at_number number seen)) numbers

-- of these numbers, those of invocations by this thread
abbrev pub invokes_by : ℕ → List Event → List ℕ → List ℕ
invokes_by thread seen numbers = filter (λ number. is_invoke_by thread (at_number number seen)) numbers

-- the frames that arrived in the events with these numbers
abbrev pub frames_at : List Event → List ℕ → List (List ℕ)
frames_at seen numbers = filter_map (λ number. frame_of (at_number number seen)) numbers

-- a seat has seen more, and the events with these numbers were added through it
pub record Grows (old new : DeskView) (numbers : List ℕ) : Type 0 where
  pub seen : IsPrefix old.seen new.seen
  pub made : new.made ≡ old.made ++ numbers
  pub there : All (λ number. is_some (at_number number new.seen) ≡ true) numbers

-- of what was added through a seat, these are the numbers of the invocations, and these the frames that arrived, in
-- order
pub record Gains (old new : DeskView) (invokes : List ℕ) (frames : List (List ℕ)) : Type 0 where
  pub numbers : List ℕ
  pub grows : Grows old new numbers
  pub invoked : invokes_at new.seen numbers ≡ invokes
  pub arrived : frames_at new.seen numbers ≡ frames

-- of what was added through a seat, at most this many events are invocations, and at most this many are arrivals
pub record GainsAtMost (old new : DeskView) (calls frames : ℕ) : Type 0 where
  pub numbers : List ℕ
  pub grows : Grows old new numbers
  pub invoked : length (invokes_at new.seen numbers) ≤ calls
  pub arrived : length (frames_at new.seen numbers) ≤ frames

-- the seat of one worker gained these; the numbers rise, after all that was seen before
pub record Does (old new : DeskView) (invokes : List ℕ) (frames : List (List ℕ)) : Type 0 where
  pub gains : Gains old new invokes frames
  pub rising : IsRisingFrom (length old.seen) gains.numbers

-- ---- who made the invocations

abbrev pub IsBy : ℕ → Event → Type 0
IsBy thread (event.Invoke call t op answer) = t ≡ thread
IsBy thread _ = Unit {0}

-- the call was answered
abbrev pub HasReply : List Event → ℕ → Type 0
HasReply seen call = (number : ℕ) × (answer : Answer) × IsAt seen number (IsReply call answer)

abbrev pub HasReplyIn : List Event → Event → Type 0
HasReplyIn seen (event.Invoke call t op answer) = HasReply seen call
HasReplyIn seen _ = Unit {0}

abbrev pub IsNoInvoke : ℕ → Event → Type 0
IsNoInvoke call (event.Invoke c t op answer) = c ≡ call → ⊥
IsNoInvoke call _ = Unit {0}

-- what was invoked through a new seat was invoked by this thread
abbrev pub MadeBy : ℕ → DeskView → DeskView → Type 0
MadeBy thread old new = old.made ≡ [] → All (λ number. IsAt new.seen number (IsBy thread)) new.made

-- the same, and the call was answered
abbrev pub Owns : ℕ → DeskView → DeskView → Type 0
Owns thread old new =
    old.made ≡ [] → All (λ number. IsAt new.seen number (λ e. IsBy thread e × HasReplyIn new.seen e)) new.made

-- none of the events that a seat gained invoked the call
abbrev pub IsNotOwn : ℕ → DeskView → DeskView → Type 0
IsNotOwn call old new =
    (numbers : List ℕ) × (new.made ≡ old.made ++ numbers) × All (λ number. IsAt new.seen number (IsNoInvoke call)) numbers

-- a seat gained at most this many calls and frames; what was invoked through a new seat was invoked by this thread
abbrev pub GrewBy : ℕ → ℕ → ℕ → DeskView → DeskView → Type 0
GrewBy thread calls frames old new = GainsAtMost old new calls frames × MadeBy thread old new

-- ---- shares and accounts

-- a seat that was the only one of its desk is still the only one
pub record StaysAlone (old new : DeskView) : Type 0 where
  pub still : IsAlone old → IsAlone new

-- a seat for which `Accounts` held still satisfies it
pub record KeepsAccounts (old new : DeskView) : Type 0 where
  pub still : Accounts old → Accounts new

-- a seat has the share that it had
abbrev pub KeepsShare : DeskView → DeskView → Type 0
KeepsShare old new = new.share ≡ old.share

-- ---- all seats

-- the seats are those of the desks, in order
abbrev pub AreSeats : {D S : Type 0} → (D → S → Type 0) → List D → List S → Type 0
AreSeats {D} {S} is_seat desks seats =
    (length seats ≡ length desks)
    × ((i : ℕ) (d : D) (s : S) → i < length desks → d ≡ slice_index_or desks i d → s ≡ slice_index_or seats i s
    → is_seat d s)

-- the seat belongs to the desk with this index
abbrev pub IsSeatAt : {D S : Type 0} → (D → S → Type 0) → List D → ℕ → S → Type 0
IsSeatAt {D} {S} is_seat desks at seat = (d : D) → d ≡ slice_index_or desks at d → is_seat d seat

-- there are as many seats as before, and the relation holds for each
abbrev pub AtDesks : (ℕ → DeskView → DeskView → Type 0) → List DeskView → List DeskView → Type 0
AtDesks P olds news =
    (length news ≡ length olds)
    × ((d : ℕ) (v w : DeskView) → slice_get olds d ≡ Some v → slice_get news d ≡ Some w → P d v w)

-- each seat that was the only one of its desk is still the only one
abbrev pub StayAlone : List DeskView → List DeskView → Type 0
StayAlone olds news = AtDesks (λ d v w. StaysAlone v w) olds news

-- each seat for which `Accounts` held still satisfies it
abbrev pub KeepAccounts : List DeskView → List DeskView → Type 0
KeepAccounts olds news = AtDesks (λ d v w. KeepsAccounts v w) olds news

-- each seat has the share that it had
abbrev pub KeepShares : List DeskView → List DeskView → Type 0
KeepShares olds news = AtDesks (λ d v w. KeepsShare v w) olds news

-- what each seat has seen is a run of its desk's part
abbrev pub AreRuns : List PartSpec → List DeskView → Type 0
AreRuns specs views = (d : ℕ) (spec : PartSpec) (v : DeskView) → slice_get specs d ≡ Some spec
    → slice_get views d ≡ Some v → IsRun spec v.seen

-- the desk with this index has a network part
abbrev pub IsNetAt : List PartSpec → ℕ → Type 0
IsNetAt specs part = (spec : PartSpec) → slice_get specs part ≡ Some spec → same_class spec.class class.Net ≡ true

-- each operation names one of this many desks
abbrev pub NameDesks : ℕ → List (ℕ × Op) → Type 0
NameDesks count ops = All (λ o. o.0 < count) ops

-- at most 16 scripts of at most 256 operations, which name desks
abbrev pub AreScripts : ℕ → List ThreadSpec → Type 0
AreScripts count scripts = (length scripts ≤ MOST_THREADS)
    × All (λ (script : ThreadSpec). (length script.ops ≤ MOST_OPS) × NameDesks count script.ops) scripts

-- frames of 1 to 64 words
abbrev pub AreFrames : List (List ℕ) → Type 0
AreFrames frames = All (λ frame. (1 ≤ length frame) × (length frame ≤ MOST_FRAME_WORDS)) frames

-- a list of at most 256 frames for each desk; only the lists of network parts may have any
abbrev pub AreArrivals : List PartSpec → List (List (List ℕ)) → Type 0
AreArrivals specs arrivals =
    (length arrivals ≡ length specs)
    × ((d : ℕ) (frames : List (List ℕ)) → slice_get arrivals d ≡ Some frames
    → (length frames ≤ MOST_ARRIVALS) × AreFrames frames × (0 < length frames → IsNetAt specs d))

-- ---- receipts

-- a receipt for an operation on a part, in what the seat at that part's desk has seen
pub record IsReceiptAt (views : List DeskView) (thread part : ℕ) (op : Op) (receipt : Receipt) : Type 0 where
  pub view : DeskView
  pub there : slice_get views part ≡ Some view
  pub is : IsReceipt view.seen thread op receipt

-- a receipt for each operation of a thread, in order
abbrev pub AreReceipts : List DeskView → ℕ → List (ℕ × Op) → List Receipt → Type 0
AreReceipts views thread [] [] = Unit {0}
AreReceipts views thread ((part, op) ∷ ops) (receipt ∷ receipts) =
    IsReceiptAt views thread part op receipt × AreReceipts views thread ops receipts
AreReceipts views thread _ _ = ⊥

-- a row of receipts for each thread, in order
abbrev pub AreRows : List DeskView → List ThreadSpec → List (List Receipt) → Type 0
AreRows views scripts rows =
    (length rows ≡ length scripts)
    × ((thread : ℕ) (script : ThreadSpec) (row : List Receipt) → slice_get scripts thread ≡ Some script
    → slice_get rows thread ≡ Some row → AreReceipts views thread script.ops row)

-- the numbers of the invocations in a thread's receipts for operations on a part
abbrev pub invokes_of : ℕ → List (ℕ × Op) → List Receipt → List ℕ
invokes_of part ((p, op) ∷ ops) (receipt ∷ receipts) =
    if p == part then receipt.at_invoke ∷ invokes_of part ops receipts else invokes_of part ops receipts
invokes_of part _ _ = []

-- the same for all threads, one after another
abbrev pub invokes_of_all : ℕ → List ThreadSpec → List (List Receipt) → List ℕ
invokes_of_all part (script ∷ scripts) (row ∷ rows) =
    invokes_of part script.ops row ++ invokes_of_all part scripts rows
invokes_of_all part _ _ = []

-- the calls of a thread's receipts on one desk were invoked in order, after all that the desk's seat had seen before
abbrev pub AreRising : List DeskView → List (ℕ × Op) → List Receipt → Type 0
AreRising olds ops receipts =
    (d : ℕ) (v : DeskView) → slice_get olds d ≡ Some v → IsRisingFrom (length v.seen) (invokes_of d ops receipts)

-- ---- refusals

-- the cause holds after a list of events that begins with all that the desk's seat had seen and is a prefix of what it
-- has seen now
pub record IsRefusedAt (specs : List PartSpec) (olds news : List DeskView) (part : ℕ)
    (Cause : PartState → Type 0) : Type 0 where
  pub spec : PartSpec
  pub old : DeskView
  pub new : DeskView
  pub spec_there : slice_get specs part ≡ Some spec
  pub old_there : slice_get olds part ≡ Some old
  pub new_there : slice_get news part ≡ Some new
  pub between : List Event
  pub from : IsPrefix old.seen between
  pub to : IsPrefix between new.seen
  pub cause : Cause (state_of spec between)

abbrev pub CallCause : ℕ → DeskRefused → PartState → Type 0
CallCause thread (refused.OpenCall call) p = HasOpen p thread call
CallCause thread refused.TooManyCalls p = HasNoneOpen p thread × (p.log.count ≡ MOST_CALLS)
CallCause thread (refused.NoMemory None) p = Unit {0}
CallCause thread (refused.NoMemory (Some call)) p = HasOpen p thread call
CallCause thread _ p = ⊥

abbrev pub ArriveCause : DeskRefused → PartState → Type 0
ArriveCause refused.TooManyArrivals p = p.arrived ≡ MOST_CALLS
ArriveCause (refused.NoMemory None) p = Unit {0}
ArriveCause _ p = ⊥

-- a thread's call for this operation of its script was refused
pub record IsCallRefused (specs : List PartSpec) (olds news : List DeskView) (ops : List (ℕ × Op))
    (thread number part : ℕ) (refusal : DeskRefused) : Type 0 where
  pub op : Op
  pub operation : slice_get ops number ≡ Some (part, op)
  pub cause : IsRefusedAt specs olds news part (CallCause thread refusal)

-- the arrival of this frame at a desk was refused
pub record IsArrivalRefused (specs : List PartSpec) (olds news : List DeskView) (frames : List (List ℕ))
    (number part : ℕ) (refusal : DeskRefused) : Type 0 where
  pub frame : number < length frames
  pub cause : IsRefusedAt specs olds news part (ArriveCause refusal)

-- what a worker knows of an open call of its thread: it is none of the calls that it invoked through a new seat
pub record IsOpenFor (specs : List PartSpec) (olds news : List DeskView) (thread part call : ℕ) : Type 0 where
  pub spec : PartSpec
  pub old : DeskView
  pub new : DeskView
  pub spec_there : slice_get specs part ≡ Some spec
  pub old_there : slice_get olds part ≡ Some old
  pub new_there : slice_get news part ≡ Some new
  pub open_call : HasOpen (state_of spec new.seen) thread call
  pub answered : old.made ≡ [] → All (λ number. IsAt new.seen number (HasReplyIn new.seen)) new.made

abbrev pub KnowsOpen : List PartSpec → List DeskView → List DeskView → ℕ → ℕ → DeskRefused → Type 0
KnowsOpen specs olds news thread part (refused.OpenCall call) = IsOpenFor specs olds news thread part call
KnowsOpen specs olds news thread part _ = Unit {0}

-- ---- one worker

-- how many of these operations are on this part
abbrev pub count_on : ℕ → List (ℕ × Op) → ℕ
count_on part ops = length (filter (λ o. o.0 == part) ops)

-- a thread's worker did these operations
pub record DoesOps (olds news : List DeskView) (thread : ℕ) (ops : List (ℕ × Op))
    (receipts : List Receipt) : Type 0 where
  pub receipts_are : AreReceipts news thread ops receipts
  pub does : AtDesks (λ d v w. Does v w (invokes_of d ops receipts) []) olds news
  pub own : AtDesks (λ d v w. Owns thread v w) olds news

abbrev pub ScriptEnds : List PartSpec → List DeskView → List DeskView → ℕ → List (ℕ × Op)
    → Result (List Receipt) WorkerStop → Type 0
ScriptEnds specs olds news thread ops (Ok receipts) =
    DoesOps olds news thread ops receipts × AtDesks (λ d v w. MadeBy thread v w) olds news
ScriptEnds specs olds news thread ops (Err (stop.Refused t number part refusal)) =
    AtDesks (λ d v w. GrewBy thread (count_on d ops) 0 v w) olds news
    × (t ≡ work.Script thread)
    × IsCallRefused specs olds news ops thread number part refusal
    × KnowsOpen specs olds news thread part refusal
ScriptEnds specs olds news thread ops (Err stop.NoMemory) =
    AtDesks (λ d v w. GrewBy thread (count_on d ops) 0 v w) olds news

-- a number that no thread has: a worker of arrivals makes no thread's calls
abbrev pub no_thread : ℕ
no_thread = 255

-- the worker of a desk's arrivals added these frames, and did nothing at the other desks
abbrev pub DoesFrames : List DeskView → List DeskView → ℕ → List (List ℕ) → Type 0
DoesFrames olds news part frames = AtDesks (λ d v w. Does v w [] (if part == d then frames else [])) olds news

abbrev pub ArrivalsEnd : List PartSpec → List DeskView → List DeskView → ℕ → List (List ℕ)
    → Result (List Receipt) WorkerStop → Type 0
ArrivalsEnd specs olds news part frames (Ok receipts) =
    (receipts ≡ []) × DoesFrames olds news part frames × AtDesks (λ d v w. MadeBy no_thread v w) olds news
ArrivalsEnd specs olds news part frames (Err (stop.Refused t number p refusal)) =
    AtDesks (λ d v w. GrewBy no_thread 0 (length (if part == d then frames else [])) v w) olds news
    × (t ≡ work.Arrivals part) × (p ≡ part) × IsArrivalRefused specs olds news frames number part refusal
ArrivalsEnd specs olds news part frames (Err stop.NoMemory) =
    AtDesks (λ d v w. GrewBy no_thread 0 (length (if part == d then frames else [])) v w) olds news
