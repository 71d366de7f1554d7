-- One step of a worker, as its seats' views show it.
use Rattle.std.specs.Prelude.{◌≡◌, ℕ, ◌<◌, ◌≤◌, ◌⊎◌, Bool, true, List, [], ◌∷◌, length, slice_get, slice_set, Some, Result}
use Rattle.std.specs.Prelude.{Ok, Err}
use mathlib.Core.List.{IsPrefix}
use Rattle.nook_data.specs.declared.calls.Op.{Op}
use Rattle.nook_data.specs.declared.scenario.PartSpec.{PartSpec}
use Rattle.nook_data.specs.declared.desks.Receipt.{Receipt}
use Rattle.part_defs.specs.Runs.{IsRun}
use Rattle.desk_like.specs.Desks.{Accounts, ArriveEnds, CallEnds, DeskView, Joins, halved_view, new_view}
use Rattle.desk_like.specs.Stamps.{Clocked, JoinsClocks, stamp_of}
use Rattle.shares.specs.Shares.{owns}
use Rattle.app_threads.specs.declared.stop.WorkerStop.{WorkerStop}
use Rattle.app_threads.specs.declared.stop.WorkerStop.TheVariants as stop
use Rattle.app_threads.specs.declared.work.Work.TheVariants as work

-- one seat changed in this way, and no other changed
pub record IsStepAt (specs : List PartSpec) (olds news : List DeskView) (part : ℕ)
    (Ends : PartSpec → DeskView → DeskView → Type 0) : Type 0 where
  pub spec : PartSpec
  pub old : DeskView
  pub new : DeskView
  pub spec_there : slice_get specs part ≡ Some spec
  pub old_there : slice_get olds part ≡ Some old
  pub news_are : news ≡ slice_set olds part new
  pub ends : Ends spec old new

-- how a thread's next call ends: a refusal names the index of the operation
abbrev pub NextCallEnds : PartSpec → DeskView → DeskView → ℕ → ℕ → ℕ → Op → Result Receipt WorkerStop → Type 0
NextCallEnds spec old new thread index part op (Ok receipt) = CallEnds spec old new thread op (Ok receipt)
NextCallEnds spec old new thread index part op (Err (stop.Refused t k p refusal)) =
    (t ≡ work.Script thread) × (k ≡ index) × (p ≡ part) × CallEnds spec old new thread op (Err refusal)
NextCallEnds spec old new thread index part op (Err stop.NoMemory) = ⊥

-- how the next arrival ends
abbrev pub NextArrivalEnds : PartSpec → DeskView → DeskView → ℕ → ℕ → List ℕ → Result Bool WorkerStop → Type 0
NextArrivalEnds spec old new index part frame (Ok kept) = ArriveEnds spec old new frame (Ok kept)
NextArrivalEnds spec old new index part frame (Err (stop.Refused t k p refusal)) =
    (t ≡ work.Arrivals part) × (k ≡ index) × (p ≡ part) × ArriveEnds spec old new frame (Err refusal)
NextArrivalEnds spec old new index part frame (Err stop.NoMemory) = ⊥

-- ---- stamps

-- by the stamps of its desk, an operation was invoked later than `before`; it was answered no earlier than it was
-- invoked, and no later than `after`
abbrev pub IsTimely : List ℕ → Receipt → ℕ → ℕ → Type 0
IsTimely stamps receipt before after =
    (before < stamp_of stamps receipt.at_invoke)
    × (stamp_of stamps receipt.at_invoke ≤ stamp_of stamps receipt.at_reply)
    × (stamp_of stamps receipt.at_reply ≤ after)

-- the stamps that a desk's seat had seen are a prefix of those that it has seen now
abbrev pub KeepsStamps : ℕ → DeskView → DeskView → Type 0
KeepsStamps d old new = IsPrefix old.stamps new.stamps

-- ---- seats that are split and joined

-- a seat knows the same as before
abbrev pub Same : ℕ → DeskView → DeskView → Type 0
Same d old new = (new.seen ≡ old.seen) × (new.made ≡ old.made)

-- a new seat, split from another one, has seen the same, and nothing was added through it
abbrev pub Starts : ℕ → DeskView → DeskView → Type 0
Starts d old made = (made.seen ≡ old.seen) × (made.made ≡ [])

-- a seat was split from another one
abbrev pub Splits : DeskView → DeskView → DeskView → Type 0
Splits old new made = (new ≡ halved_view old) × (made ≡ new_view old) × Accounts new × Clocked new

-- another seat was joined into a seat
abbrev pub TakesInOne : PartSpec → DeskView → DeskView → DeskView → Type 0
TakesInOne spec old other new =
    Joins old other new × IsRun spec new.seen × Accounts new × Clocked new × JoinsClocks old other new

-- another seat was joined into each seat
abbrev pub TakesIn : List PartSpec → List DeskView → List DeskView → List DeskView → Type 0
TakesIn specs olds others news =
    (length others ≡ length olds)
    × (length specs ≡ length olds)
    × (length news ≡ length olds)
    × ((d : ℕ) (spec : PartSpec) (v o w : DeskView) → slice_get specs d ≡ Some spec → slice_get olds d ≡ Some v
    → slice_get others d ≡ Some o → slice_get news d ≡ Some w → TakesInOne spec v o w)

-- the seats of several workers were joined into the seats, one worker after another
abbrev pub TakeAllIn : List PartSpec → List DeskView → List (List DeskView) → List DeskView → Type 0
TakeAllIn specs olds [] news = news ≡ olds
TakeAllIn specs olds (others ∷ workers) news =
    (mids : List DeskView) × TakesIn specs olds others mids × TakeAllIn specs mids workers news

-- ---- who has a point of a desk's share

-- the seat of this desk has the point
pub record HasPoint (views : List DeskView) (d : ℕ) (point : ℕ → Bool) : Type 0 where
  pub view : DeskView
  pub there : slice_get views d ≡ Some view
  pub has : owns view.share point ≡ true

-- a worker's seat of this desk has the point
pub record OneHasPoint (workers : List (List DeskView)) (d : ℕ) (point : ℕ → Bool) : Type 0 where
  pub worker : ℕ
  pub views : List DeskView
  pub there : slice_get workers worker ≡ Some views
  pub has : HasPoint views d point

-- each point that a seat had belongs to it or to the seat that was split from it
pub record Halve (olds news made : List DeskView) : Type 0 where
  pub each : (d : ℕ) (point : ℕ → Bool) → HasPoint olds d point → HasPoint news d point ⊎ HasPoint made d point

-- each point that a seat had belongs to it or to a worker's seat
pub record Spread (olds news : List DeskView) (workers : List (List DeskView)) : Type 0 where
  pub each : (d : ℕ) (point : ℕ → Bool) → HasPoint olds d point → HasPoint news d point ⊎ OneHasPoint workers d point
