-- How all workers end.
use Rattle.std.specs.Prelude.{◌≡◌, ℕ, ◌+◌, ◌<◌, ◌≤◌, List, [], ◌∷◌, length, slice_get, slice_index_or, Some}
use Rattle.std.specs.Prelude.{Result, Ok, Err}
use Rattle.nook_data.specs.declared.desks.DeskRefused.{DeskRefused}
use Rattle.nook_data.specs.declared.desks.DeskRefused.TheVariants as refused
use Rattle.nook_data.specs.declared.calls.Op.{Op}
use Rattle.nook_data.specs.declared.scenario.PartSpec.{PartSpec}
use Rattle.nook_data.specs.declared.desks.Receipt.{Receipt}
use Rattle.nook_data.specs.declared.scenario.ThreadSpec.{ThreadSpec}
use Rattle.desk_like.specs.Desks.{DeskView, IsRisingFrom}
use Rattle.app_threads.specs.declared.stop.WorkerStop.{WorkerStop}
use Rattle.app_threads.specs.declared.stop.WorkerStop.TheVariants as stop
use Rattle.app_threads.specs.declared.work.Work.{Work}
use Rattle.app_threads.specs.declared.work.Work.TheVariants as work
use Rattle.app_threads.specs.Workers.{AreReceipts, AreRising, AreRows, AreRuns, AtDesks, Gains, Grows, IsArrivalRefused}
use Rattle.app_threads.specs.Workers.{IsCallRefused, IsNotOwn, StayAlone, count_on, frames_at, invokes_at, invokes_by}
use Rattle.app_threads.specs.Workers.{invokes_of_all}
use Rattle.app_threads.specs.Works.{all_works, ops_of}

-- there is a receipt for each operation of the thread
pub record HasRow (olds news : List DeskView) (thread : ℕ) (ops : List (ℕ × Op)) : Type 0 where
  pub row : List Receipt
  pub receipts : AreReceipts news thread ops row
  pub rising : AreRising olds ops row

-- these frames arrived in order, after all that was seen before
pub record HasArrived (old new : DeskView) (frames : List (List ℕ)) : Type 0 where
  pub numbers : List ℕ
  pub rising : IsRisingFrom (length old.seen) numbers
  pub arrived : frames_at new.seen numbers ≡ frames

-- how many operations of all scripts are on this part
abbrev pub count_on_all : ℕ → List ThreadSpec → ℕ
count_on_all part [] = 0
count_on_all part (script ∷ scripts) = count_on part script.ops + count_on_all part scripts

-- A bound on what was added through a desk's seat. Each thread invoked at most as many operations as its script has on
-- the desk, and no other thread invoked any. All invocations together are at most as many as those operations, and
-- there are no more arrivals than these frames
pub record AtMost (scripts : List ThreadSpec) (frames : List (List ℕ)) (desk : ℕ) (old new : DeskView) : Type 0 where
  pub numbers : List ℕ
  pub grows : Grows old new numbers
  pub invoked : (thread : ℕ) → length (invokes_by thread new.seen numbers)
      ≤ count_on desk (ops_of (slice_get scripts thread))
  pub invoked_in_all : length (invokes_at new.seen numbers) ≤ count_on_all desk scripts
  pub arrived : length (frames_at new.seen numbers) ≤ length frames

module _ (specs : List PartSpec) (scripts : List ThreadSpec) (arrivals : List (List (List ℕ)))
    (olds news : List DeskView) where
  -- Each thread has its row of receipts. Of what was added through a desk's seat, the invocations are exactly those of
  -- the receipts, thread by thread, and the frames that arrived are exactly the desk's arrivals, in order, with rising
  -- numbers
  pub record AreFinished (table : List (List Receipt)) : Type 0 where
    pub rows : AreRows news scripts table
    pub rising : (thread : ℕ) (script : ThreadSpec) (row : List Receipt) → slice_get scripts thread ≡ Some script
        → slice_get table thread ≡ Some row → AreRising olds script.ops row
    pub gains : AtDesks (λ d v w. Gains v w (invokes_of_all d scripts table) (slice_index_or arrivals d [])) olds news
    pub arrived : AtDesks (λ d v w. HasArrived v w (slice_index_or arrivals d [])) olds news

  -- a thread was refused, and each thread with a smaller number finished its script; no worker invoked the call that
  -- was open
  pub record IsThreadRefused (thread index part : ℕ) (refusal : DeskRefused) : Type 0 where
    pub script : ThreadSpec
    pub there : slice_get scripts thread ≡ Some script
    pub refusal_is : IsCallRefused specs olds news script.ops thread index part refusal
    pub foreign : (call : ℕ) (v w : DeskView) → refusal ≡ refused.OpenCall call → slice_get olds part ≡ Some v
        → slice_get news part ≡ Some w → IsNotOwn call v w
    pub sooner : (t : ℕ) (s : ThreadSpec) → t < thread → slice_get scripts t ≡ Some s → HasRow olds news t s.ops

  -- a desk's arrivals were refused; each thread finished its script, and the arrivals of each earlier desk all arrived
  pub record IsPartRefused (index part : ℕ) (refusal : DeskRefused) : Type 0 where
    pub frames : List (List ℕ)
    pub there : slice_get arrivals part ≡ Some frames
    pub refusal_is : IsArrivalRefused specs olds news frames index part refusal
    pub threads : (t : ℕ) (s : ThreadSpec) → slice_get scripts t ≡ Some s → HasRow olds news t s.ops
    pub sooner : (d : ℕ) (fs : List (List ℕ)) (v w : DeskView) → d < part → slice_get arrivals d ≡ Some fs
        → slice_get olds d ≡ Some v → slice_get news d ≡ Some w → HasArrived v w fs

  -- a worker was refused: that of a thread, or that of a desk's arrivals
  abbrev pub IsRefused : Work → ℕ → ℕ → DeskRefused → Type 0
  IsRefused (work.Script thread) index part refusal = IsThreadRefused thread index part refusal
  IsRefused (work.Arrivals p) index part refusal = (part ≡ p) × IsPartRefused index part refusal

  -- if there is a worker, what each seat has seen is a run
  abbrev pub AreSeenRuns : Type 0
  AreSeenRuns = 0 < length (all_works scripts arrivals) → AreRuns specs news

  abbrev pub WorkersEnd : Result (List (List Receipt)) WorkerStop → Type 0
  WorkersEnd (Ok table) = AreFinished table × AreSeenRuns × StayAlone olds news
  WorkersEnd (Err (stop.Refused own index part refusal)) =
      AtDesks (λ d v w. AtMost scripts (slice_index_or arrivals d []) d v w) olds news
      × IsRefused own index part refusal
      × AreSeenRuns
      × StayAlone olds news
  WorkersEnd (Err stop.NoMemory) = Unit {0}
