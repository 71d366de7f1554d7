-- Workers, from their hiring until their seats are joined.
use Rattle.std.specs.Prelude.{◌≡◌, ℕ, List, ◌∷◌, ◌++◌, map, length, slice_get, Some, Result, Ok, Err}
use Rattle.nook_data.specs.declared.scenario.PartSpec.{PartSpec}
use Rattle.nook_data.specs.declared.desks.Receipt.{Receipt}
use Rattle.nook_data.specs.declared.scenario.ThreadSpec.{ThreadSpec}
use Rattle.desk_like.specs.Desks.{DeskView}
use Rattle.app_threads.specs.declared.stop.WorkerStop.{WorkerStop}
use Rattle.app_threads.specs.declared.stop.WorkerStop.TheVariants as stop
use Rattle.app_threads.specs.declared.work.Work.{Work}
use Rattle.app_threads.specs.declared.work.Worker.{Worker}
use Rattle.app_threads.specs.declared.work.Done.{Done}
use Rattle.app_threads.specs.Steps.{Starts}
use Rattle.app_threads.specs.Workers.{AreSeats, AtDesks, KeepShares}
use Rattle.app_threads.specs.Works.{IsWork, WorkEnds}

-- two lists have the same length, and the relation holds for the items at each index
abbrev pub Each : {X Y : Type 0} → (X → Y → Type 0) → List X → List Y → Type 0
Each {X} {Y} R xs ys =
    (length ys ≡ length xs) × ((i : ℕ) (x : X) (y : Y) → slice_get xs i ≡ Some x → slice_get ys i ≡ Some y → R x y)

module _ {D S : Type 0} (is_seat : D → S → Type 0) (spec : D → PartSpec) (view : S → DeskView) (desks : List D) where
  -- a worker for a work, with new seats that were split from those with these views
  pub record IsHired (olds : List DeskView) (k : Work) (worker : Worker S) : Type 0 where
    pub is : worker.work ≡ k
    pub seats : AreSeats is_seat desks worker.seats.items
    pub starts : AtDesks Starts olds (map view worker.seats.items)

  -- it can do its work
  pub record IsReady (scripts : List ThreadSpec) (arrivals : List (List (List ℕ))) (worker : Worker S) : Type 0 where
    pub seats : AreSeats is_seat desks worker.seats.items
    pub work : IsWork scripts arrivals worker.work

  -- it has done its work, and its seats have the shares that they had
  pub record IsDone (scripts : List ThreadSpec) (arrivals : List (List (List ℕ))) (worker : Worker S)
      (done : Done S) : Type 0 where
    pub seats : AreSeats is_seat desks done.seats.items
    pub ends : WorkEnds (map spec desks) scripts arrivals (map view worker.seats.items) worker.work
        (map view done.seats.items) done.end
    pub shares : KeepShares (map view worker.seats.items) (map view done.seats.items)

-- the first of the ends that is a stop
abbrev pub StopsAt : List (Result (List Receipt) WorkerStop) → WorkerStop → Type 0
StopsAt ends why =
    (rows : List (List Receipt)) × (later : List (Result (List Receipt) WorkerStop))
    × (ends ≡ map (λ row. Ok row) rows ++ Err why ∷ later)

-- all rows, or the first stop; memory may run out in any case
abbrev pub RowsEnd : List (Result (List Receipt) WorkerStop) → Result (List (List Receipt)) WorkerStop → Type 0
RowsEnd ends (Ok rows) = ends ≡ map (λ row. Ok row) rows
RowsEnd ends (Err (stop.Refused thread index part refusal)) = StopsAt ends (stop.Refused thread index part refusal)
RowsEnd ends (Err stop.NoMemory) = Unit {0}
