-- Which workers there are, what each is to do, and how it ends.
use Rattle.std.specs.Prelude.{◌≡◌, ℕ, ◌+◌, ◌<◌, ◌==◌, if◌then◌else◌, List, [], ◌∷◌, ◌++◌, length, slice_get}
use Rattle.std.specs.Prelude.{slice_index_or, Option, Some, None, Result, Ok, Err}
use Rattle.nook_data.specs.declared.desks.DeskRefused.{DeskRefused}
use Rattle.nook_data.specs.declared.calls.Op.{Op}
use Rattle.nook_data.specs.declared.scenario.PartSpec.{PartSpec}
use Rattle.nook_data.specs.declared.desks.Receipt.{Receipt}
use Rattle.nook_data.specs.declared.scenario.ThreadSpec.{ThreadSpec}
use Rattle.desk_like.specs.Desks.{DeskView}
use Rattle.app_threads.specs.declared.stop.WorkerStop.{WorkerStop}
use Rattle.app_threads.specs.declared.stop.WorkerStop.TheVariants as stop
use Rattle.app_threads.specs.declared.work.Work.{Work}
use Rattle.app_threads.specs.declared.work.Work.TheVariants as work
use Rattle.app_threads.specs.Order.{Follows, all_stamps}
use Rattle.app_threads.specs.Workers.{AreReceipts, AtDesks, Does, GrewBy, IsArrivalRefused, IsCallRefused, KnowsOpen}
use Rattle.app_threads.specs.Workers.{MadeBy, count_on, invokes_of, no_thread}

-- a work for each script, from the thread with this number on
abbrev pub script_works : ℕ → List ThreadSpec → List Work
script_works thread [] = []
script_works thread (script ∷ scripts) = work.Script thread ∷ script_works (thread + 1) scripts

abbrev pub add_arrivals : ℕ → List (List ℕ) → List Work → List Work
add_arrivals part [] works = works
add_arrivals part (frame ∷ frames) works = work.Arrivals part ∷ works

-- a work for each list that is not empty, from the part with this index on
abbrev pub arrival_works : ℕ → List (List (List ℕ)) → List Work
arrival_works part [] = []
arrival_works part (frames ∷ arrivals) = add_arrivals part frames (arrival_works (part + 1) arrivals)

abbrev pub all_works : List ThreadSpec → List (List (List ℕ)) → List Work
all_works scripts arrivals = script_works 0 scripts ++ arrival_works 0 arrivals

-- the thread whose calls a work makes
abbrev pub thread_of : Work → ℕ
thread_of (work.Script thread) = thread
thread_of (work.Arrivals part) = no_thread

abbrev pub ops_of : Option ThreadSpec → List (ℕ × Op)
ops_of None = []
ops_of (Some script) = script.ops

abbrev pub ops_for : List ThreadSpec → Work → List (ℕ × Op)
ops_for scripts (work.Script thread) = ops_of (slice_get scripts thread)
ops_for scripts (work.Arrivals part) = []

-- the frames that a work adds at a desk
abbrev pub frames_for : ℕ → List (List (List ℕ)) → Work → List (List ℕ)
frames_for d arrivals (work.Script thread) = []
frames_for d arrivals (work.Arrivals part) = if part == d then slice_index_or arrivals part [] else []

-- there is such a script, or such a list of arrivals
abbrev pub IsWork : List ThreadSpec → List (List (List ℕ)) → Work → Type 0
IsWork scripts arrivals (work.Script thread) = thread < length scripts
IsWork scripts arrivals (work.Arrivals part) = part < length arrivals

-- a worker was refused at this index of its work
abbrev pub IsWorkRefused : List PartSpec → List ThreadSpec → List (List (List ℕ)) → List DeskView → List DeskView → Work
    → ℕ → ℕ → DeskRefused → Type 0
IsWorkRefused specs scripts arrivals olds news (work.Script thread) index part refusal =
    IsCallRefused specs olds news (ops_of (slice_get scripts thread)) thread index part refusal
    × KnowsOpen specs olds news thread part refusal
IsWorkRefused specs scripts arrivals olds news (work.Arrivals p) index part refusal =
    (part ≡ p) × IsArrivalRefused specs olds news (slice_index_or arrivals part []) index part refusal

-- how a worker ends
abbrev pub WorkEnds : List PartSpec → List ThreadSpec → List (List (List ℕ)) → List DeskView → Work → List DeskView
    → Result (List Receipt) WorkerStop → Type 0
WorkEnds specs scripts arrivals olds k news (Ok receipts) =
    AreReceipts news (thread_of k) (ops_for scripts k) receipts
    × AtDesks (λ d v w. Does v w (invokes_of d (ops_for scripts k) receipts) (frames_for d arrivals k)) olds news
    × AtDesks (λ d v w. MadeBy (thread_of k) v w) olds news
    × Follows (all_stamps news) 0 (ops_for scripts k) receipts
WorkEnds specs scripts arrivals olds k news (Err (stop.Refused own index part refusal)) =
    AtDesks (λ d v w. GrewBy (thread_of k) (count_on d (ops_for scripts k)) (length (frames_for d arrivals k)) v w) olds
    news
    × (own ≡ k)
    × IsWorkRefused specs scripts arrivals olds news k index part refusal
WorkEnds specs scripts arrivals olds k news (Err stop.NoMemory) =
    AtDesks (λ d v w. GrewBy (thread_of k) (count_on d (ops_for scripts k)) (length (frames_for d arrivals k)) v w) olds
    news
