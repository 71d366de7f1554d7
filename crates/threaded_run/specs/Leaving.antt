-- What desks' parts leave when they have no step left except invocations and arrivals.
use Rattle.std.specs.Prelude.{◌≡◌, ℕ, suc, None, List, [], ◌∷◌, ◌++◌}
use Rattle.std.specs.List.{AllByRecursion}
use Rattle.nook_data.specs.declared.calls.Answer.{Answer}
use Rattle.nook_data.specs.declared.steps.Event.{Event}
use Rattle.nook_data.specs.declared.scenario.PartSpec.{PartSpec}
use Rattle.nook_data.specs.declared.desks.Receipt.{Receipt}
use Rattle.nook_data.specs.declared.scenario.ThreadSpec.{ThreadSpec}
use Rattle.nook_data.specs.Views.Room.{Kept}
use Rattle.part_defs.specs.Runs.{IsRun, PartRun, next_any, state_of}
use Rattle.run_results.specs.declared.report.PartEnd.{PartEnd}
use Rattle.run_results.specs.Reports.{ShowsState}
use Rattle.desk_like.specs.Desks.{DeskView, IsAlone, IsOther, IsRisingFrom}
use Rattle.desk_like.specs.Stamps.{IsStampedFrom}
use Rattle.part_server.specs.Turns.{opening_view}
use Rattle.threaded_run.specs.Others.{HaveNoOthers}
use Rattle.threaded_run.specs.Threaded.{HaveArrivals, HaveReceipts, answers_by, invoked_on}

-- the journal continues after these events, without an invocation or an arrival
pub record GoesOn (seen journal : List Event) : Type 0 where
  pub rest : List Event
  pub begins : seen ++ rest ≡ journal
  pub others : AllByRecursion IsOther rest

-- The part has this spec. Its journal continues what the only seat at its desk has seen, and it has no step left except
-- invocations and arrivals
pub record IsClosed (spec : PartSpec) (seen : List Event) (part : PartRun) : Type 0 where
  pub same : part.state.spec ≡ spec
  pub goes_on : GoesOn seen part.journal
  pub settled : next_any (state_of spec part.journal) ≡ None

-- the same for a part's journal and what the part ends in
pub record IsLeft (spec : PartSpec) (seen : List Event) (journal : Kept Event) (end : PartEnd) : Type 0 where
  pub run : IsRun spec journal.list
  pub goes_on : GoesOn seen journal.list
  pub settled : next_any (state_of spec journal.list) ≡ None
  pub shows : ShowsState spec (state_of spec journal.list) end

-- the same for each part's journal and end
abbrev pub AreLeft : List PartSpec → List (List Event) → List (Kept Event) → List PartEnd → Type 0
AreLeft [] [] [] [] = Unit {0}
AreLeft (spec ∷ specs) (seen ∷ seens) (journal ∷ journals) (end ∷ ends) =
    IsLeft spec seen journal end × AreLeft specs seens journals ends
AreLeft _ _ _ _ = ⊥

-- the events of each part's journal are stamped, and their stamps begin with these
abbrev pub AreStampedFrom : List (List ℕ) → List (Kept Event) → Type 0
AreStampedFrom [] [] = Unit {0}
AreStampedFrom (begun ∷ all) (journal ∷ journals) = IsStampedFrom begun journal.list × AreStampedFrom all journals
AreStampedFrom _ _ = ⊥

-- the answers of each thread's receipts, each with its part
abbrev pub answers_in : List ThreadSpec → List (List Receipt) → List (List (ℕ × Answer))
answers_in [] rows = []
answers_in (t ∷ threads) [] = []
answers_in (t ∷ threads) (row ∷ rows) = answers_by t.ops row ∷ answers_in threads rows

-- a receipt for each operation of each thread, from this thread on, invoked in order on each part
abbrev pub HaveRows : List (List Event) → ℕ → List ThreadSpec → List (List Receipt) → Type 0
HaveRows journals thread [] [] = Unit {0}
HaveRows journals thread (t ∷ threads) (row ∷ rows) =
    (HaveReceipts journals thread t.ops row × ((part : ℕ) → IsRisingFrom 0 (invoked_on part t.ops row)))
    × HaveRows journals (suc thread) threads rows
HaveRows journals thread _ _ = ⊥

-- Threads finished their scripts, and the parts' frames arrived, in what was seen of each part. Nothing else was
-- invoked or arrived there
pub record HaveWorked (parts : List PartSpec) (threads : List ThreadSpec) (seens : List (List Event))
    (rows : List (List Receipt)) : Type 0 where
  pub served : HaveRows seens 0 threads rows
  pub arrived : HaveArrivals parts seens
  pub no_others : HaveNoOthers threads 0 parts seens

-- each seat is the only one at its desk
abbrev pub AreAlone : List DeskView → Type 0
AreAlone views = AllByRecursion IsAlone views

-- each seat is the first at its desk, where nothing was done yet
abbrev pub AreNew : List DeskView → Type 0
AreNew views = AllByRecursion (λ v. v ≡ opening_view) views
