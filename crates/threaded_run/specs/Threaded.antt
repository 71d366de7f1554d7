-- What a run by threads leaves: one journal per part, and each thread's answers.
use Rattle.std.specs.Prelude.{◌≡◌, ℕ, suc, ◌==◌, if◌then◌else◌, Bool, List, [], ◌∷◌, ◌++◌, ◌⊎◌, None, map}
use Rattle.std.specs.Prelude.{slice_index_or}
use Rattle.desk_like.specs.Desks.{IsArrive, IsAt, IsReceipt, IsRisingFrom}
use Rattle.nook_data.specs.declared.calls.Answer.{Answer}
use Rattle.nook_data.specs.declared.steps.Event.{Event}
use Rattle.nook_data.specs.declared.calls.Op.{Op}
use Rattle.nook_data.specs.declared.scenario.PartSpec.{PartSpec}
use Rattle.nook_data.specs.declared.desks.Receipt.{Receipt}
use Rattle.nook_data.specs.declared.scenario.Scenario.{Scenario}
use Rattle.nook_data.specs.declared.scenario.ThreadSpec.{ThreadSpec}
use Rattle.order_defs.specs.OneClock.{AreOneRun}
use Rattle.part_defs.specs.Runs.{next_any, state_of}
use Rattle.nook_io.specs.Listening.{Listening}
use Rattle.request_taps.specs.Bus.{after_hearing_all}
use Rattle.request_taps.specs.declared.tap.Tap.{Tap}
use Rattle.run_results.specs.Journals.{AreRuns, with_part}
use Rattle.threaded_run.specs.Others.{HaveNoOthers}

-- ---- parts

-- at the end of each journal its part can take no step except an invocation or an arrival
abbrev pub AreSettled : List PartSpec → List (List Event) → Type 0
AreSettled [] [] = Unit {0}
AreSettled [] (journal ∷ journals) = ⊥
AreSettled (spec ∷ specs) [] = ⊥
AreSettled (spec ∷ specs) (journal ∷ journals) = (next_any (state_of spec journal) ≡ None) × AreSettled specs journals

-- the frames arrive in the journal in order, in the events with these numbers
abbrev pub ArriveAt : List Event → List (List ℕ) → List ℕ → Type 0
ArriveAt journal [] [] = Unit {0}
ArriveAt journal [] (number ∷ numbers) = ⊥
ArriveAt journal (frame ∷ frames) [] = ⊥
ArriveAt journal (frame ∷ frames) (number ∷ numbers) =
    ((kept : Bool) × IsAt journal number (IsArrive frame kept)) × ArriveAt journal frames numbers

-- a part's frames arrive in its journal in order
pub record HasArrivals (journal : List Event) (frames : List (List ℕ)) : Type 0 where
  pub numbers : List ℕ
  pub rising : IsRisingFrom 0 numbers
  pub arrive : ArriveAt journal frames numbers

abbrev pub HaveArrivals : List PartSpec → List (List Event) → Type 0
HaveArrivals [] journals = Unit {0}
HaveArrivals (spec ∷ specs) [] = ⊥
HaveArrivals (spec ∷ specs) (journal ∷ journals) = HasArrivals journal spec.arrivals × HaveArrivals specs journals

-- ---- threads

-- the journal of a part
abbrev pub journal_at : List (List Event) → ℕ → List Event
journal_at journals part = slice_index_or journals part []

-- each operation of a script has a receipt in its part's journal
abbrev pub HaveReceipts : List (List Event) → ℕ → List (ℕ × Op) → List Receipt → Type 0
HaveReceipts journals thread [] [] = Unit {0}
HaveReceipts journals thread [] (receipt ∷ receipts) = ⊥
HaveReceipts journals thread ((part, op) ∷ ops) [] = ⊥
HaveReceipts journals thread ((part, op) ∷ ops) (receipt ∷ receipts) =
    IsReceipt (journal_at journals part) thread op receipt × HaveReceipts journals thread ops receipts

-- the numbers of the invocations of a script's operations on a part
abbrev pub invoked_on : ℕ → List (ℕ × Op) → List Receipt → List ℕ
invoked_on part [] receipts = []
invoked_on part (o ∷ ops) [] = []
invoked_on part ((p, op) ∷ ops) (receipt ∷ receipts) =
    if p == part then receipt.at_invoke ∷ invoked_on part ops receipts else invoked_on part ops receipts

-- the answers of a script's operations, each with its part
abbrev pub answers_by : List (ℕ × Op) → List Receipt → List (ℕ × Answer)
answers_by [] receipts = []
answers_by (o ∷ ops) [] = []
answers_by ((part, op) ∷ ops) (receipt ∷ receipts) = (part, receipt.answer) ∷ answers_by ops receipts

-- on each part, a thread's operations with these answers are, in order, among its invocations and their answers
pub record IsServed (journals : List (List Event)) (thread : ℕ) (ops : List (ℕ × Op))
    (answers : List (ℕ × Answer)) : Type 0 where
  pub receipts : List Receipt
  pub have : HaveReceipts journals thread ops receipts
  pub rising : (part : ℕ) → IsRisingFrom 0 (invoked_on part ops receipts)
  pub same : answers ≡ answers_by ops receipts

-- the same for each thread, from this one on
abbrev pub AreServed : List (List Event) → ℕ → List ThreadSpec → List (List (ℕ × Answer)) → Type 0
AreServed journals thread [] [] = Unit {0}
AreServed journals thread [] (answers ∷ table) = ⊥
AreServed journals thread (t ∷ threads) [] = ⊥
AreServed journals thread (t ∷ threads) (answers ∷ table) =
    IsServed journals thread t.ops answers × AreServed journals (suc thread) threads table

-- ---- the whole

-- The journals and answers of `run threads`: each part has taken all its steps. Each thread's operations with its
-- answers, and each part's arrivals, are in the journals in order. The journals have no other invocation or arrival,
-- and they are one run, by one clock over all parts
pub record IsThreaded (scenario : Scenario) (journals : List (List Event))
    (answers : List (List (ℕ × Answer))) : Type 0 where
  pub settled : AreSettled scenario.parts journals
  pub served : AreServed journals 0 scenario.threads answers
  pub arrived : HaveArrivals scenario.parts journals
  pub no_others : HaveNoOthers scenario.threads 0 scenario.parts journals
  pub one_run : AreOneRun scenario.threads journals

-- the events of journals, part by part; the first journal is that of part `part`
abbrev pub in_parts : ℕ → List (List Event) → List (ℕ × Event)
in_parts part [] = []
in_parts part (journal ∷ journals) = with_part part journal ++ in_parts (suc part) journals

-- taps heard all events of journals that `run threads` may leave, part by part
pub record HearAll (scenario : Scenario) (old new : List (Tap Listening)) : Type 0 where
  pub journals : List (List Event)
  pub answers : List (List (ℕ × Answer))
  pub runs : AreRuns scenario.parts journals
  pub threaded : IsThreaded scenario journals answers
  pub heard : new ≡ after_hearing_all (in_parts 0 journals) old

-- what taps have heard if memory ran out
abbrev pub HearAllOrNothing : Scenario → List (Tap Listening) → List (Tap Listening) → Type 0
HearAllOrNothing scenario old new = (new ≡ old) ⊎ HearAll scenario old new

-- every operation of every thread has an answer: a thread's answers have, in order, the parts of its operations
abbrev pub AreAnswered : Scenario → List (List (ℕ × Answer)) → Type 0
AreAnswered scenario answers =
    map (λ own. map (λ a. a.0) own) answers ≡ map (λ t. map (λ o. o.0) t.ops) scenario.threads
