-- What an exploration leaves.
use Rattle.std.proofs.Common.{◌≡◌, ℕ, ◌<◌, ◌⊎◌, inl, inr, nat_lt, if◌then◌else◌, Bool, true, false, List, Ok, arith, refl, subst}
use Rattle.explore_defs.specs.Explored.{IsExplored, explored_status, rows_of_status}
use Rattle.explore_defs.specs.declared.TheConstants.{CUT_STATUS}
use Rattle.explore_laws.proofs.AnyOrder.{status_keeps}
use Rattle.input_defs.specs.ScenarioReading.{scenario_from}
use Rattle.nook_data.specs.Types.{MemberRow}
use Rattle.nook_data.specs.declared.scenario.Scenario.{Scenario}
use Rattle.nook_io.specs.Listening.{Listening}
use Rattle.nooks.specs.Answers.{AnswersInput, IsExploration, IsExploredStatus}
use Rattle.nooks.specs.Endings.{IsBegun, IsWritten, Writes}
use Rattle.nook_io.specs.Changes.{Change}
use Rattle.nooks.specs.Streams.{Gains, GainsFront, Whole}
use Rattle.nooks.specs.declared.program.Status.{Status}
use Rattle.nooks.specs.declared.program.Status.TheVariants as ended
use Rattle.command_forms.specs.declared.words.Form.TheVariants as form
use Rattle.nooks.proofs.Written.{writes_more}

-- ---- the status

abbrev number_by : Bool → Bool → Bool → ℕ
number_by broken is_cut given_up = if broken then 7 else if is_cut then CUT_STATUS else if given_up then 1 else 0

known_by : (broken is_cut given_up : Bool) → (status : Status) × IsExploredStatus (number_by broken is_cut given_up) status
known_by true is_cut given_up = (ended.ContractBroken, refl)
known_by false true given_up = (ended.Cut, refl)
known_by false false true = (ended.GivenUp, refl)
known_by false false false = (ended.Done, refl)

-- every exploration has a status
pub status_exists : (is_cut : Bool) (rows : List MemberRow) → (status : Status) × IsExploredStatus (explored_status is_cut rows) status
status_exists is_cut rows = known_by (nat_lt 0 (rows_of_status 7 rows)) is_cut (nat_lt 0 (rows_of_status 1 rows))

low_by : (number : ℕ) (status : Status) → IsExploredStatus number status → (status ≡ ended.Done) ⊎ (status ≡ ended.GivenUp) → number < 7
low_by number status is (inl e) =
    let none : number ≡ 0 = subst (λ s. IsExploredStatus number s) e is in omega (arith, none)
low_by number status is (inr e) =
    let one : number ≡ 1 = subst (λ s. IsExploredStatus number s) e is in omega (arith, one)

-- an exploration with its status
pub exploration : (scenario : Scenario) (text : List ℕ) (number : ℕ) (status : Status) → IsExplored scenario text number
    → IsExploredStatus number status → IsExploration scenario text status
exploration scenario text number status explored is = record {
  number = number;
  explored = explored;
  status_is = is;
  unbroken = λ ended spec s run. status_keeps scenario text number spec s explored (low_by number status is ended) run;
}

-- ---- what is written

-- an exploration that was written in full ends with its status
explored_writes : (Answer : List ℕ → Status → Type 0) (sink : Change) (number : ℕ) (status : Status) → IsExploredStatus number status
    → IsWritten Answer sink status → Writes Answer sink status
explored_writes Answer sink number ended.Done is written = written
explored_writes Answer sink number ended.GivenUp is written = written
explored_writes Answer sink number ended.Usage is written = absurd is
explored_writes Answer sink number ended.BadInput is written = absurd is
explored_writes Answer sink number ended.ReadFault is written = absurd is
explored_writes Answer sink number ended.WriteFault is written = absurd is
explored_writes Answer sink number ended.NoMemory is written = absurd is
explored_writes Answer sink number ended.ContractBroken is written = written
explored_writes Answer sink number ended.AuditNo is written = absurd is
explored_writes Answer sink number ended.Cut is written = written

-- an exploration was written in full
pub rows_written : (scenario : Scenario) (text : List ℕ) (number : ℕ) (sink : Change) (status : Status) → IsExplored scenario text number
    → IsExploredStatus number status → Gains sink text → Writes (IsExploration scenario) sink status
rows_written scenario text number sink status explored is gained =
    explored_writes (IsExploration scenario) sink number status is
    (record { text = text; answer = exploration scenario text number status explored is; gained = gained })

-- a prefix of an exploration was written
pub rows_begun : (scenario : Scenario) (text : List ℕ) (is_cut : Bool) (rows : List MemberRow) (sink : Change)
    → IsExplored scenario text (explored_status is_cut rows) → GainsFront sink text → IsBegun (IsExploration scenario) sink
rows_begun scenario text is_cut rows sink explored front =
    let status = status_exists is_cut rows in record {
      text = text;
      status = status.0;
      answer = exploration scenario text (explored_status is_cut rows) status.0 explored status.1;
      gained = front;
    }

-- the bytes of a scenario are answered with its exploration
pub exploration_answers : (bytes : List ℕ) (scenario : Scenario) (hearing : List Listening) (sink : Change) (status : Status)
    → scenario_from bytes ≡ Ok scenario → Writes (IsExploration scenario) sink status
    → Writes (AnswersInput form.Explore (Whole bytes) hearing) sink status
exploration_answers bytes scenario hearing sink status reading ends =
    writes_more (IsExploration scenario) (AnswersInput form.Explore (Whole bytes) hearing) sink status
    (λ text s is. inr (record { scenario = scenario; reading = reading; exploration = is })) ends
