use Rattle.std.specs.Prelude.{◌≡◌, ◌≤◌, ℕ, suc, nat_lt, if◌then◌else◌, Bool, true, false, All, Contains, decimal}
use Rattle.std.specs.Prelude.{◌==◌, count_by, IfSome, Option, Some, None, is_some, List, [], ◌∷◌, ◌++◌, codes, length, map}
use Rattle.nook_data.specs.Types.{MemberRow, Scenario}
use Rattle.report_defs.specs.Campaigns.{row_of}
use Rattle.report_defs.specs.ReportLines.{line_feed, with_list, with_number}
use Rattle.run_defs.specs.Simulation.{answer_table, begins, journals_of}
use Rattle.explore_defs.specs.Orders.{IsWholePath, IsWithin, Path, comes_before, led}
use Rattle.explore_defs.specs.Outcomes.{outcome_of}
use Rattle.explore_defs.specs.declared.outcome.Outcome.{Outcome}
use Rattle.explore_defs.specs.declared.TheConstants.{CUT_STATUS, MOST_STATES}

-- The result of `explore`: a row for each outcome, with the least picks that lead to it.

-- ---- the outcomes

-- a whole run with the least picks of all whole runs that have its outcome
pub record IsFirst (scenario : Scenario) (path : Path) : Type 0 where
  pub whole : IsWholePath scenario path
  pub least : (other : Path) → IsWholePath scenario other → outcome_of other.end ≡ outcome_of path.end
      → comes_before other.picks path.picks ≡ false

-- one of these runs has the outcome
pub record HasOutcome (firsts : List Path) (outcome : Outcome) : Type 0 where
  pub first : Path
  pub listed : Contains firsts first
  pub same : outcome_of first.end ≡ outcome

-- the picks of the runs rise
unfoldable pub AreRising : List Path → Type 0
AreRising [] = Unit {0}
AreRising (path ∷ paths) = All (λ (next : Path). comes_before path.picks next.picks ≡ true) paths × AreRising paths

-- the first runs of the outcomes of all whole runs, in the order of their picks; with a `cut`, only of those whole runs
-- whose picks are not past it
pub record AreOutcomes (scenario : Scenario) (cut : Option (List ℕ)) (firsts : List Path) : Type 0 where
  pub first : All (IsFirst scenario) firsts
  pub within : All (λ (path : Path). IsWithin cut path.picks) firsts
  pub each : (path : Path) → IsWholePath scenario path → IsWithin cut path.picks
      → HasOutcome firsts (outcome_of path.end)
  pub rising : AreRising firsts

-- ---- the text

-- the numbers of a run, as in a campaign
abbrev pub numbers_of : Scenario → Path → MemberRow
numbers_of scenario path = row_of scenario.parts (journals_of path.end) (answer_table path.end)

-- the numbers of each run
abbrev pub all_numbers : Scenario → List Path → List MemberRow
all_numbers scenario paths = map (numbers_of scenario) paths

-- the number of rows with a status
abbrev pub rows_of_status : ℕ → List MemberRow → ℕ
rows_of_status status rows = count_by (λ (row : MemberRow). row.status == status) rows

-- K status S events E failures F gone G lost L picks [..]
abbrev pub outcome_line : ℕ → MemberRow → List ℕ → List ℕ
outcome_line number row picks =
    decimal number ++ (with_number (codes " status ") row.status ++ (with_number (codes " events ") row.events
    ++ (with_number (codes " failures ") row.failures ++ (with_number (codes " gone ") row.gone
    ++ (with_number (codes " lost ") row.lost ++ (with_list (codes " picks ") picks ++ line_feed))))))

-- the rows, numbered from `number` on
unfoldable pub outcome_lines : ℕ → Scenario → List Path → List ℕ
outcome_lines number scenario [] = []
outcome_lines number scenario (path ∷ paths) =
    outcome_line number (numbers_of scenario path) path.picks ++ outcome_lines (suc number) scenario paths

-- `explored N states O outcomes kept A given_up B broken C`; `explored front N ..` if not every order was followed
abbrev pub explored_line : Bool → ℕ → List MemberRow → List ℕ
explored_line is_cut states rows =
    with_number (if is_cut then codes "explored front " else codes "explored ") states
    ++ (with_number (codes " states ") (length rows) ++ (with_number (codes " outcomes kept ") (rows_of_status 0 rows)
    ++ (with_number (codes " given_up ") (rows_of_status 1 rows)
    ++ (with_number (codes " broken ") (rows_of_status 7 rows) ++ line_feed))))

-- the rows, followed by the line that counts them
abbrev pub explored_text : Scenario → Bool → ℕ → List Path → List ℕ
explored_text scenario is_cut states firsts =
    outcome_lines 1 scenario firsts ++ explored_line is_cut states (all_numbers scenario firsts)

-- 7 if some order breaks a contract; else 9 if not every order was followed, else 1 if some order ends with a part that
-- was given up, else 0
abbrev pub explored_status : Bool → List MemberRow → ℕ
explored_status is_cut rows =
    if nat_lt 0 (rows_of_status 7 rows) then 7
    else if is_cut then CUT_STATUS else if nat_lt 0 (rows_of_status 1 rows) then 1 else 0

-- the picks of the last of these runs
unfoldable pub last_picks : List Path → Option (List ℕ)
last_picks [] = None
last_picks (path ∷ []) = Some path.picks
last_picks (path ∷ next ∷ paths) = last_picks (next ∷ paths)

-- this many states were held, each after the steps of a different run; if there is a `cut`, it has the picks of the
-- last held state, and the number of held states is the maximum
pub record AreStates (scenario : Scenario) (cut : Option (List ℕ)) (states : ℕ) : Type 0 where
  pub held : List Path
  pub reached : All (λ (path : Path). led (begins scenario) path.picks ≡ Some path.end) held
  pub rising : AreRising held
  pub count : states ≡ length held
  pub few : states ≤ MOST_STATES
  pub full : IfSome cut (λ last. (states ≡ MOST_STATES) × (last_picks held ≡ Some last))

-- the text and the status for a scenario. The number of held states and the position of the `cut` depend on which
-- states are held as one
pub record IsExplored (scenario : Scenario) (text : List ℕ) (status : ℕ) : Type 0 where
  pub cut : Option (List ℕ)
  pub states : ℕ
  pub are_states : AreStates scenario cut states
  pub firsts : List Path
  pub outcomes : AreOutcomes scenario cut firsts
  pub text_is : text ≡ explored_text scenario (is_some cut) states firsts
  pub status_is : status ≡ explored_status (is_some cut) (all_numbers scenario firsts)
