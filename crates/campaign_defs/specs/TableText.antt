use Rattle.std.specs.Prelude.{ℕ, suc, ◌+◌, Bool, true, false, List, [], ◌∷◌, ◌++◌, length, Option, Some, None, codes, decimal}
use Rattle.campaign_defs.specs.Members.{Ran, runs_every}
use Rattle.campaign_defs.specs.Rows.{plan_row}
use Rattle.campaign_defs.specs.Types.{Detail, Row}
use Rattle.nook_data.specs.Types.{FailCause, MemberRow}
use Rattle.plan_defs.specs.Types.{Plan}
use Rattle.report_defs.specs.Campaigns.{status_count}
use Rattle.report_defs.specs.ReportLines.{cause_text, line_feed, with_number}

-- The text of a campaign's table.

-- ---- a row

-- ` status S events E failures F gone G lost L`
abbrev pub counts_text : MemberRow → List ℕ
counts_text row =
    with_number (codes " status ") row.status ++ (with_number (codes " events ") row.events
    ++ (with_number (codes " failures ") row.failures ++ (with_number (codes " gone ") row.gone
    ++ with_number (codes " lost ") row.lost)))

-- whether something equals that of the base's run
abbrev pub same_text : Bool → List ℕ
same_text true = codes "same"
same_text false = codes "other"

-- the number of the first clause that was broken
abbrev pub clause_text : Option ℕ → List ℕ
clause_text None = codes "-"
clause_text (Some clause) = decimal clause

-- the cause of the struck part's first failure
abbrev pub first_cause_text : Option FailCause → List ℕ
first_cause_text None = codes "-"
first_cause_text (Some cause) = cause_text cause

-- ` answers A left L break C`, if the campaign asks for detail
abbrev pub detail_text : Option Detail → List ℕ
detail_text None = []
detail_text (Some detail) =
    codes " answers " ++ (same_text detail.same_answers ++ (codes " left " ++ (same_text detail.same_left
    ++ (codes " break " ++ clause_text detail.clause))))

-- ` traps N`, if the campaign is guarded
abbrev pub traps_text : Option ℕ → List ℕ
traps_text None = []
traps_text (Some traps) = with_number (codes " traps ") traps

-- ` cause TEXT`, if the campaign asks for detail
abbrev pub cause_words : Option Detail → List ℕ
cause_words None = []
cause_words (Some detail) = codes " cause " ++ first_cause_text detail.cause

-- the line of a row with its number
abbrev pub plan_row_line : ℕ → Row → List ℕ
plan_row_line number row =
    decimal number ++ (counts_text row.counts ++ (detail_text row.detail ++ (traps_text row.traps
    ++ (cause_words row.detail ++ line_feed))))

-- the lines of rows, numbered from `number` on
abbrev pub plan_row_lines : ℕ → List Row → List ℕ
plan_row_lines number [] = []
plan_row_lines number (row ∷ rows) = plan_row_line number row ++ plan_row_lines (suc number) rows

-- ---- the last line

abbrev pub counts_of : List Row → List MemberRow
counts_of [] = []
counts_of (row ∷ rows) = row.counts ∷ counts_of rows

-- the number of traps in a row
abbrev pub traps_in : Option ℕ → ℕ
traps_in None = 0
traps_in (Some traps) = traps

-- the number of traps in all rows
abbrev pub traps_count : List Row → ℕ
traps_count [] = 0
traps_count (row ∷ rows) = traps_in row.traps + traps_count rows

-- a number, if the campaign is guarded
abbrev pub if_guarded : Bool → ℕ → Option ℕ
if_guarded true traps = Some traps
if_guarded false traps = None

-- `campaign N kept A given_up B broken C`, followed by ` traps T` if the campaign is guarded
abbrev pub plan_effects_line : ℕ → ℕ → ℕ → ℕ → Option ℕ → List ℕ
plan_effects_line members kept given_up broken traps =
    with_number (codes "campaign ") members ++ (with_number (codes " kept ") kept
    ++ (with_number (codes " given_up ") given_up ++ (with_number (codes " broken ") broken
    ++ (traps_text traps ++ line_feed))))

-- the last line of a table: the number of members, how many have status 0, 1 and 7, and the number of all traps
abbrev pub plan_last_line : Bool → List Row → List ℕ
plan_last_line guard rows = plan_effects_line (length rows) (status_count 0 (counts_of rows))
    (status_count 1 (counts_of rows)) (status_count 7 (counts_of rows)) (if_guarded guard (traps_count rows))

-- ---- a table

-- the row of the base's run, with number 0, if every fault of some kinds is run
abbrev pub base_line : Bool → Row → List ℕ
base_line true row = plan_row_line 0 row
base_line false row = []

-- the text of a table, from its base's run and the rows of its members
abbrev pub plan_table_text : Plan → Ran → List Row → List ℕ
plan_table_text plan base rows =
    base_line (runs_every plan.strikes) (plan_row plan base base)
    ++ (plan_row_lines 1 rows ++ plan_last_line plan.guard rows)
