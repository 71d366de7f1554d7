use Rattle.std.specs.Prelude.{◌≡◌, ℕ, suc, ◌+◌, ◌==◌, Bool, true, false, List, [], ◌∷◌, ◌++◌, length}
use Rattle.std.specs.Prelude.{count_by, codes, decimal}
use Rattle.std.specs.List.{AllZip}
use Rattle.nook_data.specs.Types.{Answer, Campaign, Event, Fault, Losses, MemberRow, PartSpec, Scenario}
use Rattle.nook_data.specs.declared.calls.Answer.TheVariants as answered
use Rattle.promise_defs.specs.Losses.{losses, one_if}
use Rattle.report_defs.specs.ReportLines.{with_number, line_feed}
use Rattle.run_defs.specs.Simulation.{events_count}
use Rattle.report_defs.specs.ReportText.{failures_count, status_of}
use Rattle.run_defs.specs.Simulation.{IsScheduledRun, Simulation, answer_table, journals_of}
use Rattle.nook_data.specs.Members.{member}

-- A campaign: one scenario, run once for each fault of a list, and the table of the results. Each run is a
-- member.

-- ---- rows

-- the answer is Gone
abbrev pub is_gone_answer : Answer → Bool
is_gone_answer (answered.Gone failures) = true
is_gone_answer a = false

-- the number of a thread's answers that are Gone
abbrev pub gone_in : List (ℕ × Answer) → ℕ
gone_in [] = 0
gone_in (a ∷ answers) = one_if (is_gone_answer a.1) + gone_in answers

-- the number of all threads' answers that are Gone
abbrev pub gone_count : List (List (ℕ × Answer)) → ℕ
gone_count [] = 0
gone_count (own ∷ answers) = gone_in own + gone_count answers

-- the number of sends, samples and Busy answers that were lost
abbrev pub lost_of : Losses → ℕ
lost_of n = n.sends + n.samples + n.busy

-- the same number for some journals
abbrev pub lost_count : List (List Event) → ℕ
lost_count [] = 0
lost_count (events ∷ journals) = lost_of (losses events) + lost_count journals

-- the row of a run of these parts, from its journals and its threads' answers
unfoldable pub row_of : List PartSpec → List (List Event) → List (List (ℕ × Answer)) → MemberRow
row_of specs journals answers = record {
  status = status_of specs journals;
  events = events_count journals;
  failures = failures_count specs journals;
  gone = gone_count answers;
  lost = lost_count journals;
}

-- the row of the scenario's scheduled run
pub record IsRowOf (scenario : Scenario) (row : MemberRow) : Type 0 where
  pub simulation : Simulation
  pub scheduled : IsScheduledRun scenario simulation
  pub same : row ≡ row_of scenario.parts (journals_of simulation) (answer_table simulation)

-- one row for each of some faults of a campaign, in their order; each is of that member's scheduled run
abbrev pub AreRows : Campaign → List Fault → List MemberRow → Type 0
AreRows campaign faults rows = AllZip (λ fault row. IsRowOf (member campaign fault) row) faults rows

-- the table of a campaign
abbrev pub IsTable : Campaign → List MemberRow → Type 0
IsTable campaign rows = AreRows campaign campaign.faults rows

-- ---- the table's text

-- K status S events E failures F gone G lost L
abbrev pub row_line : ℕ → MemberRow → List ℕ
row_line number row =
    decimal number ++ (with_number (codes " status ") row.status ++ (with_number (codes " events ") row.events
    ++ (with_number (codes " failures ") row.failures ++ (with_number (codes " gone ") row.gone
    ++ (with_number (codes " lost ") row.lost ++ line_feed)))))

-- the lines of rows, numbered from `number` on
abbrev pub row_lines : ℕ → List MemberRow → List ℕ
row_lines number [] = []
row_lines number (row ∷ rows) = row_line number row ++ row_lines (suc number) rows

-- the number of rows with a status
abbrev pub status_count : ℕ → List MemberRow → ℕ
status_count status rows = count_by (λ row. row.status == status) rows

-- campaign N kept A given_up B broken C
abbrev pub counts_line : ℕ → ℕ → ℕ → ℕ → List ℕ
counts_line members kept given_up broken =
    with_number (codes "campaign ") members ++ (with_number (codes " kept ") kept
    ++ (with_number (codes " given_up ") given_up ++ (with_number (codes " broken ") broken ++ line_feed)))

-- the last line of a table: the number of rows, and how many have status 0, 1 and 7
abbrev pub last_line : List MemberRow → List ℕ
last_line rows = counts_line (length rows) (status_count 0 rows) (status_count 1 rows) (status_count 7 rows)

-- the text of a table
abbrev pub table_text : List MemberRow → List ℕ
table_text rows = row_lines 1 rows ++ last_line rows
