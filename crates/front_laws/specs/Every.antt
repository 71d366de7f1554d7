use Rattle.std.specs.Prelude.{◌≡◌, ℕ, List, ◌∷◌}
use Rattle.std.specs.List.{AllZip}
use Rattle.nook_data.specs.Members.{struck}
use Rattle.nook_data.specs.Types.{Fault, MemberRow, Scenario}
use Rattle.guard_defs.specs.Every.{IsIn}
use Rattle.report_defs.specs.Campaigns.{IsRowOf, row_of}
use Rattle.report_defs.specs.ReportText.{status_of}
use Rattle.run_defs.specs.Simulation.{IsScheduledRun, Simulation, answer_table, journals_of}

-- The rows of every single fault.

-- the row of a scenario's own run
abbrev pub base_row : Scenario → Simulation → MemberRow
base_row scenario s = row_of scenario.parts (journals_of s) (answer_table s)

-- one row for each fault in order, for the run of the scenario whose part at an index has that fault too
abbrev pub AreRowsOf : Scenario → ℕ → List Fault → List MemberRow → Type 0
AreRowsOf scenario index faults rows = AllZip (λ f row. IsRowOf (struck scenario index f) row) faults rows

-- each row has status 0
abbrev pub AllKept : List MemberRow → Type 0
AllKept rows = (row : MemberRow) → IsIn rows row → row.status ≡ 0

-- the run of a scenario ends with status 0
pub record EndsWell (scenario : Scenario) : Type 0 where
  pub simulation : Simulation
  pub scheduled : IsScheduledRun scenario simulation
  pub status_is : status_of scenario.parts (journals_of simulation) ≡ 0
