use Rattle.std.specs.Prelude.{◌≡◌, ℕ, Bool, Option, Some, None, length, map}
use Rattle.campaign_defs.specs.Members.{IsRunUnder, Ran}
use Rattle.campaign_defs.specs.Rows.{plan_row}
use Rattle.campaign_defs.specs.Types.{Row}
use Rattle.campaign_rows.specs.Shown.{IsShown, Shows}
use Rattle.campaign_rows.specs.declared.shown.Shown.{Shown}
use Rattle.fault_campaign.specs.declared.outcome.Outcome.{Outcome}
use Rattle.guarded_run.specs.declared.guarded.Guarded.{Guarded}
use Rattle.nook_data.specs.Types.{Scenario}
use Rattle.plan_defs.specs.Types.{Plan}
use Rattle.run_results.specs.Reports.{IsReport}
use Rattle.run_results.specs.declared.report.Report.{Report}
use Rattle.run_defs.specs.Simulation.{IsScheduledRun, Simulation, answer_table, journals_of}
use Rattle.run_results.specs.Journals.{AreRuns, events_in}

-- The result of a campaign's run.

-- the report of a scenario's scheduled run
pub record IsScheduledReport (scenario : Scenario) (report : Report) : Type 0 where
  pub simulation : Simulation
  pub scheduled : IsScheduledRun scenario simulation
  pub whole : IsReport scenario report
  pub journals : map events_in report.run.journals ≡ journals_of simulation
  pub answers : report.run.answers ≡ answer_table simulation
  pub runs : AreRuns scenario.parts (map events_in report.run.journals)

-- the scenario that was run: the guarded one, if there is one, else the given one
abbrev pub scenario_run : Option Guarded → Scenario → Scenario
scenario_run None given = given
scenario_run (Some guarded) given = guarded.scenario

-- the traps of the guard
abbrev pub trap_count : Option Guarded → ℕ
trap_count None = 0
trap_count (Some guarded) = length guarded.stops

-- the run that a campaign makes of a scenario, with its report
pub record IsOutcomeOf (guard : Bool) (scenario : Scenario) (outcome : Outcome) : Type 0 where
  pub ran : Ran
  pub is_run : IsRunUnder guard scenario ran
  pub shows : Shows ran (scenario_run outcome.guarded scenario) outcome.report
  pub traps : trap_count outcome.guarded ≡ ran.traps

-- the row of the run that a campaign makes of a scenario, compared with the run `own`
pub record IsRowUnder (plan : Plan) (own : Ran) (scenario : Scenario) (row : Row) : Type 0 where
  pub ran : Ran
  pub is_run : IsRunUnder plan.guard scenario ran
  pub same : row ≡ plan_row plan own ran

-- the same, compared with any run that has these texts
abbrev pub IsRowOver : Plan → Shown → Scenario → Row → Type 0
IsRowOver plan shown scenario row = (own : Ran) → IsShown own shown → IsRowUnder plan own scenario row
