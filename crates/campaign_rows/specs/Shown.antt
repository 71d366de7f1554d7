use Rattle.std.specs.Prelude.{◌≡◌, map}
use Rattle.campaign_defs.specs.Members.{Ran}
use Rattle.campaign_defs.specs.Rows.{answer_texts, left_texts}
use Rattle.campaign_rows.specs.declared.shown.Shown.{Shown}
use Rattle.nook_data.specs.Types.{Scenario}
use Rattle.run_results.specs.Reports.{IsReport}
use Rattle.run_results.specs.declared.report.Report.{Report}
use Rattle.run_defs.specs.Simulation.{answer_table, journals_of}
use Rattle.run_results.specs.Journals.{AreRuns, events_in}

-- a report is that of a run, and the scenario is the one that was run
pub record Shows (ran : Ran) (scenario : Scenario) (report : Report) : Type 0 where
  pub scenario_is : ran.scenario ≡ scenario
  pub whole : IsReport scenario report
  pub journals : map events_in report.run.journals ≡ journals_of ran.simulation
  pub answers : report.run.answers ≡ answer_table ran.simulation
  pub runs : AreRuns scenario.parts (map events_in report.run.journals)

-- the texts are those of a run: the answers of each thread, and the final state of each part
pub record IsShown (ran : Ran) (shown : Shown) : Type 0 where
  pub answers : shown.answers ≡ answer_texts (answer_table ran.simulation)
  pub left : shown.left ≡ left_texts ran.scenario.parts (journals_of ran.simulation)
