use Rattle.std.specs.Prelude.{◌≡◌, Bool, List}
use Rattle.campaign_defs.specs.Members.{IsRunUnder, Ran}
use Rattle.campaign_defs.specs.Types.{Row}
use Rattle.guard_defs.specs.Every.{IsIn}
use Rattle.nook_data.specs.Types.{Scenario}
use Rattle.report_defs.specs.ReportText.{status_of}
use Rattle.run_defs.specs.Simulation.{journals_of}

-- Tables in which nothing goes wrong.

-- each row has status 0
abbrev pub AllEndWell : List Row → Type 0
AllEndWell rows = (row : Row) → IsIn rows row → row.counts.status ≡ 0

-- a campaign's run of the scenario ends with status 0
pub record EndsWellUnder (guard : Bool) (scenario : Scenario) : Type 0 where
  pub ran : Ran
  pub is_run : IsRunUnder guard scenario ran
  pub status_is : status_of ran.scenario.parts (journals_of ran.simulation) ≡ 0
