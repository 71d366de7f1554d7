use Rattle.campaign_laws.proofs.RunsUnder.{run_under_exists}
use Rattle.campaign_laws.proofs.members.every_scenario_has_a_run_under.Goals as goal

pub returns : goal.returns
returns c = run_under_exists
