use Rattle.campaign_laws.proofs.RunsUnder.{run_under_valid}
use Rattle.campaign_laws.proofs.members.a_run_under_is_a_run_of_a_valid_scenario.Goals as goal

pub returns : goal.returns
returns c = run_under_valid
