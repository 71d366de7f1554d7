use Rattle.campaign_laws.proofs.RunsUnder.{run_under_once}
use Rattle.campaign_laws.proofs.members.a_run_under_is_one.Goals as goal

pub returns : goal.returns
returns c = run_under_once
