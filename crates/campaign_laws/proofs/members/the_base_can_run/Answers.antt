use Rattle.campaign_laws.proofs.Struck.{base_can_run}
use Rattle.campaign_laws.proofs.members.the_base_can_run.Goals as goal

pub returns : goal.returns
returns c = base_can_run
