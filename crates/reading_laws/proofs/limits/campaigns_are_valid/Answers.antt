use Rattle.reading_laws.proofs.CampaignsRead.{campaign_is_valid}
use Rattle.reading_laws.proofs.limits.campaigns_are_valid.Goals as goal

pub returns : goal.returns
returns c = campaign_is_valid
