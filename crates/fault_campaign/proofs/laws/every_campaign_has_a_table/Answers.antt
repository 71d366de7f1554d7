use Rattle.fault_campaign.proofs.Tables.{table_exists}
use Rattle.fault_campaign.proofs.laws.every_campaign_has_a_table.Goals as goal

pub returns : goal.returns
returns c = table_exists
