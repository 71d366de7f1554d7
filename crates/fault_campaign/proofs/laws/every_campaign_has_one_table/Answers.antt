use Rattle.fault_campaign.proofs.Tables.{table_once}
use Rattle.fault_campaign.proofs.laws.every_campaign_has_one_table.Goals as goal

pub returns : goal.returns
returns c = table_once
