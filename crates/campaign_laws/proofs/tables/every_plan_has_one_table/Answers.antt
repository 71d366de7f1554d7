use Rattle.campaign_laws.proofs.PlanTables.{plan_table_once}
use Rattle.campaign_laws.proofs.tables.every_plan_has_one_table.Goals as goal

pub returns : goal.returns
returns c = plan_table_once
