use Rattle.campaign_laws.proofs.PlanTables.{plan_table_exists}
use Rattle.campaign_laws.proofs.tables.every_plan_has_a_table.Goals as goal

pub returns : goal.returns
returns c = plan_table_exists
