use Rattle.sim_run.proofs.Ending.{scheduled_once}
use Rattle.sim_run.proofs.laws.every_scenario_has_one_scheduled_run.Goals as goal

pub returns : goal.returns
returns c = scheduled_once
