use Rattle.guarded_run.proofs.Ending.{guarded_ends}
use Rattle.guarded_run.proofs.laws.every_scenario_has_a_guarded_run.Goals as goal

pub returns : goal.returns
returns c = guarded_ends
