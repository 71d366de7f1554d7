use Rattle.front_laws.proofs.ValidGuarded.{guarded_valid}
use Rattle.front_laws.proofs.runs.the_guarded_scenario_is_valid.Goals as goal

pub returns : goal.returns
returns c = guarded_valid
