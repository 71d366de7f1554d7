use Rattle.front_laws.proofs.StopChain.{stopped_valid}
use Rattle.front_laws.proofs.stops.a_scenario_with_its_first_traps_is_valid.Goals as goal

pub returns : goal.returns
returns c = stopped_valid
