use Rattle.reading_laws.proofs.ScenariosRead.{scenario_is_valid}
use Rattle.reading_laws.proofs.limits.scenarios_are_valid.Goals as goal

pub returns : goal.returns
returns c = scenario_is_valid
