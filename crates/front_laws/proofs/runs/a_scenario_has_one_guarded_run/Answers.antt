use Rattle.front_laws.proofs.Unique.{one_guarded_run}
use Rattle.front_laws.proofs.runs.a_scenario_has_one_guarded_run.Goals as goal

pub returns : goal.returns
returns c = one_guarded_run
