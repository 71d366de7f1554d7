use Rattle.headline_laws.proofs.Restarts.{run_survives}
use Rattle.headline_laws.proofs.restart.medium_and_objects_survive_a_failure.Goals as goal

pub returns : goal.returns
returns c = run_survives
