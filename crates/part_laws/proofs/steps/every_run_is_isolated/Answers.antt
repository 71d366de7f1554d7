use Rattle.part_laws.proofs.StepsFit.{run_isolated}
use Rattle.part_laws.proofs.steps.every_run_is_isolated.Goals as goal

pub returns : goal.returns
returns c = run_isolated
