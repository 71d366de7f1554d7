use Rattle.part_laws.proofs.StepsFit.{run_collecting}
use Rattle.part_laws.proofs.steps.every_collect_leaves_the_registration.Goals as goal

pub returns : goal.returns
returns c = run_collecting
