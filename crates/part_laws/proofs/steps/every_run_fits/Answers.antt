use Rattle.part_laws.proofs.StepsFit.{run_fit}
use Rattle.part_laws.proofs.steps.every_run_fits.Goals as goal

pub returns : goal.returns
returns c = run_fit
