use Rattle.part_laws.proofs.StepsFit.{fit_after}
use Rattle.part_laws.proofs.steps.each_step_fits.Goals as goal

pub returns : goal.returns
returns c = fit_after
