use Rattle.part_laws.proofs.ValidFits.{valid_fits}
use Rattle.part_laws.proofs.steps.every_valid_part_fits.Goals as goal

pub returns : goal.returns
returns c = valid_fits
