use Rattle.reading_laws.proofs.AssembledRead.{assembled_is_valid}
use Rattle.reading_laws.proofs.limits.assembled_images_are_valid.Goals as goal

pub returns : goal.returns
returns c = assembled_is_valid
