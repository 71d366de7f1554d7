use Rattle.reading_laws.proofs.ImagesRead.{image_is_valid}
use Rattle.reading_laws.proofs.limits.images_are_valid.Goals as goal

pub returns : goal.returns
returns c = image_is_valid
