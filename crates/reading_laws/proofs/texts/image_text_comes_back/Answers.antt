use Rattle.reading_laws.proofs.ImageJson.{text_comes_back}
use Rattle.reading_laws.proofs.texts.image_text_comes_back.Goals as goal

pub returns : goal.returns
returns c = text_comes_back
