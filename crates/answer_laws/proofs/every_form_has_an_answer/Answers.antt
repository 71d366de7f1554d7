use Rattle.answer_laws.proofs.EachForm.{words_exist}
use Rattle.answer_laws.proofs.every_form_has_an_answer.Goals as goal

pub returns : goal.returns
returns c = words_exist
