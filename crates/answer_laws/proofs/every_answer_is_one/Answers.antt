use Rattle.answer_laws.proofs.EachForm.{form_laws, words_once}
use Rattle.answer_laws.proofs.every_answer_is_one.Goals as goal

pub returns : goal.returns
returns c = record {
  forms = λ asked input hearing text other status end single. (form_laws asked).once input hearing single text other status end;
  words = words_once;
  alone = λ asked. (form_laws asked).alone;
}
