use Rattle.image_list.proofs.EachWord.{each_listed}
use Rattle.image_list.proofs.laws.every_word_is_listed.Goals as goal

pub returns : goal.returns
returns c = record {
  image = λ text l e. (each_listed text l e).0;
  text = λ text l e. (each_listed text l e).1;
  initial = λ text l e. (each_listed text l e).2;
}
