use Rattle.image_list.proofs.EachWord.{refused}
use Rattle.image_list.proofs.laws.faults_are_the_assemblers.Goals as goal

pub returns : goal.returns
returns c = refused
