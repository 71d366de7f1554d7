use Rattle.mirrored_run.proofs.Folding.{run_folds}
use Rattle.mirrored_run.proofs.laws.the_answers_are_the_rules.Goals as goal

pub returns : goal.returns
returns c = run_folds
