use Rattle.part_defs.specs.Steps.{opening}
use Rattle.part_laws.proofs.RunsDetermined.{run_made, same_steps_same_run}
use Rattle.part_laws.proofs.steps.every_run_is_determined_by_its_steps.Goals as goal

pub returns : goal.returns
returns c = record {
  made = λ spec journal r. run_made (opening spec) journal r;
  same = λ spec a b ra rb e. same_steps_same_run (opening spec) a b ra rb e;
}
