use Rattle.part_defs.specs.Steps.{opening}
use Rattle.part_laws.proofs.RunsDetermined.{step_named, run_more, state_more}
use Rattle.part_laws.proofs.steps.every_run_goes_on_by_an_enabled_step.Goals as goal

pub returns : goal.returns
returns c = record {
  named = step_named;
  more = λ spec journal s r e. run_more (opening spec) journal s r e;
  state = λ spec journal s. state_more (opening spec) journal s;
}
