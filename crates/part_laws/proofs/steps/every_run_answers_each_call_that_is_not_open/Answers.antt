use Rattle.part_laws.proofs.Answered.{run_answered}
use Rattle.part_laws.proofs.steps.every_run_answers_each_call_that_is_not_open.Goals as goal

pub returns : goal.returns
returns c = run_answered
