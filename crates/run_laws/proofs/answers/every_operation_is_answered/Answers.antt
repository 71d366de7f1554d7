use Rattle.run_laws.proofs.Reached.{all_answered, parts_answered}
use Rattle.run_laws.proofs.answers.every_operation_is_answered.Goals as goal

pub returns-clause-parts : goal.returns-clause-parts
returns-clause-parts c = parts_answered

pub returns-clause-count : goal.returns-clause-count
returns-clause-count c = all_answered
