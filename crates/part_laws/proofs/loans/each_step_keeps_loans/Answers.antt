use Rattle.part_laws.proofs.StepLoans.{loans_after}
use Rattle.part_laws.proofs.loans.each_step_keeps_loans.Goals as goal

pub returns : goal.returns
returns c = loans_after
