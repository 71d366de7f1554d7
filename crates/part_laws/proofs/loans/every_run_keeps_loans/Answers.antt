use Rattle.part_laws.proofs.StepLoans.{run_loans}
use Rattle.part_laws.proofs.loans.every_run_keeps_loans.Goals as goal

pub returns : goal.returns
returns c = run_loans
