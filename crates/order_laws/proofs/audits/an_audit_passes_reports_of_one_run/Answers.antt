use Rattle.order_laws.proofs.OutOfOrder.{one_run_passes, passed_one_run}
use Rattle.order_laws.proofs.audits.an_audit_passes_reports_of_one_run.Goals as goal

pub returns-clause-passed : goal.returns-clause-passed
returns-clause-passed c = passed_one_run

pub returns-clause-passes : goal.returns-clause-passes
returns-clause-passes c = one_run_passes
