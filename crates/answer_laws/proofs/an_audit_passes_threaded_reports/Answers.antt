use Rattle.answer_laws.proofs.Audited.{audit_passed, report_passes}
use Rattle.answer_laws.proofs.an_audit_passes_threaded_reports.Goals as goal

pub returns : goal.returns
returns c = record { passed = audit_passed; reports = report_passes }
