use Rattle.run_laws.proofs.Reading.{report_read}
use Rattle.run_laws.proofs.audits.what_fits_is_a_report.Goals as goal

pub returns : goal.returns
returns c = report_read
