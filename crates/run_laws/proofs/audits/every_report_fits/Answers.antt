use Rattle.run_laws.proofs.Passing.{report_fits}
use Rattle.run_laws.proofs.audits.every_report_fits.Goals as goal

pub returns : goal.returns
returns c = report_fits
