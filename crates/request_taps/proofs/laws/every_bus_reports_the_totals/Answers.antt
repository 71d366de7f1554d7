use Rattle.request_taps.proofs.Totals.{all_totals}
use Rattle.request_taps.proofs.laws.every_bus_reports_the_totals.Goals as goal

pub returns : goal.returns
returns c = all_totals
