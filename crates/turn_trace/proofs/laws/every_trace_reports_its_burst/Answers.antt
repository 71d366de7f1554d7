use Rattle.turn_trace.proofs.Recorded.{retold}
use Rattle.turn_trace.proofs.laws.every_trace_reports_its_burst.Goals as goal

pub returns : goal.returns
returns c = retold
