use Rattle.run_laws.proofs.Lengths.{reports_lengths}
use Rattle.run_laws.proofs.frames.frames_are_where_the_report_shows_them.Goals as goal

pub returns : goal.returns
returns c = reports_lengths
