use Rattle.part_laws.proofs.Counts.{run_measured}
use Rattle.part_laws.proofs.bounds.every_run_is_measured.Goals as goal

pub returns : goal.returns
returns c = run_measured
