use Rattle.part_laws.proofs.RunBound.{run_bound}
use Rattle.part_laws.proofs.bounds.every_run_is_bounded.Goals as goal

pub returns : goal.returns
returns c = run_bound
