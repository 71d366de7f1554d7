use Rattle.part_laws.proofs.RunBound.{run_tied}
use Rattle.part_laws.proofs.bounds.every_run_is_tied.Goals as goal

pub returns : goal.returns
returns c = run_tied
