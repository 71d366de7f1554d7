use Rattle.part_laws.proofs.RunProgress.{run_progress}
use Rattle.part_laws.proofs.bounds.every_run_has_progress.Goals as goal

pub returns : goal.returns
returns c = run_progress
