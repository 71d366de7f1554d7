use Rattle.audited_runs.proofs.Threaded.{fitting_is_threaded}
use Rattle.audited_runs.proofs.every_fitting_run_is_threaded.Goals as goal

pub returns : goal.returns
returns c = fitting_is_threaded
