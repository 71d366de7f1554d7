use Rattle.order_laws.proofs.OneRun.{threaded_listed}
use Rattle.order_laws.proofs.schedules.a_run_by_threads_is_a_scheduled_run.Goals as goal

pub returns : goal.returns
returns c = threaded_listed
