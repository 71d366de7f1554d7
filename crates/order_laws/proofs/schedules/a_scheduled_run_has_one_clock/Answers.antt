use Rattle.order_laws.proofs.OneRun.{scheduled_one_run}
use Rattle.order_laws.proofs.schedules.a_scheduled_run_has_one_clock.Goals as goal

pub returns : goal.returns
returns c = scheduled_one_run
