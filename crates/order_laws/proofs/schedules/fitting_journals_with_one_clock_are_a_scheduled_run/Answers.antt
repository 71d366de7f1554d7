use Rattle.order_laws.proofs.OneRun.{fitting_listed}
use Rattle.order_laws.proofs.schedules.fitting_journals_with_one_clock_are_a_scheduled_run.Goals as goal

pub returns : goal.returns
returns c = fitting_listed
