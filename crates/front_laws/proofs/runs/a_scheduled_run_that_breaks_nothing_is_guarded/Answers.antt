use Rattle.front_laws.proofs.Free.{free_scheduled}
use Rattle.front_laws.proofs.runs.a_scheduled_run_that_breaks_nothing_is_guarded.Goals as goal

pub returns : goal.returns
returns c = free_scheduled
