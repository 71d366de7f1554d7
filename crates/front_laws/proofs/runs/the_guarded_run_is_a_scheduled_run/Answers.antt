use Rattle.front_laws.proofs.GuardedRuns.{guarded_scheduled}
use Rattle.front_laws.proofs.runs.the_guarded_run_is_a_scheduled_run.Goals as goal

pub returns : goal.returns
returns c = guarded_scheduled
