use Rattle.front_laws.proofs.GuardRun.{free_run}
use Rattle.front_laws.proofs.guards.a_run_that_breaks_nothing_has_no_trap.Goals as goal

pub returns : goal.returns
returns c = free_run
