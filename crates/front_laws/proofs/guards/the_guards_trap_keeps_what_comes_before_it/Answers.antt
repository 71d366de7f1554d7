use Rattle.front_laws.proofs.GuardStep.{stopped}
use Rattle.front_laws.proofs.guards.the_guards_trap_keeps_what_comes_before_it.Goals as goal

pub returns : goal.returns
returns c = stopped
