use Rattle.front_laws.proofs.Needed.{trap_needed}
use Rattle.front_laws.proofs.guards.each_trap_is_needed.Goals as goal

pub returns : goal.returns
returns c = trap_needed
