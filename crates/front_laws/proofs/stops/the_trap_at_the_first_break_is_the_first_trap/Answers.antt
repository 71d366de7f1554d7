use Rattle.front_laws.proofs.FirstStops.{first_trap}
use Rattle.front_laws.proofs.stops.the_trap_at_the_first_break_is_the_first_trap.Goals as goal

pub returns : goal.returns
returns c = first_trap
