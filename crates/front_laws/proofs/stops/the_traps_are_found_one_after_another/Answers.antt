use Rattle.front_laws.proofs.FirstStops.{found_first, never_found}
use Rattle.front_laws.proofs.stops.the_traps_are_found_one_after_another.Goals as goal

pub returns-clause-first : goal.returns-clause-first
returns-clause-first c = found_first

pub returns-clause-none : goal.returns-clause-none
returns-clause-none c = never_found
