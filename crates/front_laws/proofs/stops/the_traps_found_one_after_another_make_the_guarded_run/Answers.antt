use Rattle.front_laws.proofs.StopChain.{guarded_by_stops}
use Rattle.front_laws.proofs.stops.the_traps_found_one_after_another_make_the_guarded_run.Goals as goal

pub returns : goal.returns
returns c = guarded_by_stops
