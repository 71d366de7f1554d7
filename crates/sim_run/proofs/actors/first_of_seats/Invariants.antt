use Rattle.std.proofs.Common.{◌≡◌, ◌+◌, ◌*◌, drop}
use Rattle.sim_run.specs.Actors.{actors_of_seats, first_from}
use Rattle.sim_run.proofs.actors.first_of_seats.Given as goal

abbrev pub invariant-loop-index : goal.invariant-loop-index
invariant-loop-index l =
    first_from l.least (actors_of_seats (l.first + 2 * l.index) (drop l.index l.seats)) ≡ first_from l.least (actors_of_seats l.first l.seats)
