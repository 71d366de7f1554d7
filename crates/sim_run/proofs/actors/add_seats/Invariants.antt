use Rattle.std.proofs.Common.{◌≡◌, ◌+◌, ◌*◌, ◌++◌, drop}
use Rattle.sim_run.specs.Actors.{actors_of_seats}
use Rattle.sim_run.proofs.actors.add_seats.Given as goal

abbrev pub invariant-loop-index : goal.invariant-loop-index
invariant-loop-index l =
    l.ready.items ++ actors_of_seats (l.first + 2 * l.index) (drop l.index l.seats)
    ≡ l.initial.ready.items ++ actors_of_seats (l.first + 2 * 0) l.seats
