use Rattle.std.proofs.Common.{◌≡◌, take}
use Rattle.sim_run.specs.Ends.{ends_of}
use Rattle.sim_run.proofs.simulating.take_ends.Given as goal

abbrev pub invariant-loop-seat : goal.invariant-loop-seat
invariant-loop-seat l = l.made ≡ ends_of (take l.seat-index l.seats)
