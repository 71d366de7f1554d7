use Rattle.std.proofs.Common.{◌≡◌, take}
use Rattle.sim_run.proofs.simulating.packed.unpack_seats.Given as goal

abbrev pub invariant-loop-seat : goal.invariant-loop-seat
invariant-loop-seat l = l.made.items ≡ take l.seat-index l.seats
