use Rattle.std.proofs.Common.{◌≡◌}
use Rattle.sim_run.proofs.simulating.packed.pack_seats.Given as goal

abbrev pub invariant-loop-seat : goal.invariant-loop-seat
invariant-loop-seat l = l.made.items ≡ l.yielded
