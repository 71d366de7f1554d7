use Rattle.std.proofs.Common.{◌≡◌, length, map, take}
use Rattle.sim_run.specs.Branching.{seat_now}
use Rattle.sim_run.proofs.simulating.packed.are_alike.Given as goal

abbrev pub invariant-loop-number : goal.invariant-loop-number
invariant-loop-number l = (length l.seats ≡ length l.others) × (map seat_now (take l.number l.seats) ≡ map seat_now (take l.number l.others))
