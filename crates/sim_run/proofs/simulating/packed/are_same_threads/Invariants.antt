use Rattle.std.proofs.Common.{◌≡◌, length, take}
use Rattle.sim_run.proofs.simulating.packed.are_same_threads.Given as goal

abbrev pub invariant-loop-number : goal.invariant-loop-number
invariant-loop-number l = (length l.threads ≡ length l.others) × (take l.number l.threads ≡ take l.number l.others)
