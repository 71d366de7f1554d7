use Rattle.std.proofs.Common.{◌≡◌, take}
use Rattle.sim_run.proofs.simulating.packed.copy_threads.Given as goal

abbrev pub invariant-loop-thread : goal.invariant-loop-thread
invariant-loop-thread l = l.made.items ≡ take l.thread-index l.threads
