use Rattle.std.proofs.Common.{◌≡◌, map, take}
use Rattle.run_defs.specs.Simulation.{answers_of_thread}
use Rattle.sim_run.proofs.simulating.branching.copy_answers.Given as goal

abbrev pub invariant-loop-thread : goal.invariant-loop-thread
invariant-loop-thread l = l.made ≡ map answers_of_thread (take l.thread-index l.threads)
