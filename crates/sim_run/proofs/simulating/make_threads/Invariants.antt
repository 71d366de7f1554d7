use Rattle.std.proofs.Common.{◌≡◌, map, take}
use Rattle.run_defs.specs.Simulation.{opening_thread}
use Rattle.sim_run.proofs.simulating.make_threads.Given as goal

abbrev pub invariant-loop-spec : goal.invariant-loop-spec
invariant-loop-spec l = l.made.items ≡ map opening_thread (take l.spec-index l.specs)
