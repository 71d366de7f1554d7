use Rattle.std.proofs.Common.{◌≡◌, ◌++◌, drop, take}
use Rattle.run_defs.specs.Simulation.{threads_after}
use Rattle.sim_run.specs.Able.{AreAbleUpTo}
use Rattle.sim_run.proofs.simulating.hear_all.Given as goal

abbrev pub invariant-loop-index : goal.invariant-loop-index
invariant-loop-index l =
    (l.threads ≡ threads_after 0 l.part l.event (take l.index l.initial.threads) ++ drop l.index l.initial.threads)
    × AreAbleUpTo l.index l.part l.event l.seats l.threads l.able
