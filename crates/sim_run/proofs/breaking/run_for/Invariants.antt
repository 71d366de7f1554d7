use Rattle.std.proofs.Common.{◌≡◌}
use Rattle.run_defs.specs.Simulation.{begins, runs}
use Rattle.sim_run.proofs.breaking.run_for.Given as goal

abbrev pub invariant-loop-step : goal.invariant-loop-step
invariant-loop-step l = l.simulation ≡ runs l._step (begins l.scenario)
