use Rattle.std.proofs.Common.{◌≡◌, map, take}
use Rattle.run_defs.specs.Simulation.{opening_part}
use Rattle.sim_run.proofs.simulating.make_seats.Given as goal

abbrev pub invariant-loop-spec : goal.invariant-loop-spec
invariant-loop-spec l = l.made.items ≡ map opening_part (take l.spec-index l.specs)
