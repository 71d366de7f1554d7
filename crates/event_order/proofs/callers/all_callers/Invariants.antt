use Rattle.std.proofs.Common.{◌≡◌, map, take}
use Rattle.event_order.proofs.callers.all_callers.Given as goal
use Rattle.run_defs.specs.Simulation.{opening_thread}

abbrev pub invariant-loop-spec : goal.invariant-loop-spec
invariant-loop-spec l = l.made.items ≡ map opening_thread (take l.spec-index l.specs)
