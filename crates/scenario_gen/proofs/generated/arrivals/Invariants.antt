use Rattle.std.proofs.Common.{◌≡◌}
use Rattle.run_defs.specs.Generated.{frames_to}
use Rattle.scenario_gen.proofs.generated.arrivals.Given as goal

abbrev pub invariant-loop-i : goal.invariant-loop-i
invariant-loop-i l = l.made ≡ frames_to l.i
