use Rattle.std.proofs.Common.{◌≡◌}
use Rattle.run_defs.specs.Generated.{ops_to}
use Rattle.scenario_gen.proofs.generated.script.Given as goal

abbrev pub invariant-loop-index : goal.invariant-loop-index
invariant-loop-index l = l.made ≡ ops_to l.thread l.index
