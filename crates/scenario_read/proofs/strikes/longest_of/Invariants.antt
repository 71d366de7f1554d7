use Rattle.std.proofs.Common.{◌≡◌, max, drop}
use Rattle.plan_defs.specs.Plans.{longest_of}
use Rattle.scenario_read.proofs.strikes.longest_of.Given as goal

abbrev pub invariant-loop-faults : goal.invariant-loop-faults
invariant-loop-faults l = max l.longest (longest_of (drop l.faults-index l.lists)) ≡ longest_of l.lists
