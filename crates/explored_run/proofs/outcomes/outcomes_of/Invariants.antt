use Rattle.std.proofs.Common.{◌≡◌, map, take}
use Rattle.explore_defs.specs.Outcomes.{part_outcome}
use Rattle.explored_run.proofs.outcomes.outcomes_of.Given as goal

abbrev pub invariant-loop-number : goal.invariant-loop-number
invariant-loop-number l = l.made ≡ map part_outcome (take l.number l.simulation.parts)
