use Rattle.std.proofs.Common.{◌≡◌, take}
use Rattle.explored_run.specs.Sums.{failures_of}
use Rattle.explored_run.proofs.sums.count_failures.Given as goal

abbrev pub invariant-loop-number : goal.invariant-loop-number
invariant-loop-number l = l.count ≡ failures_of (take l.number l.simulation.parts)
