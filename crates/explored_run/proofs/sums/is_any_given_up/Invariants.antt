use Rattle.std.proofs.Common.{◌≡◌, false, take}
use Rattle.explored_run.specs.Sums.{any_given_up}
use Rattle.explored_run.proofs.sums.is_any_given_up.Given as goal

abbrev pub invariant-loop-number : goal.invariant-loop-number
invariant-loop-number l = any_given_up (take l.number l.simulation.parts) ≡ false
