use Rattle.std.proofs.Common.{◌≡◌, false, take}
use Rattle.explored_run.specs.Sums.{any_broken}
use Rattle.explored_run.proofs.sums.is_any_broken.Given as goal

abbrev pub invariant-loop-monitor : goal.invariant-loop-monitor
invariant-loop-monitor l = any_broken (take l.monitor-index l.monitors) ≡ false
