use Rattle.std.proofs.Common.{◌≡◌, take}
use Rattle.explored_run.specs.Sums.{lost_by}
use Rattle.explored_run.proofs.sums.count_lost.Given as goal

abbrev pub invariant-loop-monitor : goal.invariant-loop-monitor
invariant-loop-monitor l = l.count ≡ lost_by (take l.monitor-index l.monitors)
