use Rattle.std.proofs.Common.{◌≡◌, ◌++◌, ◌+◌, ◌-◌}
use Rattle.promise_defs.specs.Blocks.{get_blocks}
use Rattle.contract_monitor.proofs.blocks.get_blocks.Given as goal

abbrev pub invariant-loop-i : goal.invariant-loop-i
invariant-loop-i l = l.made.items ++ get_blocks l.medium (l.first + l.i) (l.count - l.i) ≡ get_blocks l.medium l.first l.count
