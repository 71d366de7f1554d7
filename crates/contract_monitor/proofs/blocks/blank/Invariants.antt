use Rattle.std.proofs.Common.{◌≡◌, replicate}
use Rattle.contract_monitor.proofs.blocks.blank.Given as goal

abbrev pub invariant-loop-block : goal.invariant-loop-block
invariant-loop-block l = l.made.items ≡ replicate l._block (replicate 16 0)
