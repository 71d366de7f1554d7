use Rattle.std.proofs.Common.{◌≡◌, drop}
use Rattle.promise_defs.specs.Blocks.{has_block}
use Rattle.contract_monitor.proofs.blocks.has_block.Given as goal

abbrev pub invariant-loop-i : goal.invariant-loop-i
invariant-loop-i l = has_block l.block l.blocks.items ≡ has_block l.block (drop l.i l.blocks.items)
