use Rattle.std.proofs.Common.{◌≡◌, take}
use Rattle.contract_monitor.proofs.blocks.copy_queue.Given as goal

abbrev pub invariant-loop-i : goal.invariant-loop-i
invariant-loop-i g l = l.made.items ≡ take l.i l.queue.items
