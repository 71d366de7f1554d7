use Rattle.std.proofs.Common.{◌≡◌, take, length}
use Rattle.nook_data.proofs.ring.are_same_queues.Given as goal

abbrev pub invariant-loop-index : goal.invariant-loop-index
invariant-loop-index l = (length l.frames.items ≡ length l.others.items) × (take l.index l.frames.items ≡ take l.index l.others.items)
