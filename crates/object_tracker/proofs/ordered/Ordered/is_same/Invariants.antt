use Rattle.std.proofs.Common.{◌≡◌, take, length}
use Rattle.object_tracker.proofs.ordered.Ordered.is_same.Given as goal

abbrev pub invariant-loop-index : goal.invariant-loop-index
invariant-loop-index l = (length l.self ≡ length l.other) × (take l.index l.self ≡ take l.index l.other)
