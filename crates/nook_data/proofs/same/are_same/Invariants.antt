use Rattle.std.proofs.Common.{◌≡◌, take, length}
use Rattle.nook_data.proofs.same.are_same.Given as goal

abbrev pub invariant-loop-index : goal.invariant-loop-index
invariant-loop-index g l = (length l.items ≡ length l.others) × (take l.index l.items ≡ take l.index l.others)
