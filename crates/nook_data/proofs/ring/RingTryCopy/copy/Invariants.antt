use Rattle.std.proofs.Common.{◌≡◌, take}
use Rattle.nook_data.proofs.ring.RingTryCopy.copy.Given as goal

abbrev pub invariant-loop-index : goal.invariant-loop-index
invariant-loop-index l = l.made ≡ take l.index l.self-inside.frames.items
