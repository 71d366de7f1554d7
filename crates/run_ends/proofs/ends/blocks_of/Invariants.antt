use Rattle.std.proofs.Common.{◌≡◌, take}
use Rattle.run_ends.proofs.ends.blocks_of.Given as goal

abbrev pub invariant-loop-block : goal.invariant-loop-block
invariant-loop-block l = l.blocks ≡ take l.block-index l.medium
