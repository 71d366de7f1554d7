use Rattle.std.proofs.Common.{◌≡◌, take}
use Rattle.claim_index.proofs.index.ClaimIndexTryCopy.copy.Given as goal

abbrev pub invariant-loop-claim : goal.invariant-loop-claim
invariant-loop-claim l = l.made ≡ take l.claim-index l.claim-items
