use Rattle.claim_index.proofs.Copied.{above_earlier, blocks_there}
use Rattle.claim_index.proofs.index.ClaimIndexTryCopy.copy.Goals as goal

pub add-requires-clause-number : goal.add-requires-clause-number
add-requires-clause-number c = rw c.deref-claim-items.ensures.value
    (above_earlier 0 c.loop-claim.claim-index c.self.inside.open.items _ c.self.invariant.0 (rw (← c.deref-claim-items.ensures.value) c.loop-claim-test.true)).0

pub add-requires-clause-below : goal.add-requires-clause-below
add-requires-clause-below c = rw (c.loop-claim.invariant, c.deref-claim-items.ensures.value)
    (above_earlier 0 c.loop-claim.claim-index c.self.inside.open.items _ c.self.invariant.0 (rw (← c.deref-claim-items.ensures.value) c.loop-claim-test.true)).1

pub add-requires-clause-blocks : goal.add-requires-clause-blocks
add-requires-clause-blocks c = rw c.deref-claim-items.ensures.value
    (blocks_there c.loop-claim.claim-index c.self.inside.open.items _ c.self.invariant.1 (rw (← c.deref-claim-items.ensures.value) c.loop-claim-test.true))
