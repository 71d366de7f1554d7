use Rattle.std.proofs.Common.{◌≡◌, ◌&&◌, Bool, List}
use Rattle.claim_index.specs.Claims.{AreRising, HaveBlocks, first_that}
use Rattle.claim_index.specs.Indexed.{AreByBlock, is_touched}
use Rattle.claim_index.specs.declared.claim.Claim.{Claim}
use Rattle.claim_index.specs.declared.claim.Claimed.{Claimed}
use Rattle.claim_index.proofs.claimants.first_among.Given as goal

abbrev pub invariant-loop-block : goal.invariant-loop-block
invariant-loop-block l = (kind : Claimed → Bool) (claims : List Claim) → AreByBlock kind claims l.by_block → AreRising 0 claims → HaveBlocks claims
    → l.found ≡ first_that (λ o. kind o && is_touched l.first l.block o) claims
