use Rattle.std.proofs.Common.{◌≡◌, ◌++◌, ◌∷◌, [], true, is_ok, refl, ap, ◌∙◌, arith}
use Rattle.claim_index.specs.Claims.{AreBelow}
use Rattle.claim_index.proofs.Claims.{blocks_push, rising_push}
use Rattle.claim_index.proofs.index.ClaimIndex.add.Goals as goal

pub invariant_of-self-2 : goal.invariant_of-self-2
invariant_of-self-2 c =
    let ok : is_ok c.push.result ≡ true = c.push.ensures.succeeds (omega (arith, c.in_ok-reserve.ensures.ok)) in
    let e : c.push.new.self.items ≡ c.self.inside.open.items ++ c.args.claim ∷ [] =
    c.push.ensures.items ∙ (rw ok (ap (λ z. z ++ c.args.claim ∷ []) c.reserve.ensures.items)) in
    let below : AreBelow c.args.claim.call c.self.inside.open.items = rw c.self.view_is c.requires.below in
    rw e (
      rising_push 0 _ _ c.self.invariant.0 c.requires.number below,
      blocks_push _ _ c.self.invariant.1 c.requires.blocks,
      c.in_ok-add.ensures.ok _ c.self.invariant.2,
    )
