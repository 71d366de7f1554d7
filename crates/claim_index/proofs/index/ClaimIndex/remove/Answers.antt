use Rattle.std.proofs.Common.{◌≡◌, Some, rules, not, sym, ap, ◌∙◌}
use Rattle.std.proofs.lemmas.Fn.{filter_same}
use Rattle.claim_index.specs.Claims.{claim_by, is_claim, without_call}
use Rattle.claim_index.specs.Indexed.{AreClaimantsOf}
use Rattle.claim_index.proofs.Claims.{blocks_without, claim_call, rising_without, without_none}
use Rattle.claim_index.proofs.index.ClaimIndex.remove.Goals as goal

pub invariant_of-self : goal.invariant_of-self
invariant_of-self c =
    let found : claim_by c.args.call c.self.inside.open.items ≡ Some c.in-Some.claim = rw c.self.view_is (sym c.in-Some.ensures) in
    let same = claim_call c.args.call c.self.inside.open.items c.in-Some.claim found in
    let own : claim_by c.in-Some.claim.call c.self.inside.open.items ≡ Some c.in-Some.claim =
    ap (λ z. claim_by z c.self.inside.open.items) same ∙ found in
    let less : AreClaimantsOf (without_call c.in-Some.claim.call c.self.inside.open.items) c.remove.new.self =
    c.remove.ensures _ c.self.invariant.2 c.self.invariant.0 own in
    let left : AreClaimantsOf (without_call c.args.call c.self.inside.open.items) c.remove.new.self = rw same at less in
    rw (filter_same _ (λ k. not (is_claim c.args.call k)) _ (λ x b f' h. search rules) _ _ c.retain.ensures.filtered)
    (rising_without 0 _ _ c.self.invariant.0, blocks_without _ _ c.self.invariant.1, left)

pub returns-in-Some : goal.returns-in-Some
returns-in-Some c = rw (← c.self.view_is) (filter_same _ (λ k. not (is_claim c.args.call k)) _ (λ x b f' h. search rules) _ _ c.retain.ensures.filtered)

pub returns-in_default : goal.returns-in_default
returns-in_default c = sym (without_none c.args.call c.args.self.now (sym c.in_default.ensures))
