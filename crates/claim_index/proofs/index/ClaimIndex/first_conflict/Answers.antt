use Rattle.std.proofs.Common.{sym, ap, ◌∙◌}
use Rattle.claim_index.specs.Claims.{claim_by, first_blocking}
use Rattle.claim_index.proofs.Claims.{claim_call}
use Rattle.claim_index.proofs.Conflicts.{blocking_before, blocking_is, oldest_waits_for_none}
use Rattle.claim_index.proofs.index.ClaimIndex.first_conflict.Goals as goal

pub first_claimant-requires : goal.first_claimant-requires
first_claimant-requires c =
    ap (λ z. claim_by z c.args.self.now) (claim_call c.args.call c.args.self.now c.in-Some.claim (sym c.in-Some.ensures)) ∙ sym c.in-Some.ensures

pub returns-in-Some-clause-claims : goal.returns-in-Some-clause-claims
returns-in-Some-clause-claims c = blocking_before c.args.class c.args.call c.args.self.now c.in-Some.claim c.first_claimant.result c.before-in-Some.result
    c.first_claimant.ensures.rising c.in-Some.ensures c.first_claimant.ensures.first c.before-in-Some.ensures

pub returns-in-Some-clause-calls : goal.returns-in-Some-clause-calls
returns-in-Some-clause-calls c = λ pending e. blocking_before c.args.class c.args.call c.args.self.now c.in-Some.claim c.first_claimant.result c.before-in-Some.result
    c.first_claimant.ensures.rising c.in-Some.ensures c.first_claimant.ensures.first c.before-in-Some.ensures
    ∙ blocking_is c.args.class c.args.call c.args.self.now pending e

pub returns-in-None-clause-calls : goal.returns-in-None-clause-calls
returns-in-None-clause-calls c = λ pending e. ap (λ f. first_blocking c.args.class f c.args.self.now) c.in-None.ensures
    ∙ blocking_is c.args.class c.args.call c.args.self.now pending e

pub returns-then-is_oldest-clause-claims : goal.returns-then-is_oldest-clause-claims
returns-then-is_oldest-clause-claims c =
    oldest_waits_for_none c.args.class c.args.call c.args.self.now c.is_oldest.ensures.rising (sym c.if-is_oldest.ensures.oldest)

pub returns-then-is_oldest-clause-calls : goal.returns-then-is_oldest-clause-calls
returns-then-is_oldest-clause-calls c = λ pending e.
    oldest_waits_for_none c.args.class c.args.call c.args.self.now c.is_oldest.ensures.rising (sym c.if-is_oldest.ensures.oldest)
    ∙ blocking_is c.args.class c.args.call c.args.self.now pending e
