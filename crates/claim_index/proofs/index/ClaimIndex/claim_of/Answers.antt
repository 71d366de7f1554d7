use Rattle.std.proofs.Common.{rules, tests, ◌∙◌, sym}
use Rattle.std.proofs.lemmas.Iterator.{YieldsList-from_slice}
use Rattle.std.proofs.lemmas.Iterator.Search.{find_from_yields_List}
use Rattle.claim_index.specs.Claims.{is_claim}
use Rattle.claim_index.proofs.index.ClaimIndex.claim_of.Goals as goal

pub returns : goal.returns
returns c = rw (← c.self.view_is)
    (c.copied.ensures ∙ find_from_yields_List (is_claim c.args.call) _ _ _ c.find.ensures.ran (YieldsList-from_slice c.self.inside.open.items cc) (λ x b q k. search (rules, tests)))
