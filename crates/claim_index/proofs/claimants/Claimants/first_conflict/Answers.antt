use Rattle.std.proofs.Common.{ap, ◌∙◌, slice_get}
use Rattle.claim_index.specs.Claims.{takes_all}
use Rattle.claim_index.proofs.Firsts.{all_or_clash, head_is_first}
use Rattle.claim_index.proofs.claimants.Claimants.first_conflict.Goals as goal

pub returns : goal.returns
returns c = λ claims a r h. all_or_clash c.args.class c.args.on claims c.first_of.result c.first_clash.result c.least.result c.requires.all r h
    (c.first_of.ensures ∙ ap (λ z. slice_get z 0) (c.deref.ensures.value ∙ a.everything) ∙ head_is_first takes_all claims)
    (c.first_clash.ensures claims a r h) c.least.ensures
