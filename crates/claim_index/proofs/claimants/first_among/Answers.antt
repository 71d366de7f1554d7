use Rattle.std.proofs.Common.{sym, ap, ◌∙◌, slice_get}
use Rattle.claim_index.specs.Indexed.{least}
use Rattle.claim_index.proofs.Firsts.{first_more, none_touched}
use Rattle.claim_index.proofs.claimants.first_among.Goals as goal

pub loop-block-init : goal.loop-block-init
loop-block-init c = λ kind claims a r h. sym (none_touched kind c.args.first claims)

pub loop-block-preserved : goal.loop-block-preserved
loop-block-preserved c = λ kind claims a r h.
    c.least-found.ensures ∙ ap (λ z. least c.loop-block.found z) (c.first_at.ensures ∙ ap (λ z. slice_get z 0) (a.at c.loop-block.block))
    ∙ first_more kind c.args.first c.loop-block.block claims c.loop-block.found c.loop-block.auto.block r h (c.loop-block.invariant kind claims a r h)
