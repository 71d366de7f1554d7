use Rattle.std.proofs.Common.{◌∙◌}
use Rattle.fault_campaign.proofs.KnownRows.{copied_there, row_at}
use Rattle.fault_campaign.proofs.known.row_before.Goals as goal

pub returns : goal.returns
returns c plan shown are =
    row_at plan shown c.args.members.now c.args.rows.now c.args.index c.in_ok-earlier.earlier c.copied.result
    (c.copied.ensures
    ∙ copied_there (λ x. x.now) c.args.rows.now c.in_ok-earlier.earlier c.get.result c.get.ensures.lookup.0 c.get.ensures.lookup.1) are c.in_ok-earlier.ensures
