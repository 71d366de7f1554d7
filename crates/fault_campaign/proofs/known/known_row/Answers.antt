use Rattle.std.proofs.Common.{◌∙◌, [], ap, sym}
use Rattle.std.proofs.lemmas.List.{get_or_default}
use Rattle.fault_campaign.proofs.KnownRows.{known_base, known_before}
use Rattle.fault_campaign.specs.Known.{source_by}
use Rattle.fault_campaign.proofs.known.known_row.Goals as goal

pub returns-in-Base : goal.returns-in-Base
returns-in-Base c plan shown right are =
    known_base plan shown c.args.known.now.base.now c.args.known.now.burst c.args.known.now.instrs.now right _
    (sym c.in-Base.is ∙ c.source_in.ensures ∙ ap (source_by c.args.known.now.burst c.args.known.now.instrs.now)
    (c.as_slice.ensures ∙ (c.index-members-index.is ∙ get_or_default c.args.members.now c.args.index c.index-members-index.result [] c.requires)))

pub returns-in-Before : goal.returns-in-Before
returns-in-Before c plan shown right are =
    known_before plan shown c.args.known.now.base.now c.args.known.now.burst c.args.known.now.instrs.now right _
    (sym c.in-Before.is ∙ c.source_in.ensures ∙ ap (source_by c.args.known.now.burst c.args.known.now.instrs.now)
    (c.as_slice.ensures ∙ (c.index-members-index.is ∙ get_or_default c.args.members.now c.args.index c.index-members-index.result [] c.requires)))
    c.row_before.result (c.row_before.ensures plan shown are)
