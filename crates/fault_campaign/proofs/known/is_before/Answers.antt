use Rattle.std.proofs.Common.{◌∙◌, sym}
use Rattle.fault_campaign.proofs.KnownRows.{is_before}
use Rattle.fault_campaign.proofs.known.is_before.Goals as goal

pub returns-then-other-gt0 : goal.returns-then-other-gt0
returns-then-other-gt0 c h =
    is_before c.args.earlier.now c.args.later.now c.in-Some-Some.one c.in-Some-Some.other (sym c.only_fault.ensures ∙ c.in-Some-Some.is-0)
    (sym c.only_fault-2.ensures ∙ c.in-Some-Some.is-1) (c.is_same.ensures.0 h ∙ c.fault_before.ensures)
