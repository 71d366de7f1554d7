use Rattle.std.proofs.Common.{◌≡◌, ◌∙◌, ap, subst, sym}
use Rattle.campaign_defs.specs.Members.{CanRunUnder}
use Rattle.fault_campaign.specs.Members.{IsBaseButStruck}
use Rattle.fault_campaign.specs.Outcomes.{IsRowOver}
use Rattle.fault_campaign.proofs.Struck.{member_but_struck}
use Rattle.fault_campaign.proofs.running.run_member.Goals as goal
use Rattle.plan_defs.specs.Plans.{struck_by}

pub run_row-requires : goal.run_row-requires
run_row-requires c =
    subst (CanRunUnder c.args.plan.now.guard)
    (sym (c.in_ok-strike.ensures.ok ∙ ap (struck_by c.args.plan.now.base c.args.plan.now.part) c.as_slice.ensures)) c.requires.can_run

pub returns-clause-scenario : goal.returns-clause-scenario
returns-clause-scenario c =
    subst (IsBaseButStruck c.args.plan.now) (sym c.in_ok-strike.ensures.ok) (member_but_struck c.args.plan.now c.as_slice.result.now)
