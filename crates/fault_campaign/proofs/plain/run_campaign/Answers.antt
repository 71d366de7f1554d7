use Rattle.std.proofs.Common.{◌∙◌, ap, map}
use Rattle.campaign_defs.specs.Members.{alone}
use Rattle.fault_campaign.proofs.PlainTables.{can_run_as, table_as}
use Rattle.fault_campaign.proofs.plain.run_campaign.Goals as goal

pub run_members-requires-clause-can_run : goal.run_members-requires-clause-can_run
run_members-requires-clause-can_run g c κs within =
    can_run_as c.args.campaign.now c.in_ok-plan.plan c.in_ok-base.base _ c.requires c.in_ok-plan.ensures c.in_ok-base.ensures
    (c.as_slice-2.ensures ∙ (c.in_ok-members.ensures ∙ ap (map alone) c.as_slice.ensures))

pub run_members-requires-clause-right : goal.run_members-requires-clause-right
run_members-requires-clause-right g c κs within = c.nothing_known-known.ensures c.in_ok-plan.plan c.in_ok-base.base.shown

pub returns : goal.returns
returns g c =
    table_as c.counts_of.result c.args.campaign.now c.in_ok-plan.plan c.in_ok-base.base c.as_slice-2.result.now c.in_ok-rows.rows
    c.as_slice-3.result.now c.in_ok-plan.ensures c.in_ok-base.ensures
    (c.as_slice-2.ensures ∙ (c.in_ok-members.ensures ∙ ap (map alone) c.as_slice.ensures)) c.in_ok-rows.ensures c.as_slice-3.ensures
    c.counts_of.ensures
