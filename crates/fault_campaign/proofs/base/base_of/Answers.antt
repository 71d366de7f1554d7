use Rattle.campaign_laws.proofs.Struck.{base_can_run}
use Rattle.fault_campaign.proofs.Bases.{base_is}
use Rattle.fault_campaign.proofs.base.base_of.Goals as goal

pub run_under-requires : goal.run_under-requires
run_under-requires c = base_can_run c.args.plan.now c.requires

pub returns : goal.returns
returns c =
    base_is c.args.plan.now c.in_ok-outcome.outcome c.scenario-scenario.result.now c.in_ok-shown.shown c.in_ok-row.row c.in_ok-points.points
    c.trap_count-traps.result c.in_ok-outcome.ensures c.scenario-scenario.ensures c.trap_count-traps.ensures c.in_ok-shown.ensures
    c.in_ok-row.ensures c.in_ok-points.ensures
