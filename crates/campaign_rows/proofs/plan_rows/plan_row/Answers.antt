use Rattle.campaign_rows.proofs.Detailed.{plan_row_is}
use Rattle.campaign_rows.proofs.plan_rows.plan_row.Goals as goal

pub returns : goal.returns
returns c own ran is_base shows he =
    plan_row_is c.args.plan.now own ran c.args.scenario.now c.args.report.now _ _ _ c.args.traps shows he
    (c.in_ok-counts.ensures c.args.scenario.now shows.whole shows.runs) (c.in_ok-detail.ensures own ran is_base shows) c.then_some.ensures
