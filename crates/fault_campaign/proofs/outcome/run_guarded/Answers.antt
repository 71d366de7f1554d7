use Rattle.fault_campaign.proofs.Outcomes.{guarded_outcome}
use Rattle.fault_campaign.proofs.outcome.run_guarded.Goals as goal

pub returns : goal.returns
returns c = guarded_outcome c.args.scenario.now c.in_ok-guarded.guarded c.in_ok-report.report c.in_ok-guarded.ensures c.in_ok-report.ensures
