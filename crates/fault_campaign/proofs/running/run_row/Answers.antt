use Rattle.std.proofs.Common.{◌∙◌, subst, sym}
use Rattle.campaign_rows.specs.Shown.{Shows}
use Rattle.fault_campaign.proofs.Outcomes.{row_over}
use Rattle.fault_campaign.proofs.running.run_row.Goals as goal

pub returns : goal.returns
returns c =
    row_over c.plan_row.result c.args.plan.now c.args.shown.now c.args.scenario.now c.in_ok-outcome.outcome c.in_ok-outcome.ensures
    (λ own ran shown shows traps.
    c.plan_row.ensures own ran shown (subst (λ s. Shows ran s c.in_ok-outcome.outcome.report) (sym c.scenario.ensures) shows)
    (c.trap_count.ensures ∙ traps))
