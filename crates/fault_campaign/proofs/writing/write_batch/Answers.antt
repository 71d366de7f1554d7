use Rattle.std.proofs.Common.{◌+◌, ◌++◌, ◌∙◌, ap}
use Rattle.campaign_defs.specs.TableText.{plan_row_lines}
use Rattle.campaign_rows.specs.CampaignCounts.{campaign_counts_of}
use Rattle.fault_campaign.proofs.Given.{gives_batch, rows_over, wrote_as}
use Rattle.fault_campaign.proofs.writing.write_batch.Goals as goal

pub returns : goal.returns
returns g c own shown =
    gives_batch c.args.run.now.plan.now own c.args.members.now _ c.args.totals.now _ c.write_rows.result c.in_ok-rows.rows
    (rows_over c.args.run.now.plan.now c.args.run.now.shown.now own c.args.members.now c.in_ok-rows.rows shown c.in_ok-rows.ensures)
    (λ done e. c.in_ok-count_all.ensures.counted done e ∙ ap (λ rows. campaign_counts_of (done ++ rows)) c.as_slice.ensures)
    (wrote_as (plan_row_lines (c.args.totals.now.members + 1) c.in_ok-rows.rows)
    (ap (plan_row_lines (c.args.totals.now.members + 1)) c.as_slice-2.ensures) c.write_rows.ensures)
