use Rattle.std.proofs.Common.{◌++◌, [], ap}
use Rattle.std.proofs.lemmas.Result.{err_from_is_err_and}
use Rattle.campaign_defs.specs.Members.{runs_every}
use Rattle.campaign_defs.specs.Rows.{plan_row}
use Rattle.campaign_defs.specs.TableText.{base_line, plan_last_line, plan_row_lines}
use Rattle.campaign_rows.specs.CampaignCounts.{campaign_counts_text}
use Rattle.fault_campaign.proofs.Given.{line_of_base, shown_of_base, wrote_as}
use Rattle.fault_campaign.proofs.KnownRows.{base_seen}
use Rattle.report_text.proofs.WroteLemmas.{both, cut}
use Rattle.fault_campaign.proofs.writing.write_campaign.Goals as goal

pub write_members-requires-clause-base : goal.write_members-requires-clause-base
write_members-requires-clause-base g c κs within = base_seen c.args.plan.now c.in_ok-base.base c.in_ok-base.ensures

pub returns-in_err-write_first : goal.returns-in_err-write_first
returns-in_err-write_first g c base rows table =
    let q = err_from_is_err_and c.from_residual-in_err-write_first.result c.from_residual-in_err-write_first.ensures.1 in
    rw (q.1, q.2)
    (cut (plan_row_lines 1 rows ++ plan_last_line c.args.plan.now.guard rows)
    (wrote_as (base_line (runs_every c.args.plan.now.strikes) (plan_row c.args.plan.now base base))
    (line_of_base c.args.plan.now c.in_ok-base.base base rows c.in_ok-base.ensures table) c.in_err-write_first.ensures))

pub returns-in_err-write_members : goal.returns-in_err-write_members
returns-in_err-write_members g c base rows table =
    let q = err_from_is_err_and c.from_residual-in_err-write_members.result c.from_residual-in_err-write_members.ensures.1 in
    let shown = shown_of_base c.args.plan.now c.in_ok-base.base base rows c.in_ok-base.ensures table in
    rw (q.1, q.2)
    (both (wrote_as (base_line (runs_every c.args.plan.now.strikes) (plan_row c.args.plan.now base base))
    (line_of_base c.args.plan.now c.in_ok-base.base base rows c.in_ok-base.ensures table) c.in_ok-write_first.ensures)
    (cut (plan_last_line c.args.plan.now.guard rows)
    ((c.in_err-write_members.ensures base table.is_base shown).written [] rows c.new-totals.ensures table.members)))

pub returns : goal.returns
returns g c base rows table =
    let shown = shown_of_base c.args.plan.now c.in_ok-base.base base rows c.in_ok-base.ensures table in
    let given = c.in_ok-write_members.ensures base table.is_base shown in
    both (wrote_as (base_line (runs_every c.args.plan.now.strikes) (plan_row c.args.plan.now base base))
    (line_of_base c.args.plan.now c.in_ok-base.base base rows c.in_ok-base.ensures table) c.in_ok-write_first.ensures)
    (both (given.written [] rows c.new-totals.ensures table.members)
    (wrote_as (plan_last_line c.args.plan.now.guard rows)
    (ap (campaign_counts_text c.args.plan.now.guard) (given.counted [] rows c.new-totals.ensures table.members)) c.write_counts.ensures))
