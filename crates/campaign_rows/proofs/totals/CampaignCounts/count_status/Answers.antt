use Rattle.std.proofs.Common.{◌≡◌, sym, true≢false, arith}
use Rattle.std.proofs.lemmas.Grind.{common_steps}
use Rattle.run_results.specs.declared.status.ReportStatus.TheVariants as reports
use Rattle.campaign_rows.proofs.totals.CampaignCounts.count_status.Goals as goal

pub returns-in-None : goal.returns-in-None
returns-in-None c =
    let kept : c.args.status ≡ 0 → ⊥ = λ e. true≢false (sym (c.in-None.ensures.every reports.Kept (sym e))) in
    let given_up : c.args.status ≡ 1 → ⊥ =
    λ e. true≢false (sym (c.in-None.ensures.every reports.GivenUp (sym e))) in
    let broken : c.args.status ≡ 7 → ⊥ =
    λ e. true≢false (sym (c.in-None.ensures.every reports.Broken (sym e))) in
    grind (arith, common_steps, kept, given_up, broken)
