use Rattle.campaign_rows.proofs.Detailed.{detail_is}
use Rattle.campaign_rows.proofs.detail.detail_of.Goals as goal

pub returns : goal.returns
returns c own ran is_base shows =
    detail_is own ran c.args.scenario.now c.args.report.now c.args.base.now c.in_ok-shown.shown c.args.index _ _ _ _ is_base shows
    (c.in_ok-shown.ensures ran shows) (rw (c.as_slice.ensures, c.as_slice-2.ensures) at c.same_texts-same_answers.ensures)
    (rw (c.as_slice-3.ensures, c.as_slice-4.ensures) at c.same_texts-same_left.ensures)
    (rw c.as_slice-5.ensures at c.clause_at.ensures) (rw c.as_slice-6.ensures at c.cause_at.ensures)
