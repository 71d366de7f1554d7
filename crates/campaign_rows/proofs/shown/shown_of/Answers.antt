use Rattle.campaign_rows.proofs.Showing.{is_shown}
use Rattle.campaign_rows.proofs.shown.shown_of.Goals as goal

pub returns : goal.returns
returns c ran shows =
    is_shown ran c.args.scenario.now c.args.report.now _ _ shows (rw c.as_slice.ensures at c.in_ok-answers.ensures)
    (rw (c.new-left.ensures, c.as_slice-2.ensures, c.as_slice-3.ensures, c.as_slice-4.ensures, c.as_slice-5.ensures) at c.in_ok-push_parts.ensures)
