use Rattle.std.proofs.Common.{◌++◌, codes}
use Rattle.report_defs.specs.ReportLines.{line_feed, with_number}
use Rattle.report_text.proofs.WroteLemmas.{on_ok}
use Rattle.report_text.proofs.WholeLemmas.{piece_more}
use Rattle.report_text.proofs.whole_text.push_sample_counts.Goals as goal

pub returns : goal.returns
returns c =
    let n = c.args.losses.now in
    let first = with_number (codes "losses samples ") n.samples in
    let second = with_number (codes " busy ") n.busy in
    on_ok c.push.result
    (λ h. piece_more c.args.line.now c.push_number.new.line c.push.new.self first (second ++ line_feed) c.in_ok-push_number.ensures
    (piece_more c.push_number.new.line c.push_number-2.new.line c.push.new.self second line_feed c.in_ok-push_number-2.ensures h))
    c.push.ensures.ok
