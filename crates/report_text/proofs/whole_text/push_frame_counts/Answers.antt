use Rattle.std.proofs.Common.{◌++◌, codes}
use Rattle.report_defs.specs.ReportLines.{line_feed, with_number}
use Rattle.report_text.specs.Whole.{kept_counts}
use Rattle.report_text.proofs.WroteLemmas.{on_ok}
use Rattle.report_text.proofs.WholeLemmas.{piece_more}
use Rattle.report_text.proofs.whole_text.push_frame_counts.Goals as goal

pub returns : goal.returns
returns c =
    let n = c.args.losses.now in
    let end = c.push_kept_counts.new.line in
    let a = with_number (codes "losses sends ") n.sends in
    let b = with_number (codes "frames arrived ") n.arrived in
    let d = with_number (codes " received ") n.received in
    let rest = kept_counts n in
    on_ok c.push_kept_counts.result
    (λ h. piece_more c.args.line.now c.push_number.new.line end a (line_feed ++ (b ++ (d ++ rest))) c.in_ok-push_number.ensures
    (piece_more c.push_number.new.line c.push.new.self end line_feed (b ++ (d ++ rest)) c.in_ok-push.ensures.ok
    (piece_more c.push.new.self c.push_number-2.new.line end b (d ++ rest) c.in_ok-push_number-2.ensures
    (piece_more c.push_number-2.new.line c.push_number-3.new.line end d rest c.in_ok-push_number-3.ensures h))))
    c.push_kept_counts.ensures
