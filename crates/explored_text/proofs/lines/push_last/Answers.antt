use Rattle.report_text.proofs.WroteLemmas.{on_ok}
use Rattle.explored_text.proofs.Pieces.{last_line}
use Rattle.explored_text.proofs.lines.push_last.Goals as goal

pub returns : goal.returns
returns c = on_ok c.push_last_end.result
    (λ e. last_line c.args.found.now _ _ _ _ _ _ _ c.headline.ensures c.len.ensures c.as_slice.ensures
    (rw c.from.ensures at c.in_ok-push_number.ensures) c.in_ok-push_number-2.ensures e) c.push_last_end.ensures
