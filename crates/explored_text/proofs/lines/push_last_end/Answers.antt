use Rattle.report_text.proofs.WroteLemmas.{on_ok}
use Rattle.explored_text.proofs.Pieces.{four}
use Rattle.explored_text.proofs.lines.push_last_end.Goals as goal

pub returns : goal.returns
returns c = on_ok c.push.result
    (λ e. four _ _ _ _ _ _ _ _ _ c.in_ok-push_count.ensures c.in_ok-push_count-2.ensures c.in_ok-push_count-3.ensures e)
    c.push.ensures.ok
