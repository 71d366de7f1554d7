use Rattle.std.proofs.lemmas.Result.{err_from_is_err_and}
use Rattle.report_text.proofs.WroteLemmas.{both, cut}
use Rattle.turn_trace.proofs.Going.{still_cut}
use Rattle.burst_trace.specs.Text.{trace_lines}
use Rattle.burst_trace.proofs.writing.write_inside.Goals as goal

pub returns-in_err-write_text : goal.returns-in_err-write_text
unfolding trace_lines
returns-in_err-write_text g c =
    let q = err_from_is_err_and c.from_residual.result c.from_residual.ensures.1 in
    rw (q.1, q.2) (cut _ c.in_err-write_text.ensures)

pub returns-in_err-unstruck : goal.returns-in_err-unstruck
unfolding trace_lines
returns-in_err-unstruck g c =
    let q = err_from_is_err_and c.from_residual-in_err-unstruck.result c.from_residual-in_err-unstruck.ensures.1 in
    rw (q.1, q.2) (both c.in_ok-write_text.ensures (cut _ (still_cut c.in_err-unstruck.ensures.written)))

pub returns : goal.returns
unfolding trace_lines
returns g c =
    both c.in_ok-write_text.ensures
    (both c.in_ok-unstruck.ensures.written (rw (c.in_ok-unstruck.ensures.unstruck) at c.write_last.ensures))
