use Rattle.std.proofs.lemmas.Result.{err_from_is_err_and}
use Rattle.report_text.proofs.WroteLemmas.{both, cut}
use Rattle.report_text.proofs.whole_text.write_part.Goals as goal

pub returns-in_err-write_part_line : goal.returns-in_err-write_part_line
returns-in_err-write_part_line g c =
    let q = err_from_is_err_and c.from_residual.result c.from_residual.ensures.1 in
    rw (q.1, q.2) (cut _ c.in_err-write_part_line.ensures)

pub returns-in_err-write_events : goal.returns-in_err-write_events
returns-in_err-write_events g c =
    let q = err_from_is_err_and c.from_residual-in_err-write_events.result c.from_residual-in_err-write_events.ensures.1 in
    rw (q.1, q.2, ← c.as_slice-events.ensures) (both c.in_ok-write_part_line.ensures (cut _ c.in_err-write_events.ensures))

pub returns : goal.returns
returns g c =
    rw (← c.as_slice-events.ensures)
    (both c.in_ok-write_part_line.ensures (both c.in_ok-write_events.ensures c.write_final_rows.ensures))
