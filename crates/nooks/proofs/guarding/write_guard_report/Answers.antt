use Rattle.std.proofs.lemmas.Result.{err_from_is_err_and}
use Rattle.report_text.proofs.WroteLemmas.{both, cut}
use Rattle.nooks.proofs.guarding.write_guard_report.Goals as goal

pub returns-in_err-write_guard_lines-clause-rows : goal.returns-in_err-write_guard_lines-clause-rows
returns-in_err-write_guard_lines-clause-rows g c =
    let q = err_from_is_err_and c.from_residual.result c.from_residual.ensures.1 in
    rw (q.1, q.2, ← c.as_slice.ensures) (cut _ c.in_err-write_guard_lines.ensures)

pub returns-in_err-write_guard_lines-clause-text : goal.returns-in_err-write_guard_lines-clause-text
returns-in_err-write_guard_lines-clause-text g c is_report =
    let q = err_from_is_err_and c.from_residual.result c.from_residual.ensures.1 in
    rw (q.1, q.2, ← c.as_slice.ensures) (cut _ c.in_err-write_guard_lines.ensures)

pub returns-clause-rows : goal.returns-clause-rows
returns-clause-rows g c = rw (← c.as_slice.ensures) (both c.in_ok-write_guard_lines.ensures c.write_report.ensures.rows)

pub returns-clause-text : goal.returns-clause-text
returns-clause-text g c is_report =
    rw (← c.as_slice.ensures) (both c.in_ok-write_guard_lines.ensures (c.write_report.ensures.text is_report))
