use Rattle.std.proofs.lemmas.Result.{err_from_is_err_and}
use Rattle.report_text.proofs.WroteLemmas.{both, cut}
use Rattle.report_text.proofs.whole_text.write_rows.Goals as goal

pub returns-in_err-write_all_parts : goal.returns-in_err-write_all_parts
returns-in_err-write_all_parts g c =
    let q = err_from_is_err_and c.from_residual.result c.from_residual.ensures.1 in
    rw (q.1, q.2) (cut _ c.in_err-write_all_parts.ensures)

pub returns-in_err-write_threads : goal.returns-in_err-write_threads
returns-in_err-write_threads g c =
    let q = err_from_is_err_and c.from_residual-in_err-write_threads.result c.from_residual-in_err-write_threads.ensures.1 in
    rw (q.1, q.2, ← c.as_slice.ensures, ← c.as_slice-2.ensures)
    (both c.in_ok-write_all_parts.ensures (cut _ c.in_err-write_threads.ensures))

pub returns : goal.returns
returns g c =
    rw (← c.as_slice.ensures, ← c.as_slice-2.ensures, ← c.as_slice-3.ensures)
    (both c.in_ok-write_all_parts.ensures (both c.in_ok-write_threads.ensures c.write_ending_text.ensures))
