use Rattle.std.proofs.lemmas.Result.{err_from_is_err_and}
use Rattle.report_text.proofs.WroteLemmas.{both, cut}
use Rattle.journal_audit.proofs.last.write_last.Goals as goal

pub returns-in_err-write_threads : goal.returns-in_err-write_threads
returns-in_err-write_threads g c =
    let q = err_from_is_err_and c.from_residual.result c.from_residual.ensures.1 in
    rw (q.1, q.2) (cut _ c.in_err-write_threads.ensures)

pub returns : goal.returns
returns g c =
    rw (← c.as_slice.ensures, ← c.number.ensures)
    (both c.in_ok-write_threads.ensures c.write_ending_text.ensures)
