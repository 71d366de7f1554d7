use Rattle.std.proofs.lemmas.Result.{err_from_is_err_and}
use Rattle.report_text.proofs.WroteLemmas.{both, cut}
use Rattle.explored_text.proofs.writing.write_explored.Goals as goal

pub returns-in_err-write_rows : goal.returns-in_err-write_rows
returns-in_err-write_rows g c =
    let q = err_from_is_err_and c.from_residual.result c.from_residual.ensures.1 in
    rw (q.1, q.2) (cut _ (rw c.as_slice.ensures at c.in_err-write_rows.ensures))

pub returns : goal.returns
returns g c = both (rw c.as_slice.ensures at c.in_ok-write_rows.ensures) c.write_last.ensures
