use Rattle.std.proofs.lemmas.Result.{err_from_is_err_and}
use Rattle.report_text.proofs.WroteLemmas.{both, cut, wrote_nothing}
use Rattle.report_text.proofs.WholeLemmas.{rows_first}
use Rattle.report_text.proofs.whole_text.+write_parts.Goals as goal

pub returns-in_default : goal.returns-in_default
returns-in_default g t c = wrote_nothing _ _ _ (c.in_default.ensures c.args.number)

pub returns-in_err-write_part : goal.returns-in_err-write_part
returns-in_err-write_part g t c =
    let q = err_from_is_err_and c.from_residual.result c.from_residual.ensures.1 in
    let e = c.in-Some.ensures in
    rw (q.1, q.2, rows_first c.args.number _ _ _ _ _ _ _ _ _ _ _ _ e.0 e.1 e.2 e.3) (cut _ c.in_err-write_part.ensures)

pub returns : goal.returns
returns g t c =
    let e = c.in-Some.ensures in
    rw (rows_first c.args.number _ _ _ _ _ _ _ _ _ _ _ _ e.0 e.1 e.2 e.3) (both c.in_ok-write_part.ensures c.write_parts.ensures)
