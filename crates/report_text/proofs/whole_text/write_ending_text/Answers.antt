use Rattle.std.proofs.lemmas.Result.{err_from_is_err_and}
use Rattle.report_text.proofs.WroteLemmas.{both, cut}
use Rattle.report_text.proofs.whole_text.write_ending_text.Goals as goal

pub returns-in_err-write_taps : goal.returns-in_err-write_taps
returns-in_err-write_taps g c =
    let q = err_from_is_err_and c.from_residual.result c.from_residual.ensures.1 in
    rw (q.1, q.2) (cut _ c.in_err-write_taps.ensures)

pub returns : goal.returns
returns g c = both c.in_ok-write_taps.ensures c.write_status_line.ensures
