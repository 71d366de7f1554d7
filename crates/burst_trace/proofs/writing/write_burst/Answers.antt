use Rattle.std.proofs.lemmas.Result.{err_from_is_err_and}
use Rattle.report_text.proofs.WroteLemmas.{both, cut}
use Rattle.turn_trace.proofs.Going.{still_cut}
use Rattle.burst_trace.proofs.writing.write_burst.Goals as goal

pub returns-in_err-write_start-clause-written : goal.returns-in_err-write_start-clause-written
returns-in_err-write_start-clause-written g c =
    let q = err_from_is_err_and c.from_residual.result c.from_residual.ensures.1 in
    rw (q.1, q.2) (still_cut (cut _ c.in_err-write_start.ensures))

pub returns-clause-written : goal.returns-clause-written
returns-clause-written g c = both c.in_ok-write_start.ensures c.write_steps.ensures.written
