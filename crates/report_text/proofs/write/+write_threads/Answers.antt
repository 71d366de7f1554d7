use Rattle.std.proofs.lemmas.Result.{err_from_is_err_and}
use Rattle.report_text.proofs.WroteLemmas.{both, cut, threads_first}
use Rattle.report_text.proofs.write.+write_threads.Goals as goal

pub returns-in_err-write_thread_line : goal.returns-in_err-write_thread_line
returns-in_err-write_thread_line g t c =
    let q = err_from_is_err_and c.from_residual.result c.from_residual.ensures.1 in
    rw (q.1, q.2, threads_first c.args.number _ _ _ _ _ _ c.in-Some.ensures.cases.0 c.in-Some-split_first.ensures.cases.0)
    (cut _ c.in_err-write_thread_line.ensures)

pub returns-in_err-write_answers : goal.returns-in_err-write_answers
returns-in_err-write_answers g t c =
    let q = err_from_is_err_and c.from_residual-in_err-write_answers.result c.from_residual-in_err-write_answers.ensures.1 in
    rw (q.1, q.2, threads_first c.args.number _ _ _ _ _ _ c.in-Some.ensures.cases.0 c.in-Some-split_first.ensures.cases.0, ← c.as_slice.ensures)
    (both c.in_ok-write_thread_line.ensures (cut _ c.in_err-write_answers.ensures))

pub returns : goal.returns
returns g t c =
    rw (threads_first c.args.number _ _ _ _ _ _ c.in-Some.ensures.cases.0 c.in-Some-split_first.ensures.cases.0, ← c.as_slice.ensures)
    (both c.in_ok-write_thread_line.ensures (both c.in_ok-write_answers.ensures c.write_threads.ensures))
