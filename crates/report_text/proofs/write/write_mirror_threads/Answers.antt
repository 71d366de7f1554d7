use Rattle.std.proofs.lemmas.Result.{err_from_is_err_and}
use Rattle.report_text.proofs.WholeLemmas.{mirror_threads_first}
use Rattle.report_text.proofs.WroteLemmas.{both, cut}
use Rattle.report_text.proofs.write.write_mirror_threads.Goals as goal

pub returns-in_err-write_thread_line : goal.returns-in_err-write_thread_line
returns-in_err-write_thread_line g c =
    let q = err_from_is_err_and c.from_residual.result c.from_residual.ensures.1 in
    rw (q.1, q.2, mirror_threads_first _ c.args.answers.now _ _ c.in-Some.ensures.cases.0)
    (cut _ c.in_err-write_thread_line.ensures)

pub returns : goal.returns
returns g c =
    rw (mirror_threads_first _ c.args.answers.now _ _ c.in-Some.ensures.cases.0)
    (both c.in_ok-write_thread_line.ensures c.write_each.ensures)
