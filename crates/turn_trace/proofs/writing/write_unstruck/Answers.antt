use Rattle.std.proofs.lemmas.Result.{err_from_is_err_and}
use Rattle.report_text.proofs.WroteLemmas.{progress_step, progress_stop}
use Rattle.turn_trace.proofs.Going.{next_unstruck}
use Rattle.turn_trace.proofs.writing.write_unstruck.Goals as goal

pub returns-in_err-write_unstruck_line : goal.returns-in_err-write_unstruck_line
returns-in_err-write_unstruck_line g c =
    let q = err_from_is_err_and c.from_residual.result c.from_residual.ensures.1 in
    let next = next_unstruck c.args.faults.now c.loop-fault.fault-index c.loop-fault-test.true in
    rw (q.1, q.2) (progress_stop _ (rw next at c.loop-fault.invariant) c.in_err-write_unstruck_line.ensures)

pub loop-fault-preserved : goal.loop-fault-preserved
loop-fault-preserved g c =
    let next = next_unstruck c.args.faults.now c.loop-fault.fault-index c.loop-fault-test.true in
    progress_step (rw next at c.loop-fault.invariant) c.in_ok-write_unstruck_line.ensures
