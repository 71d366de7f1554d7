use Rattle.std.proofs.Common.{◌+◌, [], arith, drop, refl}
use Rattle.std.proofs.lemmas.Result.{err_from_is_err_and}
use Rattle.order_search.specs.Found.{row_lines}
use Rattle.report_text.proofs.WroteLemmas.{progress_last, progress_step, progress_stop, wrote_nothing}
use Rattle.explored_text.proofs.Rows.{next_row, no_row}
use Rattle.explored_text.proofs.writing.write_rows.Goals as goal

pub returns-in_err-write_row : goal.returns-in_err-write_row
returns-in_err-write_row g c =
    let q = err_from_is_err_and c.from_residual.result c.from_residual.ensures.1 in
    let next = next_row c.args.rows.now c.loop-row.row-index c.loop-row.number c.row-item.result c.loop-row-test.true c.row-item.is in
    rw (q.1, q.2)
    (progress_stop (row_lines (c.loop-row.number + 1) (drop (c.loop-row.row-index + 1) c.args.rows.now)) (rw next at c.loop-row.invariant.progress)
    c.in_err-write_row.ensures)

pub loop-row-preserved : goal.loop-row-preserved
loop-row-preserved g c = record {
  counted = omega arith;
  progress =
      let next = next_row c.args.rows.now c.loop-row.row-index c.loop-row.number c.row-item.result c.loop-row-test.true c.row-item.is in
      progress_step (rw next at c.loop-row.invariant.progress) c.in_ok-write_row.ensures;
}

pub returns : goal.returns
returns g c =
    progress_last {held = []} c.loop-row.invariant.progress
    (no_row c.args.rows.now c.loop-row.row-index c.loop-row.number c.loop-row-test.false) (wrote_nothing _ _ [] refl)
