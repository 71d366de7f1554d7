use Rattle.std.proofs.Common.{◌+◌, arith, drop}
use Rattle.std.proofs.lemmas.Result.{err_from_is_err_and}
use Rattle.report_text.proofs.WroteLemmas.{next_text, no_text, progress_halt, progress_last, spill_step, spill_stop}
use Rattle.report_text.specs.Writing.{each_text}
use Rattle.report_text.proofs.write.write_each.Goals as goal

pub returns-in_err-spill : goal.returns-in_err-spill
returns-in_err-spill g c =
    let q = err_from_is_err_and c.from_residual-in_err-spill.result c.from_residual-in_err-spill.ensures.1 in
    let next = next_text g.T.Lined.text c.args.items.now c.loop-item.item-index c.loop-item.number c.item-item.result c.loop-item-test.true c.item-item.is in
    let line = g.T.Lined.text c.loop-item.number c.item-item.result in
    let rest = each_text g.T.Lined.text (c.loop-item.number + 1) (drop (c.loop-item.item-index + 1) c.args.items.now) in
    rw (q.1, q.2) (spill_stop c.loop-item.buffer line rest (rw next at c.loop-item.invariant.progress) c.in_ok-push_line.ensures c.in_err-spill.ensures)

pub loop-item-preserved : goal.loop-item-preserved
loop-item-preserved g c = record {
  counted = omega arith;
  progress =
      let next = next_text g.T.Lined.text c.args.items.now c.loop-item.item-index c.loop-item.number c.item-item.result c.loop-item-test.true c.item-item.is in
      spill_step _ _ _ (rw next at c.loop-item.invariant.progress) c.in_ok-push_line.ensures c.in_ok-spill.ensures;
}

pub returns-in_err-push_line : goal.returns-in_err-push_line
returns-in_err-push_line g c =
    let q = err_from_is_err_and c.from_residual.result c.from_residual.ensures.1 in
    rw (q.1, q.2) (progress_halt c.loop-item.invariant.progress (λ e. cc))

pub returns : goal.returns
returns g c =
    progress_last c.loop-item.invariant.progress
    (no_text g.T.Lined.text c.args.items.now c.loop-item.item-index c.loop-item.number c.loop-item-test.false) c.write_text.ensures
