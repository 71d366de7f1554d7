use Rattle.std.proofs.Common.{refl, ◌∙◌, ap, ◌+◌, ◌++◌, drop}
use Rattle.std.specs.Vec.Iter.{into_iter_items, into_iter_len}
use Rattle.threaded_run.proofs.Answered.{by_none, zipped_more, zipped_none}
use Rattle.threaded_run.specs.Threaded.{answers_by}
use Rattle.threaded_run.proofs.answering.answers_by.Goals.{in-Some+in_ok-push, in_default}
use Rattle.threaded_run.proofs.answering.answers_by.Goals as goal

pub loop-part-preserved : goal.loop-part-preserved
loop-part-preserved c = elim c.match-next.branch [
  | in-Some+in_ok-push w ↦
      zipped_more (λ o r. (o.0, r.answer)) answers_by (λ x xs y ys. refl) by_none
      c.loop-part.part-index c.args.ops.now c.loop-part-item.result w.in-Some.receipt
      (into_iter_items c.loop-part.receipts) (into_iter_items c.next.new.self) c.loop-part.answers c.match-next.answers
      (answers_by c.args.ops.now c.args.receipts)
      c.loop-part-test.true c.loop-part-item.is w.in-Some.ensures.cases.0 (w.answers-is ∙ w.in_ok-push.ensures.ok) c.loop-part.invariant
  | in_default w ↦
      ap (λ made. made ++ answers_by (drop (c.loop-part.part-index + 1) c.args.ops.now) (into_iter_items c.next.new.self)) w.answers-is
      ∙ zipped_none (λ o r. (o.0, r.answer)) answers_by (λ x xs y ys. refl) by_none
      c.loop-part.part-index c.args.ops.now (into_iter_len c.loop-part.receipts) (into_iter_items c.loop-part.receipts) (into_iter_items c.next.new.self)
      c.loop-part.answers (answers_by c.args.ops.now c.args.receipts)
      c.loop-part.receipts.rest.ok.0 w.in_default.ensures.cases.0 w.in_default.ensures.items c.loop-part.invariant
]
