use Rattle.std.proofs.Common.{refl, ◌∙◌, ap, ◌+◌, ◌++◌, List, [], ◌∷◌, ℕ, drop}
use Rattle.std.specs.Vec.Iter.{into_iter_items, into_iter_len}
use Rattle.nook_data.specs.declared.calls.Answer.{Answer}
use Rattle.nook_data.specs.declared.calls.Op.{Op}
use Rattle.threaded_run.proofs.Answered.{in_none, zipped_more, zipped_none}
use Rattle.threaded_run.specs.Leaving.{answers_in}
use Rattle.threaded_run.specs.Threaded.{answers_by}
use Rattle.threaded_run.proofs.answering.answers_of.Goals.{in-Some+in_ok-answers_by+in_ok-push, in_default}
use Rattle.threaded_run.proofs.answering.answers_of.Goals as goal

pub loop-thread-preserved : goal.loop-thread-preserved
loop-thread-preserved c = elim c.match-next.branch [
  | in-Some+in_ok-answers_by+in_ok-push w ↦
      zipped_more (λ t row. answers_by t.ops row) answers_in (λ x xs y ys. refl) in_none
      c.loop-thread.thread-index c.args.threads.now c.thread-item.result w.in-Some.receipts
      (into_iter_items c.loop-thread.rows) (into_iter_items c.next.new.self) c.loop-thread.answers c.match-next.answers
      (answers_in c.args.threads.now c.args.table)
      c.loop-thread-test.true c.thread-item.is w.in-Some.ensures.cases.0
      (w.answers-is ∙ w.in_ok-push.ensures.ok
      ∙ ap (λ (own : List (ℕ × Answer)). c.loop-thread.answers ++ own ∷ [])
      (w.in_ok-answers_by.ensures ∙ ap (λ (ops : List (ℕ × Op)). answers_by ops w.in-Some.receipts) w.as_slice.ensures))
      c.loop-thread.invariant
  | in_default w ↦
      ap (λ (made : List (List (ℕ × Answer))). made ++ answers_in (drop (c.loop-thread.thread-index + 1) c.args.threads.now) (into_iter_items c.next.new.self)) w.answers-is
      ∙ zipped_none (λ t row. answers_by t.ops row) answers_in (λ x xs y ys. refl) in_none
      c.loop-thread.thread-index c.args.threads.now (into_iter_len c.loop-thread.rows) (into_iter_items c.loop-thread.rows) (into_iter_items c.next.new.self)
      c.loop-thread.answers (answers_in c.args.threads.now c.args.table)
      c.loop-thread.rows.rest.ok.0 w.in_default.ensures.cases.0 w.in_default.ensures.items c.loop-thread.invariant
]
