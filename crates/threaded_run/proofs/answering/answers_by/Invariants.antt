use Rattle.std.proofs.Common.{◌≡◌, ◌++◌, drop}
use Rattle.std.specs.Vec.Iter.{into_iter_items}
use Rattle.threaded_run.specs.Threaded.{answers_by}
use Rattle.threaded_run.proofs.answering.answers_by.Given as goal

abbrev pub invariant-loop-part : goal.invariant-loop-part
invariant-loop-part l = l.answers ++ answers_by (drop l.part-index l.ops) (into_iter_items l.receipts) ≡ answers_by l.ops l.fn.receipts
