use Rattle.std.proofs.Common.{◌≡◌, ◌++◌, drop}
use Rattle.std.specs.Vec.Iter.{into_iter_items}
use Rattle.threaded_run.specs.Leaving.{answers_in}
use Rattle.threaded_run.proofs.answering.answers_of.Given as goal

abbrev pub invariant-loop-thread : goal.invariant-loop-thread
invariant-loop-thread l = l.answers ++ answers_in (drop l.thread-index l.threads) (into_iter_items l.rows) ≡ answers_in l.threads l.fn.table
