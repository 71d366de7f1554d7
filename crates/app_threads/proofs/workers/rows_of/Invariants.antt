use Rattle.std.proofs.Common.{◌≡◌, ◌++◌, map, length}
use Rattle.std.specs.Prelude.{Ok}
use Rattle.std.specs.Vec.Iter.{into_iter_items, into_iter_len}
use Rattle.app_threads.proofs.workers.rows_of.Given as goal

abbrev pub invariant-loop-end : goal.invariant-loop-end
invariant-loop-end l =
    record {
      len : into_iter_len l.end-iterator ≡ length (into_iter_items l.end-iterator);
      rows : map (λ row. Ok row) l.rows ++ into_iter_items l.end-iterator ≡ l.fn.ends.items;
    }
