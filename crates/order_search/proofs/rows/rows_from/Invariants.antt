use Rattle.std.proofs.Common.{◌≡◌, ◌++◌, map, length}
use Rattle.std.specs.Vec.Iter.{into_iter_items, into_iter_len}
use Rattle.order_search.specs.Found.{row_of_end}
use Rattle.order_search.proofs.rows.rows_from.Given as goal

abbrev pub invariant-loop-first : goal.invariant-loop-first
invariant-loop-first l =
    record {
      len : into_iter_len l.first-iterator ≡ length (into_iter_items l.first-iterator);
      rows : l.rows ++ map row_of_end (into_iter_items l.first-iterator) ≡ map row_of_end l.fn.firsts;
    }
