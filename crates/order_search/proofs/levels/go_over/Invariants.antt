use Rattle.std.proofs.Common.{◌≡◌, List, [], map, length}
use Rattle.std.specs.Vec.Iter.{into_iter_items, into_iter_len}
use Rattle.order_search.specs.Ends.{TakesEnds}
use Rattle.order_search.specs.Moments.{held_as}
use Rattle.order_search.specs.Ways.{Made, TakesWays, all_ways, made_as}
use Rattle.order_search.specs.declared.ends.FirstEnd.{FirstEnd}
use Rattle.order_search.proofs.levels.go_over.Given as goal

abbrev pub invariant-loop-state : goal.invariant-loop-state
invariant-loop-state g l =
    let view = held_as g.M.Moment.now in
    let rest = map view (into_iter_items l.state-iterator) in
    record {
      len : into_iter_len l.state-iterator ≡ length (into_iter_items l.state-iterator);
      ways : (new : Made)
          → TakesWays (all_ways rest) (made_as g.M.Moment.now l.front.level l.front.states l.front.is_cut) new
          → TakesWays (all_ways (map view l.fn.work.level))
          (record { level = []; states = l.fn.work.states; is_cut = l.fn.work.is_cut }) new;
      ends : (new : List FirstEnd) → TakesEnds rest l.firsts new
          → TakesEnds (map view l.fn.work.level) l.fn.work.firsts new;
    }
