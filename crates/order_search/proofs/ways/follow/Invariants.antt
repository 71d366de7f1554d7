use Rattle.std.proofs.Common.{take}
use Rattle.explore_laws.specs.Held.{ways_from}
use Rattle.order_search.specs.Moments.{held_as}
use Rattle.order_search.specs.Ways.{TakesWays, made_as}
use Rattle.order_search.proofs.ways.follow.Given as goal

abbrev pub invariant-loop-index : goal.invariant-loop-index
invariant-loop-index g l =
    TakesWays (take l.index (ways_from (held_as g.M.Moment.now l.state)))
    (made_as g.M.Moment.now l.fn.front.level l.fn.front.states l.fn.front.is_cut)
    (made_as g.M.Moment.now l.front.level l.front.states l.front.is_cut)
