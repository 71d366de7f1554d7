use Rattle.std.proofs.Common.{◌+◌, ◌-◌, map, min, length}
use Rattle.explore_defs.specs.declared.TheConstants.{MOST_STATES}
use Rattle.order_search.specs.Found.{IsAt}
use Rattle.order_search.specs.Moments.{held_as, held_at_first}
use Rattle.order_search.specs.Ways.{made_as}
use Rattle.order_search.proofs.searching.search.Given as goal

abbrev pub invariant-levels : goal.invariant-levels
invariant-levels g l =
    IsAt (held_at_first (g.M.Moment.now l.fn.first))
    (made_as g.M.Moment.now l.work.level l.work.states l.work.is_cut) l.work.firsts

abbrev pub decreases-levels : goal.decreases-levels
decreases-levels g l = (MOST_STATES - l.work.states) + min 1 (length (map (held_as g.M.Moment.now) l.work.level))
