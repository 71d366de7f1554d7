use Rattle.std.proofs.Common.{refl}
use Rattle.order_search.proofs.Onward.{falls, is_found}
use Rattle.order_search.proofs.Views.{none_viewed, some_viewed}
use Rattle.order_search.specs.Moments.{held_at_first}
use Rattle.order_search.specs.Ways.{made_as}
use Rattle.order_search.proofs.searching.search.Goals as goal

pub levels-smaller : goal.levels-smaller
levels-smaller g c =
    let now = g.M.Moment.now in
    falls (held_at_first (now c.args.first)) (made_as now c.levels.work.level c.levels.work.states c.levels.work.is_cut)
    (made_as now c.in_ok-work-2.work.level c.in_ok-work-2.work.states c.in_ok-work-2.work.is_cut)
    c.levels.work.firsts c.in_ok-work-2.work.firsts c.levels.invariant
    c.in_ok-work-2.ensures
    (some_viewed now c.levels.work.level c.is_empty.result c.is_empty.ensures c.levels-test.true)

pub levels-preserved : goal.levels-preserved
levels-preserved g c = c.in_ok-work-2.ensures.at (held_at_first (g.M.Moment.now c.args.first)) c.levels.invariant

pub returns : goal.returns
returns g c = λ scenario same.
    let now = g.M.Moment.now in
    is_found (now c.args.first) (made_as now c.levels.work.level c.levels.work.states c.levels.work.is_cut)
    c.levels.work.firsts
    (record { rows = c.in_ok-rows_from.field-0; states = c.levels.work.states; is_cut = c.levels.work.is_cut })
    (none_viewed now c.levels.work.level c.is_empty.result c.is_empty.ensures c.levels-test.false) c.levels.invariant
    c.in_ok-rows_from.ensures refl refl scenario same
