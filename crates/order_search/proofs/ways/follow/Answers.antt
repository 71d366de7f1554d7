use Rattle.std.proofs.Common.{slice_get, sym, ap, ◌∙◌}
use Rattle.order_search.proofs.Sifted.{takes_way}
use Rattle.order_search.specs.Moments.{held_as}
use Rattle.order_search.specs.Ways.{made_as}
use Rattle.order_search.proofs.ways.follow.Goals as goal

pub loop-index-preserved : goal.loop-index-preserved
loop-index-preserved g c =
    let now = g.M.Moment.now in
    takes_way (held_as now c.args.state.now)
    (held_as now (record { picks = c.in_ok-picks.picks; moment = c.in_ok-moment.moment })) c.loop-index.index
    c.get.result.now
    (made_as now c.args.front.now.level c.args.front.now.states c.args.front.now.is_cut)
    (made_as now c.loop-index.front.level c.loop-index.front.states c.loop-index.front.is_cut)
    (made_as now c.hold.new.front.level c.hold.new.front.states c.hold.new.front.is_cut)
    c.in_ok-moment.ensures (ap (λ xs. slice_get xs c.loop-index.index) (sym c.requires) ∙ c.get.ensures)
    c.in_ok-picks.ensures
    c.loop-index.invariant c.in_ok-hold.ensures
