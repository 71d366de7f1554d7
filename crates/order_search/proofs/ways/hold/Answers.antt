use Rattle.order_search.proofs.Sifted.{takes_cut, takes_merged, takes_past}
use Rattle.order_search.proofs.Views.{way_added}
use Rattle.order_search.specs.Moments.{held_as}
use Rattle.order_search.specs.Ways.{made_as}
use Rattle.order_search.proofs.ways.hold.Goals as goal

pub returns-then-front : goal.returns-then-front
returns-then-front g c =
    takes_past (made_as g.M.Moment.now c.args.front.now.level c.args.front.now.states c.args.front.now.is_cut)
    (held_as g.M.Moment.now c.args.state) c.if-front.true

pub returns-then-has_same : goal.returns-then-has_same
returns-then-has_same g c =
    takes_merged (made_as g.M.Moment.now c.args.front.now.level c.args.front.now.states c.args.front.now.is_cut)
    (held_as g.M.Moment.now c.args.state) (c.has_same.ensures c.if-has_same.true)

pub returns-then-front-ge-MOST_STATES : goal.returns-then-front-ge-MOST_STATES
returns-then-front-ge-MOST_STATES g c =
    takes_cut (made_as g.M.Moment.now c.args.front.now.level c.args.front.now.states c.args.front.now.is_cut)
    (held_as g.M.Moment.now c.args.state) c.if-front.false c.if-front-ge-MOST_STATES.true

pub returns : goal.returns
returns g c =
    way_added g.M.Moment.now c.args.front.now.level c.push.new.self c.args.front.now.states c.args.front.now.is_cut
    c.args.state
    c.in_ok-push.ensures.ok c.if-front.false c.if-front-ge-MOST_STATES.false
