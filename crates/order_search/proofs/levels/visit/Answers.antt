use Rattle.explore_laws.specs.Held.{ways_from}
use Rattle.order_search.proofs.FirstEnds.{ends_same}
use Rattle.order_search.proofs.Sifted.{takes_all_past}
use Rattle.order_search.proofs.Views.{on_ok, some_listed}
use Rattle.order_search.specs.Moments.{held_as}
use Rattle.order_search.specs.Ways.{made_as}
use Rattle.order_search.proofs.levels.visit.Goals as goal

pub returns-then-front-clause-ways : goal.returns-then-front-clause-ways
returns-then-front-clause-ways g c =
    takes_all_past (ways_from (held_as g.M.Moment.now c.args.state))
    (made_as g.M.Moment.now c.args.front.now.level c.args.front.now.states c.args.front.now.is_cut) c.if-front.true

pub returns-then-front-clause-ends : goal.returns-then-front-clause-ends
returns-then-front-clause-ends g c =
    ends_same (held_as g.M.Moment.now c.args.state) c.args.firsts.now
    (λ ended. absurd (some_listed (g.M.Moment.now c.args.state.moment) c.in_ok-choices.choices c.is_empty.result
    c.in_ok-choices.ensures c.is_empty.ensures c.if-is_empty.false ended))

pub returns-clause-ends : goal.returns-clause-ends
returns-clause-ends g c =
    on_ok c.follow.result (ends_same (held_as g.M.Moment.now c.args.state) c.args.firsts.now
    (λ ended. absurd (some_listed (g.M.Moment.now c.args.state.moment) c.in_ok-choices.choices c.is_empty.result
    c.in_ok-choices.ensures c.is_empty.ensures c.if-is_empty.false ended)))
