use Rattle.std.proofs.Common.{ap, ◌∙◌}
use Rattle.std.proofs.lemmas.Result.{on_ok_weaker}
use Rattle.explore_laws.specs.Present.{numbers_in}
use Rattle.order_search.proofs.Views.{end_added, end_had}
use Rattle.order_search.proofs.ends.add_end.Goals as goal

pub returns-then-has_outcome : goal.returns-then-has_outcome
returns-then-has_outcome g c =
    end_had g.M.Moment.now c.args.firsts.now c.args.state c.in_ok-outcome.outcome c.in_ok-outcome.ensures
    (c.has_outcome.ensures.some c.if-has_outcome.true)

pub returns : goal.returns
returns g c =
    on_ok_weaker c.push.result (λ e. end_added g.M.Moment.now c.args.firsts.now c.push.new.self c.args.state
    c.in_ok-numbers.numbers c.in_ok-outcome.outcome e
    (c.in_ok-numbers.ensures ∙ ap (λ n. numbers_in n (g.M.Moment.now c.args.state.moment)) c.len.ensures)
    c.in_ok-outcome.ensures c.requires (c.has_outcome.ensures.none c.if-has_outcome.false)) c.push.ensures.ok
