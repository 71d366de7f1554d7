use Rattle.std.proofs.Common.{◌≤◌, All, length, subst, arith}
use Rattle.std.proofs.lemmas.List.{take_all}
use Rattle.order_search.proofs.KeptEnds.{HasOther, has_this_outcome, none_has, other_by}
use Rattle.order_search.proofs.Views.{all_one_more}
use Rattle.order_search.proofs.ends.has_outcome.Goals as goal

pub returns-then-is_same-clause-some : goal.returns-then-is_same-clause-some
returns-then-is_same-clause-some c = λ e.
    has_this_outcome c.args.firsts.now c.loop-index.index c.get.result.now c.args.outcome.now c.get.ensures
    (c.is_same.ensures.0 c.if-is_same.true)

pub loop-index-preserved : goal.loop-index-preserved
loop-index-preserved c =
    all_one_more (HasOther c.args.outcome.now) c.args.firsts.now c.loop-index.index c.get.result.now c.get.ensures
    c.loop-index.invariant
    (other_by c.args.outcome.now c.get.result.now c.is_same.result c.if-is_same.false c.is_same.ensures)

pub returns-clause-none : goal.returns-clause-none
returns-clause-none c = λ e.
    let done : length c.args.firsts.now ≤ c.loop-index.index = omega arith in
    none_has c.args.firsts.now c.args.outcome.now
    (subst (All (HasOther c.args.outcome.now)) (take_all c.loop-index.index c.args.firsts.now done)
    c.loop-index.invariant)
