use Rattle.std.proofs.Common.{◌∙◌, refl, arith}
use Rattle.guard_point.proofs.TurnsPast.{few_after, few_first, walk_begins, walk_ends, walk_goes_on, walk_over, walk_stops}
use Rattle.guard_point.proofs.walking.turns_before.Goals as goal

pub loop-turns-init : goal.loop-turns-init
loop-turns-init g c = record { left = walk_begins _ _ _ _ _ c.in_ok-acts.ensures.log; few = few_first _ c.in_ok-acts.ensures.log; same = refl }

pub returns-then-is_some : goal.returns-then-is_some
returns-then-is_some g c =
    walk_stops _ _ _ _ _ _ _ _ _ c.loop-turns-test.true c.loop-turns.invariant.left c.loop-turns.invariant.same
    c.strike_due-struck.ensures.struck (grind arith)

pub returns-then-is_last : goal.returns-then-is_last
returns-then-is_last g c =
    walk_ends _ _ _ _ _ _ _ _ _ _ _ _ _ c.loop-turns-test.true c.loop-turns.invariant.left c.loop-turns.invariant.same
    c.strike_due-struck.ensures.struck (grind arith) c.strike_due-struck.ensures.entries c.turn-crossing.ensures.turned (grind arith)

pub loop-turns-preserved : goal.loop-turns-preserved
loop-turns-preserved g c = record {
  left = walk_goes_on _ _ _ _ _ _ _ _ _ _ _ _ _ c.loop-turns-test.true c.loop-turns.invariant.left c.loop-turns.invariant.same
      c.strike_due-struck.ensures.struck (grind arith) c.strike_due-struck.ensures.entries c.turn-crossing.ensures.turned (grind arith);
  few = few_after c.turn-crossing.result c.args.index c.turn-crossing.new.acts (grind arith);
  same = c.turn-crossing.ensures.entries ∙ c.strike_due-struck.ensures.entries ∙ c.loop-turns.invariant.same;
}

pub returns : goal.returns
returns g c = walk_over _ _ _ _ _ _ _ c.loop-turns-test.false c.loop-turns.invariant.left
