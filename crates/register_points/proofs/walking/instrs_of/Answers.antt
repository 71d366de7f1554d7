use Rattle.std.proofs.Common.{◌∙◌, ◌-◌, ◌+◌, ◌++◌, [], ◌∷◌, ap, arith}
use Rattle.driver_isa.specs.Turns.{machine_of}
use Rattle.register_laws.specs.Uses.{instrs_from}
use Rattle.register_points.proofs.Walks.{few_after, walk_ends, walk_goes_on, walk_over}
use Rattle.register_points.proofs.walking.instrs_of.Goals as goal

pub returns-then-is_last : goal.returns-then-is_last
returns-then-is_last g c =
    walk_ends _ _ _ _ _ _ _ _ _ _ c.loop-turn-test.true c.loop-turn.invariant.left c.loop-turn.invariant.same c.turn-crossing.ensures.turned (grind arith)

pub loop-turn-preserved : goal.loop-turn-preserved
loop-turn-preserved g c = record {
  left = ap (λ xs. xs ++ instrs_from (4096 - (c.loop-turn._turn + 1)) (g.B.Bus.entries c.args.bus.now)
      (machine_of c.turn-crossing.new.cpu (g.B.Bus.words c.turn-crossing.new.bus) (g.B.Bus.device c.turn-crossing.new.bus)) c.turn-crossing.new.acts)
      (c.in_ok-push.ensures.ok ∙ ap (λ i. c.loop-turn.instrs ++ i ∷ []) c.instr_at-instr.ensures)
      ∙ walk_goes_on _ _ _ _ _ _ _ _ _ _ c.loop-turn-test.true c.loop-turn.invariant.left c.loop-turn.invariant.same c.turn-crossing.ensures.turned
      (grind arith);
  few = few_after c.turn-crossing.result c.turn-crossing.new.acts (grind arith);
  same = c.turn-crossing.ensures.entries ∙ c.loop-turn.invariant.same;
}

pub returns : goal.returns
returns g c = walk_over _ _ _ _ _ _ c.loop-turn-test.false c.loop-turn.invariant.left
