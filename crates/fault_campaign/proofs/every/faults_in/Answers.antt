use Rattle.std.proofs.Common.{◌+◌, ◌-◌, ◌++◌, ◌∙◌, ap, append_assoc, map, sym}
use Rattle.guard_defs.specs.Every.{faults_in, put_at}
use Rattle.fault_campaign.proofs.EveryFaults.{first_turn}
use Rattle.fault_campaign.proofs.every.faults_in.Goals as goal

pub loop-turn-preserved : goal.loop-turn-preserved
loop-turn-preserved c =
    let rest = faults_in c.args.kinds.now c.args.burst (c.args.after + (c.loop-turn.turn + 1)) (c.args.turns - (c.loop-turn.turn + 1)) in
    ap (λ t. t ++ rest) c.in_ok-push_kinds.ensures
    ∙ append_assoc c.loop-turn.faults (map (put_at c.args.burst (c.args.after + c.loop-turn.turn)) c.args.kinds.now) rest
    ∙ ap (λ t. c.loop-turn.faults ++ t)
    (sym (first_turn c.args.kinds.now c.args.burst c.args.after c.loop-turn.turn c.args.turns c.loop-turn-test.true))
    ∙ c.loop-turn.invariant
