use Rattle.contract_monitor.proofs.Changes.{if_ok}
use Rattle.guard_point.proofs.Stops.{turns_apart}
use Rattle.guard_point.proofs.stopping.turns_inside.Goals as goal

pub returns : goal.returns
returns c =
    if_ok c.turns_before.result
    (λ n h. turns_apart c.args.index n c.args.inside.now c.args.faults.now c.args.domain.state _ _ _ c.detach-bus.ensures.words
    c.detach-bus.ensures.entries c.detach-bus.ensures.device h)
    c.turns_before.ensures
