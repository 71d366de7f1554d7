use Rattle.std.proofs.Common.{sym, ◌∙◌}
use Rattle.contract_monitor.proofs.Changes.{if_ok}
use Rattle.guard_point.proofs.Stops.{deed_stops, nothing_stops}
use Rattle.guard_point.proofs.stopping.stop_burst.Goals as goal

pub returns-in-Some : goal.returns-in-Some
returns-in-Some c =
    if_ok c.stop_before.result
    (λ stop is. deed_stops c.args.domain.state c.args.event.now c.args.faults.now c.args.monitor.now c.in-Some.wrong stop
    (λ class size events s none. sym c.in-Some.is ∙ c.in_ok-wrong.ensures class size events s none) is)
    c.stop_before.ensures

pub returns-in-None : goal.returns-in-None
returns-in-None c =
    nothing_stops c.args.domain.state c.args.event.now c.args.faults.now c.args.monitor.now
    (λ class size events s none. sym c.in-None.is ∙ c.in_ok-wrong.ensures class size events s none)
