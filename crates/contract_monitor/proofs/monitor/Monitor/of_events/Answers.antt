use Rattle.std.proofs.Common.{[], ◌∷◌, ◌++◌, ap, subst, sym, take, ◌∙◌}
use Rattle.std.proofs.lemmas.List.{take_more}
use Rattle.contract_monitor.specs.Monitors.{Represents}
use Rattle.contract_monitor.proofs.monitor.Monitor.of_events.Goals as goal

pub loop-event-preserved : goal.loop-event-preserved
loop-event-preserved c =
    let seen = take c.loop-event.event-index c.args.events.now in
    subst (λ events. Represents c.args.class c.args.blocks events c.see_or_give_up.new.self)
    (ap (λ e. seen ++ e ∷ []) c.event-item.is
    ∙ sym (take_more c.args.events.now c.loop-event.event-index c.event-item.result c.loop-event-test.true))
    (c.in_ok-see_or_give_up.ensures c.args.class c.args.blocks seen c.loop-event.invariant)
