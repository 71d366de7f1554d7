use Rattle.std.proofs.Common.{[], ◌+◌, ◌∷◌, ◌++◌, ap, sym, subst, take, ◌∙◌}
use Rattle.std.proofs.lemmas.List.{take_more}
use Rattle.sim_run.proofs.FirstBreak.{one_more_seen}
use Rattle.sim_run.specs.Watched.{HaveSeen}
use Rattle.sim_run.proofs.simulating.make_monitors.Goals as goal

pub loop-seat-preserved : goal.loop-seat-preserved
loop-seat-preserved c =
    let seats = c.args.seats.now in
    let i = c.loop-seat.seat-index in
    subst (HaveSeen (take (i + 1) seats)) (sym c.in_ok-push.ensures.items)
    (subst (λ xs. HaveSeen xs (c.loop-seat.made.items ++ c.in_ok-monitor.field-0 ∷ []))
    (ap (λ seat. take i seats ++ seat ∷ []) c.seat-item.is
    ∙ sym (take_more seats i c.seat-item.result c.loop-seat-test.true))
    (one_more_seen (take i seats) c.loop-seat.made.items c.seat-item.result c.in_ok-monitor.field-0
    c.loop-seat.invariant c.in_ok-monitor.ensures))
