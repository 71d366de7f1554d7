use Rattle.std.proofs.Common.{◌+◌, ap, ◌∙◌, sym, drop, map}
use Rattle.run_laws.specs.Audit.{each_of_part}
use Rattle.request_taps.specs.Bus.{seen, after_hearing_all}
use Rattle.journal_audit.proofs.Kept.{heard_next, heard_none}
use Rattle.journal_audit.proofs.past.hear_all.Goals as goal

pub loop-event-preserved : goal.loop-event-preserved
loop-event-preserved g c =
    ap (after_hearing_all (each_of_part c.args.part (drop (c.loop-event.event-index + 1) c.args.events.now))) c.publish.ensures
    ∙ (sym (heard_next c.args.part c.loop-event.event-index c.event-item.result c.args.events.now
    (map (seen g.L.Listener.listening) c.loop-event.taps) c.loop-event-test.true c.event-item.is) ∙ c.loop-event.invariant)

pub returns : goal.returns
returns g c =
    sym (heard_none c.args.part c.loop-event.event-index c.args.events.now (map (seen g.L.Listener.listening) c.loop-event.taps) c.loop-event-test.false)
    ∙ c.loop-event.invariant
