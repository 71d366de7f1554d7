use Rattle.std.proofs.Common.{◌≡◌, ◌∙◌, arith, length, map, refl, sym}
use Rattle.request_taps.specs.Bus.{seen}
use Rattle.run_results.specs.Journals.{with_part}
use Rattle.threaded_run.proofs.Heard.{all_heard, event_heard}
use Rattle.threaded_run.proofs.publishing.publish.Goals as goal

pub loop-event-preserved : goal.loop-event-preserved
loop-event-preserved g c =
    event_heard c.args.part c.loop-event.event-index c.args.events.now c.event-item.result
    (map (seen g.L.Listener.listening) c.loop-event.taps) (map (seen g.L.Listener.listening) c.publish.new.self) (map (seen g.L.Listener.listening) c.args.taps.now)
    c.loop-event-test.true c.event-item.is c.publish.ensures c.loop-event.invariant

pub returns : goal.returns
returns g c =
    let end : c.loop-event.event-index ≡ length c.args.events.now = omega (arith, c.loop-event-test.false, c.loop-event.auto.event-index-end) in
    sym (all_heard c.args.events.now c.loop-event.event-index (with_part c.args.part) (map (seen g.L.Listener.listening) c.loop-event.taps) end refl)
    ∙ c.loop-event.invariant
