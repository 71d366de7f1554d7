use Rattle.std.proofs.Common.{◌≡◌, ◌∙◌, ap, arith, length, map, refl, sym}
use Rattle.request_taps.specs.Bus.{seen, after_hearing_all}
use Rattle.run_results.specs.Journals.{events_in, with_part}
use Rattle.threaded_run.specs.Threaded.{in_parts}
use Rattle.threaded_run.proofs.Heard.{all_heard, journal_heard}
use Rattle.threaded_run.proofs.publishing.publish_all.Goals as goal

pub loop-part-preserved : goal.loop-part-preserved
loop-part-preserved g c =
    journal_heard c.loop-part.part c.args.journals.now c.index-journals-part.result
    (map (seen g.L.Listener.listening) c.loop-part.taps) (map (seen g.L.Listener.listening) c.publish.new.taps) (map (seen g.L.Listener.listening) c.args.taps.now)
    c.loop-part-test.true c.index-journals-part.is
    (c.publish.ensures ∙ ap (λ events. after_hearing_all (with_part c.loop-part.part events) (map (seen g.L.Listener.listening) c.loop-part.taps)) c.as_slice.ensures)
    c.loop-part.invariant

pub returns : goal.returns
returns g c =
    let end : c.loop-part.part ≡ length c.args.journals.now = omega (arith, c.loop-part-test.false, c.loop-part.auto.part-end) in
    sym (all_heard c.args.journals.now c.loop-part.part (λ js. in_parts c.loop-part.part (map events_in js)) (map (seen g.L.Listener.listening) c.loop-part.taps) end refl)
    ∙ c.loop-part.invariant
