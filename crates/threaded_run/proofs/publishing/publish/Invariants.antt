use Rattle.std.proofs.Common.{◌≡◌, drop, map}
use Rattle.request_taps.specs.Bus.{seen, after_hearing_all}
use Rattle.run_results.specs.Journals.{with_part}
use Rattle.threaded_run.proofs.publishing.publish.Given as goal

abbrev pub invariant-loop-event : goal.invariant-loop-event
invariant-loop-event g l =
    after_hearing_all (with_part l.part (drop l.event-index l.events)) (map (seen g.L.Listener.listening) l.taps)
    ≡ after_hearing_all (with_part l.part l.events) (map (seen g.L.Listener.listening) l.initial.taps)
