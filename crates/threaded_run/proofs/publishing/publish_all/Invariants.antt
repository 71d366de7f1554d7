use Rattle.std.proofs.Common.{◌≡◌, drop, map}
use Rattle.request_taps.specs.Bus.{seen, after_hearing_all}
use Rattle.run_results.specs.Journals.{events_in}
use Rattle.threaded_run.specs.Threaded.{in_parts}
use Rattle.threaded_run.proofs.publishing.publish_all.Given as goal

abbrev pub invariant-loop-part : goal.invariant-loop-part
invariant-loop-part g l =
    after_hearing_all (in_parts l.part (map events_in (drop l.part l.journals))) (map (seen g.L.Listener.listening) l.taps)
    ≡ after_hearing_all (in_parts 0 (map events_in l.journals)) (map (seen g.L.Listener.listening) l.initial.taps)
