use Rattle.std.proofs.Common.{◌≡◌, drop, map}
use Rattle.run_laws.specs.Audit.{each_of_part}
use Rattle.request_taps.specs.Bus.{seen, after_hearing_all}
use Rattle.journal_audit.proofs.past.hear_all.Given as goal

abbrev pub invariant-loop-event : goal.invariant-loop-event
invariant-loop-event g l =
    after_hearing_all (each_of_part l.part (drop l.event-index l.events)) (map (seen g.L.Listener.listening) l.taps)
    ≡ after_hearing_all (each_of_part l.part l.events) (map (seen g.L.Listener.listening) l.initial.taps)
