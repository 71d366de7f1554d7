use Rattle.std.proofs.Common.{◌≡◌, ◌++◌, map, take, drop}
use Rattle.request_taps.specs.Bus.{seen, after_hearing}
use Rattle.request_taps.proofs.bus.report.Given as goal

abbrev pub invariant-loop-tap : goal.invariant-loop-tap
invariant-loop-tap g l =
    map (seen g.L.Listener.listening) l.tap-items
    ≡ map (after_hearing l.part l.event) (take l.tap-index (map (seen g.L.Listener.listening) l.initial.tap-items))
    ++ drop l.tap-index (map (seen g.L.Listener.listening) l.initial.tap-items)
