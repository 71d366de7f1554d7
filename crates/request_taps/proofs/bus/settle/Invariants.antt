use Rattle.std.proofs.Common.{◌≡◌, ◌++◌, map, take, drop}
use Rattle.request_taps.specs.Bus.{seen, settled_tap}
use Rattle.request_taps.proofs.bus.settle.Given as goal

abbrev pub invariant-loop-tap : goal.invariant-loop-tap
invariant-loop-tap g l =
    map (seen g.L.Listener.listening) l.tap-items
    ≡ map settled_tap (take l.tap-index (map (seen g.L.Listener.listening) l.initial.tap-items))
    ++ drop l.tap-index (map (seen g.L.Listener.listening) l.initial.tap-items)
