use Rattle.std.proofs.Common.{◌≡◌, ◌++◌, map, drop}
use Rattle.request_taps.specs.Bus.{result_of, seen}
use Rattle.request_taps.proofs.bus.Bus.totals.Given as goal

abbrev pub invariant-loop-tap : goal.invariant-loop-tap
invariant-loop-tap g l =
    l.made ++ map result_of (map (seen g.L.Listener.listening) (drop l.tap-index l.tap-items))
    ≡ map result_of (map (seen g.L.Listener.listening) l.tap-items)
