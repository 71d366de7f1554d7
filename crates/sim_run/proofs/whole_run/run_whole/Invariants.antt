use Rattle.std.proofs.Common.{map}
use Rattle.request_taps.specs.Bus.{seen}
use Rattle.sim_run.proofs.Ending.{HasRun}
use Rattle.sim_run.proofs.whole_run.run_whole.Given as goal

abbrev pub invariant-loop-step : goal.invariant-loop-step
invariant-loop-step g l =
    HasRun l.scenario l._step l.simulation (map (seen g.L.Listener.listening) l.initial.taps) (map (seen g.L.Listener.listening) l.taps)
