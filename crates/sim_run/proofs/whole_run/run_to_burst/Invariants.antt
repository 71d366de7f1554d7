use Rattle.sim_run.proofs.Seeking.{HasSought}
use Rattle.sim_run.proofs.whole_run.run_to_burst.Given as goal

abbrev pub invariant-loop-step : goal.invariant-loop-step
invariant-loop-step l = HasSought l.scenario l._step l.simulation l.index l.number
