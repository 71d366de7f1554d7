use Rattle.sim_run.proofs.FirstBreak.{HasKept}
use Rattle.sim_run.proofs.breaking.steps_to_break.Given as goal

abbrev pub invariant-loop-step : goal.invariant-loop-step
invariant-loop-step l = HasKept l.scenario l.step l.simulation l.monitors.items
