use Rattle.sim_run.proofs.FirstBreak.{runs_begun, runs_on}
use Rattle.sim_run.proofs.breaking.run_for.Goals as goal

pub loop-step-init : goal.loop-step-init
loop-step-init c = runs_begun c.args.scenario.now c.in_ok-simulation.simulation c.in_ok-simulation.ensures

pub loop-step-preserved : goal.loop-step-preserved
loop-step-preserved c =
    runs_on c.args.scenario.now c.loop-step._step c.loop-step.simulation c.advance.new.self c.in_ok-advance.field-0
    c.loop-step.invariant c.in_ok-advance.ensures.advanced
