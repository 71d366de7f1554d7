use Rattle.std.proofs.Common.{map}
use Rattle.request_taps.specs.Bus.{seen}
use Rattle.run_ends.proofs.Heard.{on_err}
use Rattle.sim_run.proofs.Ending.{has_begun, has_ended, has_run_on, has_stopped, has_to_end, none_heard}
use Rattle.sim_run.proofs.whole_run.run_whole.Goals as goal

pub returns-in_err-simulation-clause-heard : goal.returns-in_err-simulation-clause-heard
returns-in_err-simulation-clause-heard g c =
    on_err c.from_residual.result (0, none_heard c.args.scenario.now (map (seen g.L.Listener.listening) c.args.taps.now))

pub loop-step-init : goal.loop-step-init
loop-step-init g c =
    has_begun c.args.scenario.now c.in_ok-simulation.simulation (map (seen g.L.Listener.listening) c.args.taps.now) c.in_ok-simulation.ensures

pub returns-in_err-advance-clause-heard : goal.returns-in_err-advance-clause-heard
returns-in_err-advance-clause-heard g c =
    on_err c.from_residual-in_err-advance.result
    (has_stopped c.args.scenario.now c.loop-step._step c.loop-step.simulation
    (map (seen g.L.Listener.listening) c.args.taps.now) (map (seen g.L.Listener.listening) c.loop-step.taps) (map (seen g.L.Listener.listening) c.advance.new.taps)
    c.loop-step.invariant c.in_err-advance.ensures.heard)

pub returns-then-not-branch-clause-whole : goal.returns-then-not-branch-clause-whole
returns-then-not-branch-clause-whole g c =
    has_ended c.args.scenario.now c.loop-step._step c.loop-step.simulation c.advance.new.self c.in_ok-advance.field-0
    (map (seen g.L.Listener.listening) c.args.taps.now) (map (seen g.L.Listener.listening) c.loop-step.taps) (map (seen g.L.Listener.listening) c.advance.new.taps)
    c.loop-step.invariant c.in_ok-advance.ensures.advanced c.in_ok-advance.ensures.heard c.if-not-branch.true

pub loop-step-preserved : goal.loop-step-preserved
loop-step-preserved g c =
    has_run_on c.args.scenario.now c.loop-step._step c.loop-step.simulation c.advance.new.self c.in_ok-advance.field-0
    (map (seen g.L.Listener.listening) c.args.taps.now) (map (seen g.L.Listener.listening) c.loop-step.taps) (map (seen g.L.Listener.listening) c.advance.new.taps)
    c.loop-step.invariant c.in_ok-advance.ensures.advanced c.in_ok-advance.ensures.heard c.if-not-branch.false

pub unreachable-requires : goal.unreachable-requires
unreachable-requires g c =
    has_to_end c.args.scenario.now c.loop-step._step c.loop-step.simulation
    (map (seen g.L.Listener.listening) c.args.taps.now) (map (seen g.L.Listener.listening) c.loop-step.taps)
    c.requires c.loop-step.invariant c.loop-step-test.false
