use Rattle.std.proofs.Common.{map}
use Rattle.request_taps.specs.Bus.{seen}
use Rattle.run_ends.proofs.Heard.{on_err}
use Rattle.sim_run.proofs.Ending.{runs_reported, simulated_reported}
use Rattle.sim_run.proofs.EndStates.{ends_reported}
use Rattle.run_results.specs.Journals.{events_in}
use Rattle.sim_run.specs.Whole.{IsWhole}
use Rattle.sim_run.proofs.whole_run.simulate_over.Goals as goal

pub returns-in_err-totals-clause-heard : goal.returns-in_err-totals-clause-heard
returns-in_err-totals-clause-heard g c =
    let whole : IsWhole c.args.scenario.now c.in_ok-simulation.simulation (map (seen g.L.Listener.listening) c.args.taps.now)
    (map (seen g.L.Listener.listening) c.run_whole.new.taps) = c.in_ok-simulation.ensures.whole in
    on_err c.from_residual-in_err-totals.result (whole.scheduled.steps, whole.heard)

pub returns-clause-simulated : goal.returns-clause-simulated
returns-clause-simulated g c =
    simulated_reported c.into_run.result c.args.scenario.now c.in_ok-simulation.simulation c.in_ok-totals.totals
    (map (seen g.L.Listener.listening) c.args.taps.now) (map (seen g.L.Listener.listening) c.run_whole.new.taps)
    c.in_ok-simulation.ensures.whole c.into_run.ensures.journals c.into_run.ensures.answers c.into_run.ensures.taps c.in_ok-totals.ensures

pub returns-clause-runs : goal.returns-clause-runs
returns-clause-runs g c =
    let whole : IsWhole c.args.scenario.now c.in_ok-simulation.simulation (map (seen g.L.Listener.listening) c.args.taps.now)
    (map (seen g.L.Listener.listening) c.run_whole.new.taps) = c.in_ok-simulation.ensures.whole in
    runs_reported c.into_run.result (λ x. map events_in x.run.journals) c.args.scenario.now c.in_ok-simulation.simulation whole.scheduled
    c.into_run.ensures.journals

pub returns-clause-ends : goal.returns-clause-ends
returns-clause-ends g c =
    let whole : IsWhole c.args.scenario.now c.in_ok-simulation.simulation (map (seen g.L.Listener.listening) c.args.taps.now)
    (map (seen g.L.Listener.listening) c.run_whole.new.taps) = c.in_ok-simulation.ensures.whole in
    ends_reported c.into_run.result c.args.scenario.now c.in_ok-simulation.simulation whole.scheduled
    c.into_run.ensures.journals c.into_run.ensures.ends

pub returns-clause-heard : goal.returns-clause-heard
returns-clause-heard g c =
    let whole : IsWhole c.args.scenario.now c.in_ok-simulation.simulation (map (seen g.L.Listener.listening) c.args.taps.now)
    (map (seen g.L.Listener.listening) c.run_whole.new.taps) = c.in_ok-simulation.ensures.whole in
    on_err c.into_run.result (whole.scheduled.steps, whole.heard)
