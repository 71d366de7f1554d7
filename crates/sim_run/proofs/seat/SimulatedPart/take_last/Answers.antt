use Rattle.std.proofs.Common.{◌∙◌, ap}
use Rattle.run_defs.specs.Simulation.{RunningPart}
use Rattle.sim_run.proofs.Seeking.{last_shown}
use Rattle.sim_run.proofs.seat.SimulatedPart.take_last.Goals as goal

pub returns : goal.returns
returns c =
    last_shown c.args.self.now c.take.new.self c.args.step c.in_ok-domain.domain.state c.newest.result.now c.in_ok-event.event
    (ap (λ d. d.state) c.in_ok-domain.ensures ∙ c.domain.ensures ∙ ap (λ (s : RunningPart). s.run.state.domain) c.self.view_is)
    c.in_ok-take.ensures.ok c.newest.ensures c.in_ok-event.ensures
