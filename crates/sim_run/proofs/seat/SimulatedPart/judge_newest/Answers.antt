use Rattle.std.proofs.Common.{ap, is_some, ◌∙◌}
use Rattle.sim_run.proofs.FirstBreak.{caught_up, has_newest}
use Rattle.sim_run.proofs.seat.SimulatedPart.judge_newest.Goals as goal

pub newest-requires : goal.newest-requires
newest-requires c = has_newest c.args.self.now c.args.monitor.now c.requires

pub returns-clause-seen : goal.returns-clause-seen
returns-clause-seen c =
    caught_up c.args.self.now c.args.monitor.now c.see_or_give_up.new.self c.newest.result.now c.requires c.newest.ensures
    c.in_ok-see_or_give_up.ensures

pub returns-clause-broken : goal.returns-clause-broken
returns-clause-broken c =
    c.is_some.ensures ∙ ap is_some (c.first_break.ensures.represents _ _ _ (returns-clause-seen c))
