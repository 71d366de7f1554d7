use Rattle.part_server.proofs.Ends.{settle_grows}
use Rattle.part_server.proofs.Ticking.{step_dates}
use Rattle.part_server.proofs.dated.Dated.settle.Goals as goal

pub invariant_of-self : goal.invariant_of-self
invariant_of-self c =
    (step_dates c.settle-settled.new.self c.stamp.new.stamps c.args.clock.now c.stamp.new.clock c.self.view_is c.self.invariant
    (settle_grows c.self.inside.held c.settle-settled.new.self c.settle-settled.result c.settle-settled.ensures.gives) c.took_step.ensures c.stamp.ensures).ends.stamped

pub returns-clause-dates : goal.returns-clause-dates
returns-clause-dates c =
    step_dates c.settle-settled.new.self c.stamp.new.stamps c.args.clock.now c.stamp.new.clock c.self.view_is c.self.invariant
    (settle_grows c.self.inside.held c.settle-settled.new.self c.settle-settled.result c.settle-settled.ensures.gives) c.took_step.ensures c.stamp.ensures
