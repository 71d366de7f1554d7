use Rattle.part_server.proofs.Ends.{invoke_grows}
use Rattle.part_server.proofs.Ticking.{step_dates}
use Rattle.part_server.proofs.dated.Dated.invoke.Goals as goal

pub invariant_of-self : goal.invariant_of-self
invariant_of-self c =
    (step_dates c.invoke-invoked.new.self c.stamp.new.stamps c.args.clock.now c.stamp.new.clock c.self.view_is c.self.invariant
    (invoke_grows c.self.inside.held c.invoke-invoked.new.self c.args.thread c.args.op c.invoke-invoked.result c.invoke-invoked.ensures.gives) c.is_ok.ensures.value c.stamp.ensures).ends.stamped

pub returns-clause-dates : goal.returns-clause-dates
returns-clause-dates c =
    step_dates c.invoke-invoked.new.self c.stamp.new.stamps c.args.clock.now c.stamp.new.clock c.self.view_is c.self.invariant
    (invoke_grows c.self.inside.held c.invoke-invoked.new.self c.args.thread c.args.op c.invoke-invoked.result c.invoke-invoked.ensures.gives) c.is_ok.ensures.value c.stamp.ensures
