use Rattle.part_server.proofs.Ends.{arrive_grows}
use Rattle.part_server.proofs.Ticking.{step_dates}
use Rattle.part_server.proofs.dated.Dated.arrive.Goals as goal

pub invariant_of-self : goal.invariant_of-self
invariant_of-self c =
    (step_dates c.arrive-arrived.new.self c.stamp.new.stamps c.args.clock.now c.stamp.new.clock c.self.view_is c.self.invariant
    (arrive_grows c.self.inside.held c.arrive-arrived.new.self c.args.frame c.arrive-arrived.result c.arrive-arrived.ensures.gives) c.is_ok.ensures.value c.stamp.ensures).ends.stamped

pub returns-clause-dates : goal.returns-clause-dates
returns-clause-dates c =
    step_dates c.arrive-arrived.new.self c.stamp.new.stamps c.args.clock.now c.stamp.new.clock c.self.view_is c.self.invariant
    (arrive_grows c.self.inside.held c.arrive-arrived.new.self c.args.frame c.arrive-arrived.result c.arrive-arrived.ensures.gives) c.is_ok.ensures.value c.stamp.ensures
