use Rattle.part_server.proofs.Ends.{go_on_grows}
use Rattle.part_server.proofs.Ticking.{step_dates}
use Rattle.part_server.proofs.dated.Dated.go_on.Goals as goal

pub invariant_of-self : goal.invariant_of-self
invariant_of-self c =
    (step_dates c.go_on-went_on.new.self c.stamp.new.stamps c.args.clock.now c.stamp.new.clock c.self.view_is c.self.invariant
    (go_on_grows c.self.inside.held c.go_on-went_on.new.self c.args.waiting c.go_on-went_on.result c.go_on-went_on.ensures.gives) c.is_ok.ensures.value c.stamp.ensures).ends.stamped

pub returns-clause-dates : goal.returns-clause-dates
returns-clause-dates c =
    step_dates c.go_on-went_on.new.self c.stamp.new.stamps c.args.clock.now c.stamp.new.clock c.self.view_is c.self.invariant
    (go_on_grows c.self.inside.held c.go_on-went_on.new.self c.args.waiting c.go_on-went_on.result c.go_on-went_on.ensures.gives) c.is_ok.ensures.value c.stamp.ensures
