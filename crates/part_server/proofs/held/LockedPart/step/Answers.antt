use Rattle.part_server.proofs.Steps.{kept_stepped}
use Rattle.part_server.proofs.held.LockedPart.step.Goals as goal

pub invariant_of-self : goal.invariant_of-self
invariant_of-self c = kept_stepped c.self.inside.part c.step.new.self c.args.step c.step.result c.self.invariant c.step.ensures

pub returns-clause-kept : goal.returns-clause-kept
returns-clause-kept c = kept_stepped c.self.inside.part c.step.new.self c.args.step c.step.result c.self.invariant c.step.ensures
