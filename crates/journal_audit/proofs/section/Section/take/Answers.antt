use Rattle.journal_audit.proofs.SectionSteps.{spec_stays}
use Rattle.journal_audit.proofs.section.Section.take.Goals as goal

pub invariant_of-self : goal.invariant_of-self
invariant_of-self c =
    let i = c.self.inside in
    (spec_stays i.part c.step.new.self i.spec.now c.args.step c.in-Ok.ensures.1 c.self.invariant.0, c.self.invariant.1, c.self.invariant.2)
