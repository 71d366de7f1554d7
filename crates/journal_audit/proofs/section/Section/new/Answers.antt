use Rattle.std.proofs.Common.{arith}
use Rattle.journal_audit.proofs.Hearing.{as_many}
use Rattle.journal_audit.proofs.SectionSteps.{spec_at_first}
use Rattle.journal_audit.proofs.section.Section.new.Goals as goal

pub invariant_of-result : goal.invariant_of-result
invariant_of-result c =
    let threads = c.in_ok-threads.threads.items in (
      spec_at_first c.in_ok-part.part c.in_ok-copy.field-0 c.args.spec.now c.in_ok-part.ensures c.in_ok-copy.ensures,
      c.in_ok-threads.ensures.parts,
      omega (arith, as_many c.args.index c.args.threads.now threads c.in_ok-threads.ensures.states, c.requires.threads),
    )
