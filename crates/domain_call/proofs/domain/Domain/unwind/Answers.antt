use Rattle.std.proofs.Common.{◌∙◌, false, sym}
use Rattle.domain_call.proofs.Loans.{lent_registered}
use Rattle.domain_call.proofs.domain.Domain.unwind.Goals as goal

-- src/domain/recovery.rt:22:5
pub invariant_of-self : goal.invariant_of-self
invariant_of-self c = rw c.unregister.ensures (record {
  loans = c.self.invariant.loans ∙ sym (lent_registered false c.self.inside.tracker.entries);
  kind = c.self.invariant.kind;
})
