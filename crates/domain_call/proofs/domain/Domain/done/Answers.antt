use Rattle.std.proofs.Common.{◌∙◌, ap}
use Rattle.machine_defs.specs.Views.PageMap.{lent_contexts}
use Rattle.domain_call.proofs.Loans.{lent_served}
use Rattle.domain_call.proofs.domain.Domain.done.Goals as goal

pub invariant_of-self : goal.invariant_of-self
invariant_of-self c = record {
  loans = c.serve.ensures.loans
      ∙ c.self.invariant.loans
      ∙ lent_served c.self.inside.tracker.heap_start c.args.service c.self.inside.pages.words c.self.inside.tracker.entries c.args.queue.now
      ∙ ap (λ s. lent_contexts s.entries) c.serve.ensures.served;
  kind = c.self.invariant.kind;
}
