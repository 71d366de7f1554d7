use Rattle.std.proofs.Common.{ap, ◌∙◌}
use Rattle.contract_monitor.specs.Keeping.{losses_of}
use Rattle.contract_monitor.proofs.Representing.{losses_hold}
use Rattle.contract_monitor.proofs.monitor.Monitor.losses.Goals as goal

pub returns-clause-represents : goal.returns-clause-represents
returns-clause-represents c = λ class size events s.
    c.losses.ensures ∙ (ap (λ m. losses_of m.kept.counts) c.self.view_is ∙ losses_hold class size events c.args.self.now s)
