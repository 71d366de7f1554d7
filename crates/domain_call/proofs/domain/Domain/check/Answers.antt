use Rattle.std.proofs.Common.{ap}
use Rattle.domain_call.specs.DomainView.{DomainView}
use Rattle.domain_call.proofs.Contexts.{checked_same}
use Rattle.domain_call.proofs.domain.Domain.check.Goals as goal

pub returns-clause-checked : goal.returns-clause-checked
returns-clause-checked c =
    checked_same _ c.args.number c.args.first c.args.second _ _ _ _ c.check_service.ensures.checked
    (ap (λ (s : DomainView). s.class) c.self.view_is)
    (ap (λ (s : DomainView). s.state.entries) c.self.view_is)
