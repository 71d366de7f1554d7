use Rattle.std.proofs.Common.{ap, ◌∙◌}
use Rattle.contract_monitor.specs.Monitors.{Monitored}
use Rattle.contract_monitor.specs.Wrong.{first_wrong}
use Rattle.contract_monitor.proofs.Changes.{if_ok}
use Rattle.contract_monitor.proofs.FirstWrong.{holds_wrong}
use Rattle.contract_monitor.proofs.monitor.Monitor.first_wrong.Goals as goal

pub returns : goal.returns
returns c =
    if_ok c.first_wrong.result
    (λ wrong h. λ class size events s none.
    h ∙ (ap (λ (m : Monitored). first_wrong m.kept.known c.args.event.now) c.self.view_is
    ∙ holds_wrong class size events c.args.event.now c.args.self.now s none)) c.first_wrong.ensures
