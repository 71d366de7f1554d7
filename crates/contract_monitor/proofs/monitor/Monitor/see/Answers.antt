use Rattle.std.proofs.Common.{rules}
use Rattle.contract_monitor.proofs.Representing.{is_after, represents_more}
use Rattle.contract_monitor.proofs.monitor.Monitor.see.Goals as goal

pub returns-clause-after : goal.returns-clause-after
returns-clause-after c =
    is_after c.args.event.now c.args.self.now _ _ _ _ _ _ _ c.self.view_is (search rules) c.in_ok-seen.ensures (search rules)
    c.or_break-self-inside.ensures

pub returns-clause-represents : goal.returns-clause-represents
returns-clause-represents c = λ class size events s. represents_more class size events c.args.event.now c.args.self.now _ s (returns-clause-after c)
