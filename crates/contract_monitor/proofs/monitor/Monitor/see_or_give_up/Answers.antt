use Rattle.contract_monitor.proofs.Representing.{is_after, represents_more}
use Rattle.contract_monitor.proofs.monitor.Monitor.see_or_give_up.Goals as goal

pub returns : goal.returns
returns c = λ class size events s.
    represents_more class size events c.args.event.now c.args.self.now _ s
    (is_after c.args.event.now c.args.self.now _ _ _ _ _ _ _ c.self.view_is c.in_ok-clause.ensures.kept c.in_ok-seen.ensures
    c.in_ok-clause.ensures.broken c.or_break-self-inside.ensures)
