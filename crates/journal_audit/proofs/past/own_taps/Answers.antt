use Rattle.run_laws.specs.Audit.{own_listeners}
use Rattle.journal_audit.proofs.OnBus.{own_settled}
use Rattle.journal_audit.proofs.past.own_taps.Goals as goal

pub returns : goal.returns
returns c = own_settled c.of.result _ _ c.in_ok-listeners.listeners.items own_listeners c.in_ok-listeners.ensures c.of.ensures
