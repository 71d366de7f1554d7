use Rattle.contract_monitor.proofs.Representing.{holds_first}
use Rattle.contract_monitor.proofs.monitor.Monitor.new.Goals as goal

pub returns : goal.returns
returns c = holds_first c.args.class c.args.blocks _ c.in_ok-new.ensures
