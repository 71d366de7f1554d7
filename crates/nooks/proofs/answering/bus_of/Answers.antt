use Rattle.nooks.proofs.Written.{bus_settled}
use Rattle.nooks.proofs.answering.bus_of.Goals as goal

pub returns : goal.returns
returns g c = bus_settled c.of.result _ _ _ c.args.listeners.items _ c.in_ok-heard.ensures c.of.ensures
