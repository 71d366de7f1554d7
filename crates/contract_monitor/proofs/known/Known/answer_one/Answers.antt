use Rattle.contract_monitor.proofs.Bursts.{none_answered}
use Rattle.contract_monitor.proofs.known.Known.answer_one.Goals as goal

pub returns-in-None : goal.returns-in-None
returns-in-None c = rw c.in-None.is (none_answered c.args.self.now)
