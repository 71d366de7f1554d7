use Rattle.contract_monitor.specs.Calls.{open_of}
use Rattle.contract_monitor.proofs.known.Known.judge_answer.Goals as goal

pub returns-in-Get : goal.returns-in-Get
returns-in-Get c = rw c.in-Get.is (c.judge_get.ensures (open_of c.args.call.now))
