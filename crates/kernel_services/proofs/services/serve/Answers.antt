use Rattle.machine_defs.specs.Services.{served}
use Rattle.kernel_services.proofs.services.serve.Goals as goal

pub returns-in-NetRx-clause-served : goal.returns-in-NetRx-clause-served
unfolding served
returns-in-NetRx-clause-served c = rw c.in-NetRx.is (c.hand_up.ensures c.args.tracker.now.entries)
