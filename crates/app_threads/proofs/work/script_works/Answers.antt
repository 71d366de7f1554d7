use Rattle.std.proofs.Common.{arith}
use Rattle.app_threads.specs.Works.{script_works}
use Rattle.app_threads.proofs.Splitting.{scripts_next}
use Rattle.app_threads.proofs.work.script_works.Goals as goal

pub loop-thread-preserved : goal.loop-thread-preserved
loop-thread-preserved c =
    rw c.in_ok-push.ensures.items
    (scripts_next c.args.scripts.now c.loop-thread.works.items (script_works 0 c.args.scripts.now) c.loop-thread.thread (omega arith) c.loop-thread.invariant)
