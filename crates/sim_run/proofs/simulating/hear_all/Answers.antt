use Rattle.std.proofs.Common.{◌<◌, ◌≤◌, length, arith}
use Rattle.sim_run.proofs.AbleThreads.{all_heard, one_more_heard}
use Rattle.sim_run.proofs.Advancing.{heard_more}
use Rattle.sim_run.proofs.simulating.hear_all.Goals as goal

pub loop-index-preserved : goal.loop-index-preserved
loop-index-preserved c =
    let within : c.loop-index.index < length c.loop-index.threads = omega (arith, c.loop-index-test.true, c.loop-index.auto.threads) in (
      heard_more c.args.part c.args.event.now c.args.threads.now c.loop-index.threads c.loop-index.index c.index-threads-index.result c.hear.new.thread
          c.loop-index-test.true c.loop-index.invariant.0 c.in_ok-hear.ensures.thread,
      one_more_heard c.loop-index.index c.args.part c.args.event.now c.args.seats.now c.loop-index.threads c.loop-index.able c.hear.new.thread c.hear.new.able
          within c.in_ok-hear.ensures.able c.loop-index.invariant.1,
    )

pub returns-clause-able : goal.returns-clause-able
returns-clause-able c =
    let over : length c.loop-index.threads ≤ c.loop-index.index = omega (arith, c.loop-index-test.false, c.loop-index.auto.threads) in
    all_heard c.loop-index.index c.args.part c.args.event.now c.args.seats.now c.loop-index.threads c.loop-index.able over c.loop-index.invariant.1
