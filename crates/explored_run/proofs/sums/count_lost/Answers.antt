use Rattle.explored_run.proofs.Loops.{lost_more}
use Rattle.explored_run.proofs.sums.count_lost.Goals as goal

pub loop-monitor-preserved : goal.loop-monitor-preserved
loop-monitor-preserved c =
    lost_more c.args.monitors.now c.loop-monitor.monitor-index c.monitor-item.result c.loop-monitor.count
    c.in_ok-lost_of.field-0 c.in_ok-count.count c.losses.result c.loop-monitor-test.true c.monitor-item.is
    c.loop-monitor.invariant c.losses.ensures.value c.in_ok-lost_of.ensures c.in_ok-count.ensures
