use Rattle.std.proofs.Common.{false, get_or}
use Rattle.std.proofs.lemmas.Option.{slice_get-get_or}
use Rattle.sim_run.proofs.AbleThreads.{flags_end, flags_step}
use Rattle.sim_run.proofs.actors.add_threads.Goals as goal

pub loop-index-preserved : goal.loop-index-preserved
loop-index-preserved c =
    flags_step c.args.able.now c.loop-index.index (get_or c.args.able.now c.loop-index.index false) c.loop-index.ready.items _ _
    (slice_get-get_or c.args.able.now c.loop-index.index false c.loop-index-test.true) c.in_ok-push_if.ensures c.loop-index.invariant

pub returns : goal.returns
returns c =
    flags_end c.args.able.now c.loop-index.index c.loop-index.ready.items _ c.loop-index-test.false c.loop-index.invariant
