use Rattle.mirrored_run.proofs.Room.{disk_op_at, room_so, served_next}
use Rattle.mirrored_run.proofs.serving.serve_all.Goals as goal

pub serve-requires-clause-room : goal.serve-requires-clause-room
serve-requires-clause-room g c κs within =
    room_so g.D.DeskLike.spec c.loop-op.op-index c.args.ops.now c.loop-op.answers c.args.mirror.now c.loop-op.mirror c.requires.fresh c.requires.few c.loop-op.invariant.served

pub serve-requires-clause-disk_op : goal.serve-requires-clause-disk_op
serve-requires-clause-disk_op g c κs within =
    disk_op_at c.loop-op.op-index c.args.ops.now c.loop-op-item.result c.requires.disk_ops c.loop-op-test.true c.loop-op-item.is

pub loop-op-preserved : goal.loop-op-preserved
loop-op-preserved g c = record {
  served = served_next g.D.DeskLike.spec c.loop-op.op-index c.args.ops.now c.loop-op-item.result c.loop-op.answers c.push.new.self c.in_ok-answer.answer
      c.args.mirror.now c.loop-op.mirror c.serve.new.mirror c.loop-op-test.true c.loop-op-item.is c.in_ok-push.ensures.ok c.loop-op.invariant.served
      c.in_ok-answer.ensures.answered c.serve.ensures.mirror;
  mirror = c.serve.ensures.mirror;
  goes = c.in_ok-answer.ensures.answered.goes_on;
}
