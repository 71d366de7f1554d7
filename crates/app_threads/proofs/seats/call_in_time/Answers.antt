use Rattle.app_threads.proofs.Stamped.{call_ended, call_keeps, call_timely}
use Rattle.app_threads.proofs.seats.call_in_time.Goals as goal

pub returns-clause-ends : goal.returns-clause-ends
returns-clause-ends g c =
    let view = g.D.DeskLike.view in
    call_ended (g.D.DeskLike.spec c.args.desk.now) (view c.args.seat.now) (view c.synchronize.new.seat) (view c.call-end.new.seat) (view c.synchronize-2.new.seat) c.args.clock.now c.synchronize.new.clock
    c.args.script_op.now.thread c.args.script_op.now.op.now c.call-end.result c.synchronize.ensures.view c.synchronize-2.ensures.view c.call-end.ensures.ends

pub returns-clause-stamps : goal.returns-clause-stamps
returns-clause-stamps g c =
    let view = g.D.DeskLike.view in
    call_keeps (g.D.DeskLike.spec c.args.desk.now) (view c.args.seat.now) (view c.synchronize.new.seat) (view c.call-end.new.seat) (view c.synchronize-2.new.seat) c.args.clock.now c.synchronize.new.clock
    c.args.script_op.now.thread c.args.script_op.now.op.now c.call-end.result c.synchronize.ensures.view c.synchronize-2.ensures.view c.call-end.ensures.ticks

pub returns-clause-timely : goal.returns-clause-timely
returns-clause-timely g c =
    let view = g.D.DeskLike.view in
    call_timely (g.D.DeskLike.spec c.args.desk.now) (view c.args.seat.now) (view c.synchronize.new.seat) (view c.call-end.new.seat) (view c.synchronize-2.new.seat) c.args.clock.now c.synchronize.new.clock
    c.args.script_op.now.thread c.args.script_op.now.op.now c.call-end.result c.synchronize.ensures.view c.synchronize-2.ensures.view
    c.synchronize-2.new.clock c.synchronize-2.ensures.clock c.call-end.ensures.ends c.call-end.ensures.ticks c.call-end.ensures.clocked
