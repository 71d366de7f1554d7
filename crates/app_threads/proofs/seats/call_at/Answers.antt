use Rattle.std.proofs.Common.{map, arith}
use mathlib.Core.List.{IsPrefix}
use Rattle.desk_like.specs.Desks.{CallEnds}
use Rattle.app_threads.proofs.Scripts.{step_stamps}
use Rattle.app_threads.proofs.SeatLists.{step_there}
use Rattle.app_threads.proofs.Stamped.{timely_there}
use Rattle.app_threads.proofs.seats.call_at.Goals as goal

pub returns-clause-ends : goal.returns-clause-ends
returns-clause-ends g c =
    step_there g.D.DeskLike.spec g.D.DeskLike.view c.args.access.now.desks.now c.args.seats.now c.args.script_op.now.part c.index-access-at.result c.index-seats-at.result c.call_in_time.new.seat
    (λ spec old new. CallEnds spec old new c.args.script_op.now.thread c.args.script_op.now.op.now c.call_in_time.result) c.requires.part c.requires.seats.0 c.index-access-at.is c.index-seats-at.is c.call_in_time.ensures.ends

pub returns-clause-stamps : goal.returns-clause-stamps
returns-clause-stamps g c =
    let view = g.D.DeskLike.view in
    let step = step_there g.D.DeskLike.spec view c.args.access.now.desks.now c.args.seats.now c.args.script_op.now.part c.index-access-at.result c.index-seats-at.result c.call_in_time.new.seat
    (λ spec old new. IsPrefix old.stamps new.stamps) c.requires.part c.requires.seats.0 c.index-access-at.is c.index-seats-at.is c.call_in_time.ensures.stamps in
    step_stamps (map g.D.DeskLike.spec c.args.access.now.desks.now) (map view c.args.seats.now) _ c.args.script_op.now.part step

pub returns-clause-timely : goal.returns-clause-timely
returns-clause-timely g c =
    let part = c.requires.part in
    let seats = c.requires.seats.0 in
    timely_there g.D.DeskLike.view c.args.seats.now c.args.script_op.now.part c.call_in_time.new.seat c.call_in_time.result c.args.clock.now c.call_in_time.new.clock (omega arith) c.call_in_time.ensures.timely
