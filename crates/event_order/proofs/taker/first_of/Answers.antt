use Rattle.std.proofs.Common.{◌<◌, length, arith}
use Rattle.event_order.specs.Ways.{lists_in}
use Rattle.event_order.proofs.Held.{first_found, list_at, list_is, taken_more}
use Rattle.event_order.proofs.taker.first_of.Goals as goal

pub returns-then-not-is_empty : goal.returns-then-not-is_empty
returns-then-not-is_empty c =
    let less : c.loop-part.part < length c.args.left.now = c.loop-part-test.true in
    first_found (lists_in c.args.left.now) c.loop-part.part c.index-left-part.result.now c.is_empty.result
    (list_at c.args.left.now c.loop-part.part c.index-left-part.result less c.index-left-part.is) c.if-not-is_empty.true c.is_empty.ensures
    c.loop-part.invariant

pub loop-part-preserved : goal.loop-part-preserved
loop-part-preserved c =
    let less : c.loop-part.part < length c.args.left.now = c.loop-part-test.true in
    taken_more c.loop-part.part (lists_in c.args.left.now) c.index-left-part.result.now c.is_empty.result
    (list_is c.args.left.now c.loop-part.part c.index-left-part.result less c.index-left-part.is) c.if-not-is_empty.false c.is_empty.ensures
    c.loop-part.invariant
