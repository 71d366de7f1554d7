use Rattle.std.proofs.Common.{◌<◌, ◌≤◌, length, arith}
use Rattle.std.proofs.lemmas.List.{length-map}
use Rattle.event_order.specs.Ways.{lists_in, taking_in}
use Rattle.event_order.proofs.Held.{all_held, held_more, list_at}
use Rattle.event_order.proofs.taker.first_able.Goals as goal

pub loop-part-preserved : goal.loop-part-preserved
loop-part-preserved c =
    let less : c.loop-part.part < length c.args.left.now = c.loop-part-test.true in
    held_more c.loop-part.part (taking_in c.args.left.now c.args.callers.now) c.index-left-part.result.now
    (list_at c.args.left.now c.loop-part.part c.index-left-part.result less c.index-left-part.is) c.loop-part.invariant c.in_default.ensures

pub returns : goal.returns
returns c =
    let many : length (lists_in c.args.left.now) ≤ c.loop-part.part =
    omega (arith, c.loop-part-test.false, length-map c.args.left.now (λ l. l.now)) in
    all_held c.loop-part.part (taking_in c.args.left.now c.args.callers.now) many c.loop-part.invariant
