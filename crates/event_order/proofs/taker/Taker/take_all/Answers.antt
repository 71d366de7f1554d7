use Rattle.event_order.proofs.Ahead.{fewer_left, way_ends, way_taken}
use Rattle.event_order.proofs.taker.Taker.take_all.Goals as goal

pub taking-smaller : goal.taking-smaller
taking-smaller c = fewer_left c.taking.self c.take_one.new.self c.take_one.result c.taking-test.true c.take_one.ensures

pub taking-preserved : goal.taking-preserved
taking-preserved c s h =
    way_taken s c.taking.self c.take_one.new.self c.take_one.result c.taking-test.true (c.taking.invariant s h) c.take_one.ensures

pub returns : goal.returns
returns c s h =
    way_ends s c.taking.self c.take_one.new.self c.take_one.result c.taking-test.false (c.taking.invariant s h) c.take_one.ensures
