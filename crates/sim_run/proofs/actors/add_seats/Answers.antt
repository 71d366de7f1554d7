use Rattle.sim_run.proofs.Choosing.{seats_end, seats_step}
use Rattle.sim_run.proofs.actors.add_seats.Goals as goal

pub loop-index-preserved : goal.loop-index-preserved
loop-index-preserved c =
    seats_step c.args.first c.args.seats.now c.loop-index.index c.index-seats-index.result c.loop-index.ready.items _ _
    c.loop-index-test.true c.index-seats-index.is c.in_ok-add_seat.ensures c.loop-index.invariant

pub returns : goal.returns
returns c =
    seats_end c.args.first c.args.seats.now c.loop-index.index c.loop-index.ready.items c.args.ready.now.items
    c.loop-index-test.false c.loop-index.invariant
