use Rattle.std.proofs.Common.{◌∙◌, sym}
use Rattle.sim_run.proofs.NextActor.{seat_found, seat_passed, seats_begin, seats_over}
use Rattle.sim_run.proofs.actors.first_of_seats.Goals as goal

pub loop-index-init : goal.loop-index-init
loop-index-init c = seats_begin c.args.least c.args.first c.args.seats.now

pub returns-in-Some : goal.returns-in-Some
returns-in-Some c =
    seat_found c.args.least c.args.first c.args.seats.now c.loop-index.index c.in-Some.actor c.index-seats-index.result _
    c.loop-index-test.true c.index-seats-index.is (sym c.in-Some.is ∙ c.first_of_seat.ensures) c.loop-index.invariant

pub loop-index-preserved : goal.loop-index-preserved
loop-index-preserved c =
    seat_passed c.args.least c.args.first c.args.seats.now c.loop-index.index c.index-seats-index.result _
    c.loop-index-test.true c.index-seats-index.is (sym c.in_default.is ∙ c.first_of_seat.ensures) c.loop-index.invariant

pub returns : goal.returns
returns c = seats_over c.args.least c.args.first c.args.seats.now c.loop-index.index _ c.loop-index-test.false c.loop-index.invariant
