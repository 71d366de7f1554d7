use Rattle.app_threads.specs.Steps.{TakesInOne}
use Rattle.app_threads.proofs.SeatLists.{step_at}
use Rattle.app_threads.proofs.seats.join_at.Goals as goal

pub returns-clause-joins : goal.returns-clause-joins
returns-clause-joins g c =
    step_at g.D.DeskLike.spec g.D.DeskLike.view c.args.desks.now c.args.seats.now c.args.at c.index-desks-at.result c.index-seats-at.result c.join.new.seat
    (λ spec old new. TakesInOne spec old (g.D.DeskLike.view c.args.other) new) c.requires.at c.requires.seats.0 c.index-desks-at.is c.index-seats-at.is (c.join.ensures.joins, c.join.ensures.run, c.join.ensures.accounts, c.join.ensures.clocked, c.join.ensures.joins_clocks)
