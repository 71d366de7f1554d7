use Rattle.app_threads.specs.Steps.{Splits}
use Rattle.app_threads.proofs.SeatLists.{step_at}
use Rattle.app_threads.proofs.seats.split_at.Goals as goal

pub returns-clause-splits : goal.returns-clause-splits
returns-clause-splits g c =
    step_at g.D.DeskLike.spec g.D.DeskLike.view c.args.desks.now c.args.seats.now c.args.at c.index-desks-at.result c.index-seats-at.result c.split.new.seat
    (λ spec old new. Splits old new (g.D.DeskLike.view c.split.result)) c.requires.at c.requires.seats.0 c.index-desks-at.is c.index-seats-at.is (c.split.ensures.view, c.split.ensures.other_view, c.split.ensures.accounts, c.split.ensures.clocked)
