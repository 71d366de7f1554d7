use Rattle.desk_like.specs.Desks.{ArriveEnds}
use Rattle.app_threads.proofs.SeatLists.{step_there}
use Rattle.app_threads.proofs.seats.arrive_at.Goals as goal

pub returns-clause-ends : goal.returns-clause-ends
returns-clause-ends g c =
    step_there g.D.DeskLike.spec g.D.DeskLike.view c.args.access.now.desks.now c.args.seats.now c.args.part c.index-access-at.result c.index-seats-at.result c.arrive.new.seat
    (λ spec old new. ArriveEnds spec old new c.args.frame.now c.arrive.result) c.requires.part c.requires.seats.0 c.index-access-at.is c.index-seats-at.is c.arrive.ensures.ends
