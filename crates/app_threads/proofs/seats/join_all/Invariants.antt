use Rattle.std.proofs.Common.{◌≡◌, ◌≤◌, map, take, length}
use Rattle.app_threads.specs.Workers.{AreSeats}
use Rattle.app_threads.proofs.SeatLists.{AreSeatsSoFar, TakenFrom}
use Rattle.app_threads.proofs.seats.join_all.Given as goal

abbrev pub invariant-loop-other : goal.invariant-loop-other
invariant-loop-other g l =
    record {
      few : length l.others.items ≤ length l.desks;
      seats : AreSeats g.D.DeskLike.is_seat l.desks l.seats;
      others : AreSeatsSoFar g.D.DeskLike.is_seat l.desks l.others.items (length l.others.items);
      views : map g.D.DeskLike.view l.others.items ≡ take (length l.others.items) (map g.D.DeskLike.view l.fn.others.items);
      taken : TakenFrom (length l.others.items) (map g.D.DeskLike.spec l.desks) (map g.D.DeskLike.view l.fn.seats) (map g.D.DeskLike.view l.fn.others.items) (map g.D.DeskLike.view l.seats);
    }

abbrev pub decreases-loop-other : goal.decreases-loop-other
decreases-loop-other g l = goal.left-loop-other g l
