use Rattle.std.proofs.Common.{map}
use Rattle.app_threads.specs.Order.{KeepClocked}
use Rattle.app_threads.specs.Steps.{Halve, Same}
use Rattle.app_threads.specs.Workers.{AreSeats, AtDesks, KeepAccounts}
use Rattle.app_threads.proofs.SeatLists.{AreSeatsSoFar}
use Rattle.app_threads.proofs.Splitting.{StartSoFar}
use Rattle.app_threads.proofs.seats.split_all.Given as goal

abbrev pub invariant-loop-at : goal.invariant-loop-at
invariant-loop-at g l =
    record {
      seats : AreSeats g.D.DeskLike.is_seat l.desks l.seats;
      same : AtDesks Same (map g.D.DeskLike.view l.fn.seats) (map g.D.DeskLike.view l.seats);
      made : AreSeatsSoFar g.D.DeskLike.is_seat l.desks l.made.items l.at;
      accounts : KeepAccounts (map g.D.DeskLike.view l.fn.seats) (map g.D.DeskLike.view l.seats);
      clocked : KeepClocked (map g.D.DeskLike.view l.fn.seats) (map g.D.DeskLike.view l.seats);
      starts : StartSoFar l.at (map g.D.DeskLike.view l.fn.seats) (map g.D.DeskLike.view l.made.items);
      halves : Halve (map g.D.DeskLike.view l.fn.seats) (map g.D.DeskLike.view l.seats) (map g.D.DeskLike.view l.made.items);
    }
