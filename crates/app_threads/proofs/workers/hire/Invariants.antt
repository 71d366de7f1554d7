use Rattle.std.proofs.Common.{map, take}
use Rattle.app_threads.specs.Hired.{Each, IsHired}
use Rattle.app_threads.specs.Order.{KeepClocked}
use Rattle.app_threads.specs.Steps.{Same, Spread}
use Rattle.app_threads.specs.Workers.{AreSeats, AtDesks, KeepAccounts}
use Rattle.app_threads.proofs.workers.hire.Given as goal

abbrev pub invariant-loop-at : goal.invariant-loop-at
invariant-loop-at g l =
    record {
      seats : AreSeats g.D.DeskLike.is_seat l.desks l.seats;
      same : AtDesks Same (map g.D.DeskLike.view l.fn.seats) (map g.D.DeskLike.view l.seats);
      hired : Each (IsHired g.D.DeskLike.is_seat g.D.DeskLike.spec g.D.DeskLike.view l.desks (map g.D.DeskLike.view l.fn.seats)) (take l.at l.works) l.workers.items;
      accounts : KeepAccounts (map g.D.DeskLike.view l.fn.seats) (map g.D.DeskLike.view l.seats);
      clocked : KeepClocked (map g.D.DeskLike.view l.fn.seats) (map g.D.DeskLike.view l.seats);
      spread : Spread (map g.D.DeskLike.view l.fn.seats) (map g.D.DeskLike.view l.seats) (map (λ worker. map g.D.DeskLike.view worker.seats.items) l.workers.items);
    }
