use Rattle.std.proofs.Common.{map, take}
use Rattle.app_threads.specs.Workers.{AreSeats, DoesFrames, KeepShares}
use Rattle.app_threads.proofs.arrivals.run_arrivals.Given as goal

abbrev pub invariant-loop-index : goal.invariant-loop-index
invariant-loop-index g l =
    record {
      seats : AreSeats g.D.DeskLike.is_seat l.access.desks.now l.seats;
      does : DoesFrames (map g.D.DeskLike.view l.fn.seats) (map g.D.DeskLike.view l.seats) l.part (take l.index l.frames);
      shares : KeepShares (map g.D.DeskLike.view l.fn.seats) (map g.D.DeskLike.view l.seats);
    }
