use Rattle.std.proofs.Common.{map, take}
use Rattle.app_threads.specs.Order.{all_stamps}
use Rattle.app_threads.specs.Workers.{AreSeats, DoesOps, KeepShares}
use Rattle.app_threads.proofs.Stamped.{FollowsUntil}
use Rattle.app_threads.proofs.script.run_script.Given as goal

abbrev pub invariant-loop-index : goal.invariant-loop-index
invariant-loop-index g l =
    record {
      seats : AreSeats g.D.DeskLike.is_seat l.access.desks.now l.seats;
      does : DoesOps (map g.D.DeskLike.view l.fn.seats) (map g.D.DeskLike.view l.seats) l.thread (take l.index l.ops) l.receipts;
      shares : KeepShares (map g.D.DeskLike.view l.fn.seats) (map g.D.DeskLike.view l.seats);
      order : FollowsUntil (all_stamps (map g.D.DeskLike.view l.seats)) 0 l.clock (take l.index l.ops) l.receipts;
    }
