use Rattle.std.proofs.Common.{map}
use Rattle.std.specs.Vec.Iter.{into_iter_items, into_iter_len}
use Rattle.app_threads.specs.Order.{all_stamps}
use Rattle.part_server.specs.Desk.{IsDeskSeat, desk_spec, desk_view}
use Rattle.threaded_run.proofs.Closed.{Remain, StampsRemain}
use Rattle.threaded_run.proofs.closing.leave_all.Given as goal

abbrev pub invariant-loop-desk : goal.invariant-loop-desk
invariant-loop-desk g l = record {
  remain : Remain IsDeskSeat desk_spec desk_view (map desk_spec l.fn.opened.desks.items) (map (λ s. (desk_view s).seen) l.fn.opened.seats.items)
      (into_iter_items l.desks) (into_iter_items l.seats) l.journals l.ends;
  stamps : StampsRemain desk_view (all_stamps (map desk_view l.fn.opened.seats.items)) (into_iter_items l.seats) l.journals;
}

abbrev pub decreases-loop-desk : goal.decreases-loop-desk
decreases-loop-desk g l = into_iter_len l.desks
