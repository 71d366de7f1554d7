use Rattle.std.proofs.Common.{◌≡◌, ◌++◌, List, map, length}
use Rattle.std.specs.Prelude.{All}
use Rattle.std.specs.Vec.Iter.{into_iter_items, into_iter_len}
use Rattle.desk_like.specs.Desks.{DeskView}
use Rattle.app_threads.specs.Order.{KeepClocked}
use Rattle.app_threads.specs.Steps.{TakeAllIn}
use Rattle.app_threads.specs.Workers.{AreSeats, KeepAccounts}
use Rattle.app_threads.proofs.workers.take_in.Given as goal

abbrev pub invariant-loop-done : goal.invariant-loop-done
invariant-loop-done g l =
    let view = g.D.DeskLike.view in
    let specs = map g.D.DeskLike.spec l.desks in
    record {
      seats : AreSeats g.D.DeskLike.is_seat l.desks l.seats;
      rest : All (λ done. AreSeats g.D.DeskLike.is_seat l.desks done.seats.items) (into_iter_items l.done-iterator);
      len : into_iter_len l.done-iterator ≡ length (into_iter_items l.done-iterator);
      joins : (news : List DeskView) → TakeAllIn specs (map view l.seats) (map (λ done. map view done.seats.items) (into_iter_items l.done-iterator)) news
          → TakeAllIn specs (map view l.fn.seats) (map (λ done. map view done.seats.items) l.fn.workers.items) news;
      ends : l.ends.items ++ map (λ done. done.end) (into_iter_items l.done-iterator) ≡ map (λ done. done.end) l.fn.workers.items;
      accounts : KeepAccounts (map view l.fn.seats) (map view l.seats);
      clocked : KeepClocked (map view l.fn.seats) (map view l.seats);
    }
