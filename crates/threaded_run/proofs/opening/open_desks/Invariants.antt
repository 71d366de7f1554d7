use Rattle.std.proofs.Common.{◌≡◌, map, take}
use Rattle.app_threads.specs.Workers.{AreSeats}
use Rattle.part_server.specs.Desk.{IsDeskSeat, desk_spec, desk_view}
use Rattle.threaded_run.specs.Leaving.{AreNew}
use Rattle.threaded_run.proofs.opening.open_desks.Given as goal

abbrev pub invariant-loop-spec : goal.invariant-loop-spec
invariant-loop-spec l = record {
  specs : map desk_spec l.desks.items ≡ take l.spec-index l.parts;
  seats : AreSeats IsDeskSeat l.desks.items l.seats.items;
  new : AreNew (map desk_view l.seats.items);
}
