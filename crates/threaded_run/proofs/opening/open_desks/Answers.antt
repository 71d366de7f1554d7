use Rattle.part_server.specs.Desk.{IsDeskSeat, desk_spec, desk_view}
use Rattle.threaded_run.proofs.Closed.{more_seats, more_specs, one_more_new}
use Rattle.threaded_run.proofs.opening.open_desks.Goals as goal

pub loop-spec-preserved : goal.loop-spec-preserved
loop-spec-preserved c = record {
  specs = more_specs desk_spec c.loop-spec.spec-index c.args.parts.now c.spec-item.result c.loop-spec.desks.items c.push.new.self.items c.in_ok-desk.desk
      c.loop-spec-test.true c.spec-item.is c.loop-spec.invariant.specs c.in_ok-desk.ensures.spec c.in_ok-push.ensures.items;
  seats = more_seats IsDeskSeat desk_spec desk_view c.loop-spec.desks.items c.push.new.self.items c.loop-spec.seats.items c.push-in-loop-spec.new.self.items
      c.in_ok-desk.desk c.in_ok-desk.seat c.loop-spec.invariant.seats c.in_ok-desk.ensures.seat c.in_ok-push.ensures.items c.in_ok-push-2.ensures.items;
  new = one_more_new desk_view c.loop-spec.seats.items c.push-in-loop-spec.new.self.items c.in_ok-desk.seat c.loop-spec.invariant.new
      c.in_ok-desk.ensures.view c.in_ok-push-2.ensures.items;
}
