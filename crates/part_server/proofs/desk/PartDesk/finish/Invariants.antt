use Rattle.desk_like.specs.Desks.{Waits}
use Rattle.desk_like.specs.Stamps.{Ticks}
use Rattle.part_server.specs.Desk.{IsDeskSeat, desk_spec, desk_view}
use Rattle.part_server.specs.Turns.{IsSameCall, IsWaitingIn}
use Rattle.part_server.proofs.desk.PartDesk.finish.Given as goal

abbrev pub invariant-loop : goal.invariant-loop
invariant-loop g l = record {
  seat : IsDeskSeat l.self l.seat;
  waits : Waits (desk_view l.initial.seat) (desk_view l.seat);
  ticks : Ticks (desk_view l.initial.seat) (desk_view l.seat);
  same : IsSameCall l.initial.waiting l.waiting;
  waiting : IsWaitingIn (desk_spec l.self) (desk_view l.seat) l.waiting;
  next : (goal.iterator-loop g).can_next l.iterator';
  ends : (goal.iterator-loop g).is_finite l.iterator';
}
