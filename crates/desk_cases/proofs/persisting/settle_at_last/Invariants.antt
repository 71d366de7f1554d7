use Rattle.part_server.specs.Desk.{IsDeskSeat}
use Rattle.desk_cases.proofs.persisting.settle_at_last.Given as goal

abbrev pub invariant-loop-attempt : goal.invariant-loop-attempt
invariant-loop-attempt g l = IsDeskSeat l.desk l.seat
