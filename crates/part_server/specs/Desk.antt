-- A desk and its seats, as contracts name them.
use Rattle.nook_data.specs.declared.scenario.PartSpec.{PartSpec}
use Rattle.desk_like.specs.Desks.{DeskView}
use Rattle.turn_lock.specs.Seats.{IsSeatOf}
use Rattle.part_server.specs.declared.desk.PartDesk.{PartDesk}
use Rattle.part_server.specs.Turns.{SeatValue, timed_view}

-- the spec of the desk's part
abbrev pub desk_spec : PartDesk → PartSpec
desk_spec desk = desk.turn.home

-- the seat belongs to the desk
abbrev pub IsDeskSeat : PartDesk → SeatValue → Type 0
IsDeskSeat desk seat = IsSeatOf desk.turn seat.seat

-- what the seat knows
abbrev pub desk_view : SeatValue → DeskView
desk_view seat = timed_view seat.seat.me.0 seat.clock
