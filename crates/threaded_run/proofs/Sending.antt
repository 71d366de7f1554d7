-- Seats may be sent to other threads, and threads may share desks.
use denote.Param.Send.{IsSend, IsSync, sendable}
use Rattle.atomic_table.proofs.shared.Seat.TheSendSync as table_seat
use Rattle.turn_lock.proofs.turn.Turn.TheSendSync as turn
use Rattle.clocks.proofs.clock.Time.TheLaws.TheKnot as times
use Rattle.clocks.proofs.stamps.Row.TheLaws.TheKnot as rows
use Rattle.clocks.specs.contracts.clock.Clock as clock
use Rattle.clocks.specs.contracts.stamps.Stamps as stamps
use Rattle.part_server.proofs.held.LockedPart.TheSendSync as held
use Rattle.part_server.specs.contracts.dated.Dated as dated
use Rattle.part_server.specs.contracts.desk.PartDesk as desk
use Rattle.part_server.specs.contracts.seat.DeskSeat as seat
use Rattle.std.proofs.Crossing.{crosses}

clock_send : IsSend clock.the_row
clock_send = search (sendable, times.both_send-Time, times.crosses, times.crosses_both) depth 30

stamps_send : IsSend stamps.the_row
stamps_send = search (sendable, clock_send, times.crosses, times.crosses_both, rows.both_send-Row, rows.crosses, rows.crosses_both) depth 30

dated_send : IsSend dated.the_row
dated_send = search (sendable, held.the_send, stamps_send) depth 30

pub seat_send : IsSend seat.the_row
seat_send = search (sendable, crosses, table_seat.the_send, dated_send, clock_send) depth 30

pub desk_sync : IsSync desk.the_row
desk_sync = search (sendable, crosses, turn.the_sync, dated_send) depth 30
