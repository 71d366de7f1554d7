use Rattle.std.proofs.Common.{length}
use Rattle.nooks.proofs.Guards.{room_left}
use Rattle.nooks.proofs.guarding.has_room.Goals as goal

pub returns : goal.returns
returns c = rw (c.saturating_sub-free.ensures, c.len.ensures) (room_left (length c.args.part.now.faults) c.args.part.now.limit)
