use Rattle.std.proofs.Common.{rules}
use Rattle.turn_lock.proofs.Moves.{looks}
use Rattle.turn_lock.proofs.turn.Turn.look.Goals as goal

pub load-requires : goal.load-requires
load-requires g c = (search rules, search rules, looks _ _ _ _ _ _ _ _ c.requires.seat.1)
