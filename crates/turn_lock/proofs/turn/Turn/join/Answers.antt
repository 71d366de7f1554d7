use Rattle.std.proofs.Common.{rules, ◌≡◌, Some}
use Rattle.turn_lock.proofs.Moves.{joins, loads}
use Rattle.turn_lock.proofs.turn.Turn.join.Goals as goal

pub join_seat-requires : goal.join_seat-requires
join_seat-requires g c = (search rules, search rules, search rules, search rules, joins _ _ _ _ _ _ _ _ c.args.self.now.home (search rules) (search rules))

pub load-requires : goal.load-requires
load-requires g c = let own : c.join_seat.new.seat.me.0.origin ≡ Some c.args.self.now.home = search rules in (search rules, search rules, search (rules, loads))
