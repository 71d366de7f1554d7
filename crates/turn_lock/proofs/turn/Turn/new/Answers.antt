use Rattle.std.proofs.Common.{rules, refl}
use Rattle.turn_lock.proofs.Moves.{opens}
use Rattle.turn_lock.proofs.turn.Turn.new.Goals as goal

pub new-requires : goal.new-requires
new-requires g c = opens _ _ _ _ _ _ _ (search rules) (search rules) refl refl (search rules)
