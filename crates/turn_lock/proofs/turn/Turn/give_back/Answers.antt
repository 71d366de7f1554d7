use Rattle.std.proofs.Common.{rules}
use Rattle.turn_lock.proofs.Moves.{gives_turn}
use Rattle.turn_lock.proofs.turn.Turn.give_back.Goals as goal

pub fetch_sub-requires : goal.fetch_sub-requires
fetch_sub-requires g c = (search rules, search rules, gives_turn _ _ _ _ _ _ _ c.args.self.now.home c.args.value (search rules) (search rules) (search rules) (search rules) (search rules))
