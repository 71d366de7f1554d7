use Rattle.std.proofs.Common.{rules}
use Rattle.turn_lock.proofs.Moves.{commits, gives_turn}
use Rattle.turn_lock.proofs.turn.Turn.commit_and_give.Goals as goal

pub fetch_add-requires : goal.fetch_add-requires
fetch_add-requires g c = (search rules, search rules, commits _ _ _ _ _ _ _ c.args.self.now.home c.requires.entry.0 c.args.value (search rules) (search rules) (search rules) (search rules) c.requires.short)

pub fetch_sub-requires : goal.fetch_sub-requires
fetch_sub-requires g c = (search rules, search rules, gives_turn _ _ _ _ _ _ _ c.args.self.now.home c.args.value (search rules) (search rules) (search rules) (search rules) (search rules))
