use Rattle.std.proofs.Common.{rules, ◌∷◌, List, ℕ, sym, ap, ◌∙◌, Some, Option}
use Rattle.atomic_table.specs.Table.{rest}
use Rattle.turn_lock.proofs.Moves.{takes_turn}
use Rattle.turn_lock.proofs.turn.Turn.take.Goals as goal

pub compare_exchange-requires : goal.compare_exchange-requires
compare_exchange-requires g c = (search rules, search rules, takes_turn _ _ _ _ _ _ _ _ c.args.self.now.home (search rules) (search rules) (search rules))

pub exchange-requires : goal.exchange-requires
exchange-requires g c =
    let won = c.compare_exchange.ensures.2.0 (search rules) in
    (search rules, (Some won.value, won.slot ∙ ap (λ (z : List (ℕ × Option g.row.T.Denot)). (0, Some won.value) ∷ z) (sym (ap rest won.slot))))
