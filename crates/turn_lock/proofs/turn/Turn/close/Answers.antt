use Rattle.turn_lock.proofs.ViewLists.{made_is_seen_took}
use Rattle.turn_lock.proofs.turn.Turn.close.Goals as goal

pub returns-clause-made : goal.returns-clause-made
returns-clause-made g c = made_is_seen_took _ _ _ c.take.ensures.view c.take.ensures.made
