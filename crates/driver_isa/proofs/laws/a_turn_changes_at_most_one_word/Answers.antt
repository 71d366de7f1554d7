use Rattle.driver_isa.proofs.OneWord.{turn_changes}
use Rattle.driver_isa.proofs.laws.a_turn_changes_at_most_one_word.Goals as goal

pub returns : goal.returns
returns c = turn_changes
