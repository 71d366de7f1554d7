use Rattle.answer_laws.proofs.SameRows.{answers_alike, whole_alike}
use Rattle.answer_laws.proofs.every_exploration_has_the_same_rows.Goals as goal

pub returns : goal.returns
returns c = record { whole = whole_alike; answers = answers_alike }
