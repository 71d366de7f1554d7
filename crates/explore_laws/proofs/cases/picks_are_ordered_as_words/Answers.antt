use Rattle.std.proofs.Common.{refl}
use Rattle.explore_defs.specs.Orders.{is_lower}
use Rattle.explore_laws.proofs.cases.picks_are_ordered_as_words.Goals as goal

pub returns-clause-first : goal.returns-clause-first
unfolding is_lower
returns-clause-first c = refl

pub returns-clause-later : goal.returns-clause-later
unfolding is_lower
returns-clause-later c = refl

pub returns-clause-same : goal.returns-clause-same
unfolding is_lower
returns-clause-same c = refl
