use Rattle.explore_laws.proofs.SamePresent.{outcome_present, present_follows, same_choices}
use Rattle.explore_laws.proofs.presents.the_present_is_enough.Goals as goal

pub returns : goal.returns
returns c = record { choices = same_choices; follows = present_follows; outcome = outcome_present }
