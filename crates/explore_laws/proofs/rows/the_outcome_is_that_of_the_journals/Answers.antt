use Rattle.explore_laws.proofs.Counted.{outcome_left, scheduled_left}
use Rattle.explore_laws.proofs.rows.the_outcome_is_that_of_the_journals.Goals as goal

pub returns : goal.returns
returns c = record { orders = outcome_left; schedules = scheduled_left }
