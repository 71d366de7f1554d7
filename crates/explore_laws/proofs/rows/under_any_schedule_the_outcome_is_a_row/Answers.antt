use Rattle.explore_laws.proofs.AnyOrder.{is_row}
use Rattle.explore_laws.proofs.rows.under_any_schedule_the_outcome_is_a_row.Goals as goal

pub returns : goal.returns
returns c = is_row
