use Rattle.explore_laws.proofs.AnyOrder.{row_is_run}
use Rattle.explore_laws.proofs.rows.each_row_is_the_scheduled_run_of_its_picks.Goals as goal

pub returns : goal.returns
returns c = row_is_run
