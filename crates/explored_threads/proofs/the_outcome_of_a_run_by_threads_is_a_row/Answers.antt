use Rattle.explored_threads.proofs.ThreadRows.{threads_row}
use Rattle.explored_threads.proofs.the_outcome_of_a_run_by_threads_is_a_row.Goals as goal

pub returns : goal.returns
returns c = threads_row
