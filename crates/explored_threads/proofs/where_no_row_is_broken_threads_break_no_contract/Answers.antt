use Rattle.explored_threads.proofs.ThreadRows.{threads_kept}
use Rattle.explored_threads.proofs.where_no_row_is_broken_threads_break_no_contract.Goals as goal

pub returns : goal.returns
returns c = threads_kept
