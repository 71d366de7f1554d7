use Rattle.order_laws.proofs.Emptied.{all_taken, emptied_one_run}
use Rattle.order_laws.proofs.orders.where_journals_fit_nothing_left_is_all_taken.Goals as goal

pub returns-clause-taken : goal.returns-clause-taken
returns-clause-taken c = all_taken

pub returns-clause-clock : goal.returns-clause-clock
returns-clause-clock c = emptied_one_run
