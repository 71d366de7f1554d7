use Rattle.order_laws.proofs.Greedy.{one_run_taken}
use Rattle.order_laws.proofs.orders.of_one_run_everything_is_taken.Goals as goal

pub returns : goal.returns
returns c = one_run_taken
