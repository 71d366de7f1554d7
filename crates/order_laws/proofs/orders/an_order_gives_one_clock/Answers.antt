use Rattle.order_laws.proofs.Clocked.{ordered_one_run}
use Rattle.order_laws.proofs.orders.an_order_gives_one_clock.Goals as goal

pub returns : goal.returns
returns c = ordered_one_run
