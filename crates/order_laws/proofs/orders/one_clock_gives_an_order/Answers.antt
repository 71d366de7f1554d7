use Rattle.order_laws.proofs.Ordered.{one_run_ordered}
use Rattle.order_laws.proofs.orders.one_clock_gives_an_order.Goals as goal

pub returns : goal.returns
returns c = one_run_ordered
