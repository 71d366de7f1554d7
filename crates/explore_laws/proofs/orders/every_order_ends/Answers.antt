use Rattle.explore_laws.proofs.Counted.{order_ends}
use Rattle.explore_laws.proofs.orders.every_order_ends.Goals as goal

pub returns : goal.returns
returns c = order_ends
