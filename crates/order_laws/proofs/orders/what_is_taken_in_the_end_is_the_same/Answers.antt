use Rattle.order_laws.proofs.Greedy.{ends_same}
use Rattle.order_laws.proofs.orders.what_is_taken_in_the_end_is_the_same.Goals as goal

pub returns : goal.returns
returns c = ends_same
