use Rattle.explore_laws.proofs.Led.{whole_listed}
use Rattle.explore_laws.proofs.orders.every_order_is_a_listed_schedule.Goals as goal

pub returns : goal.returns
returns c = whole_listed
