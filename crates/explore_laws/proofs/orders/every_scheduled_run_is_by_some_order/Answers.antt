use Rattle.explore_laws.proofs.Led.{scheduled_led}
use Rattle.explore_laws.proofs.orders.every_scheduled_run_is_by_some_order.Goals as goal

pub returns : goal.returns
returns c = scheduled_led
