use Rattle.order_laws.proofs.OutOfOrder.{out_of_order_exists, out_of_order_once}
use Rattle.order_laws.proofs.audits.what_is_out_of_order_is_one_line.Goals as goal

pub returns-clause-exists : goal.returns-clause-exists
returns-clause-exists c = out_of_order_exists

pub returns-clause-once : goal.returns-clause-once
returns-clause-once c = out_of_order_once
