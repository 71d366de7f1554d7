use Rattle.order_laws.proofs.OutOfOrder.{in_order_one_run, one_run_in_order}
use Rattle.order_laws.proofs.audits.one_run_is_what_has_no_event_out_of_order.Goals as goal

pub returns-clause-one_run : goal.returns-clause-one_run
returns-clause-one_run c = in_order_one_run

pub returns-clause-in_order : goal.returns-clause-in_order
returns-clause-in_order c = one_run_in_order
