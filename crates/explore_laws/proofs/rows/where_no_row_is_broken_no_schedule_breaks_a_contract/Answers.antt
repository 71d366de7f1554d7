use Rattle.explore_laws.proofs.AnyOrder.{none_breaks, status_keeps}
use Rattle.explore_laws.proofs.rows.where_no_row_is_broken_no_schedule_breaks_a_contract.Goals as goal

pub returns : goal.returns
returns c = record { rows = none_breaks; status = status_keeps }
