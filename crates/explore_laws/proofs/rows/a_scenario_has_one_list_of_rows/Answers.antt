use Rattle.explore_laws.proofs.OneList.{one_list, some_row}
use Rattle.explore_laws.proofs.rows.a_scenario_has_one_list_of_rows.Goals as goal

pub returns : goal.returns
returns c = record { one = one_list; some = some_row }
