use Rattle.front_laws.proofs.EveryFault.{kept_by_rows, row_of_every}
use Rattle.front_laws.proofs.every.a_table_of_every_fault_speaks_of_all.Goals as goal

pub returns-clause-rows : goal.returns-clause-rows
returns-clause-rows c = row_of_every

pub returns-clause-kept : goal.returns-clause-kept
returns-clause-kept c = kept_by_rows
