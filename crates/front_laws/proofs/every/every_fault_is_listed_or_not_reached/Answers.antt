use Rattle.front_laws.proofs.EveryFault.{listed, listed_guarded}
use Rattle.front_laws.proofs.every.every_fault_is_listed_or_not_reached.Goals as goal

pub returns-clause-free : goal.returns-clause-free
returns-clause-free c = listed

pub returns-clause-guarded : goal.returns-clause-guarded
returns-clause-guarded c = listed_guarded
