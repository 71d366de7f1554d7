use Rattle.front_laws.proofs.Unreached.{later_fault}
use Rattle.front_laws.proofs.fronts.a_later_fault_changes_nothing_before_it.Goals as goal

pub returns : goal.returns
returns c = later_fault
