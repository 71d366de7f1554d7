use Rattle.front_laws.proofs.Alike.{before_same, within_same}
use Rattle.front_laws.proofs.fronts.before_a_fault_a_burst_is_alike.Goals as goal

pub returns-clause-acts : goal.returns-clause-acts
returns-clause-acts c = within_same

pub returns-clause-turns : goal.returns-clause-turns
returns-clause-turns c = before_same
