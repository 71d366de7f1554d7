use Rattle.front_laws.proofs.Unreached.{unreached}
use Rattle.front_laws.proofs.Past.{burst_past}
use Rattle.front_laws.proofs.fronts.a_fault_that_is_not_reached_changes_nothing.Goals as goal

pub returns-clause-runs : goal.returns-clause-runs
returns-clause-runs c = unreached

pub returns-clause-bursts : goal.returns-clause-bursts
returns-clause-bursts c = burst_past
