use Rattle.std.proofs.Common.{refl}
use Rattle.front_laws.proofs.WholeRuns.{owned_journals, scheduled_same, whole_same}
use Rattle.front_laws.specs.Owned.{struck_at}
use Rattle.front_laws.proofs.runs.a_fault_that_is_not_reached_leaves_the_run.Goals as goal

pub returns-clause-steps : goal.returns-clause-steps
returns-clause-steps c = whole_same

pub returns-clause-whole : goal.returns-clause-whole
returns-clause-whole c = scheduled_same

pub returns-clause-same : goal.returns-clause-same
returns-clause-same c = λ index fault s. (owned_journals (struck_at index fault) s, refl)
