use Rattle.std.proofs.Common.{refl}
use Rattle.front_laws.proofs.GuardedStruck.{guarded_same, guarded_schedule_same}
use Rattle.front_laws.proofs.WholeRuns.{owned_journals}
use Rattle.front_laws.specs.GuardedPast.{inserted_at}
use Rattle.front_laws.proofs.runs.a_fault_that_is_not_reached_leaves_the_guarded_run.Goals as goal

pub returns-clause-steps : goal.returns-clause-steps
returns-clause-steps c = guarded_same

pub returns-clause-whole : goal.returns-clause-whole
returns-clause-whole c = guarded_schedule_same

pub returns-clause-same : goal.returns-clause-same
returns-clause-same c = λ index fault own s. (owned_journals (inserted_at index own fault) s, refl)
