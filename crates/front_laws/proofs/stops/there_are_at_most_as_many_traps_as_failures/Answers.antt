use Rattle.front_laws.proofs.StopCount.{few_found, few_needed}
use Rattle.front_laws.proofs.stops.there_are_at_most_as_many_traps_as_failures.Goals as goal

pub returns-clause-found : goal.returns-clause-found
returns-clause-found c = few_found

pub returns-clause-needed : goal.returns-clause-needed
returns-clause-needed c = few_needed
