use Rattle.front_laws.proofs.GuardStep.{first_wrong_deed}
use Rattle.front_laws.proofs.guards.the_clause_reported_is_the_smallest_of_the_first_wrong_deed.Goals as goal

pub returns : goal.returns
returns c = first_wrong_deed
