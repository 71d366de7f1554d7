use Rattle.std.proofs.Common.{refl}
use Rattle.front_laws.proofs.FirstTrap.{first_back, first_there, put_first}
use Rattle.front_laws.proofs.runs.the_first_trap_may_be_put_first.Goals as goal

pub returns-clause-steps : goal.returns-clause-steps
returns-clause-steps c = put_first

pub returns-clause-there : goal.returns-clause-there
returns-clause-there c = first_there

pub returns-clause-back : goal.returns-clause-back
returns-clause-back c = first_back

pub returns-clause-same : goal.returns-clause-same
returns-clause-same c = λ scenario index fault s. refl
