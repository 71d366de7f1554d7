use Rattle.reading_laws.proofs.PlansRead.{plan_is_valid}
use Rattle.reading_laws.proofs.limits.plans_are_valid.Goals as goal

pub returns : goal.returns
returns c = plan_is_valid
