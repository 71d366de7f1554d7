use Rattle.std.proofs.Common.{refl}
use Rattle.worked_rows.proofs.OnLiterals.{nook_on_literals}
use Rattle.worked_rows.proofs.runs.generated_of_twelve.Goals as goal

pub returns-clause-summary : goal.returns-clause-summary
unfolding nook_on_literals
returns-clause-summary c = refl
