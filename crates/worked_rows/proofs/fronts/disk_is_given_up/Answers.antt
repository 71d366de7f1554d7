use Rattle.std.proofs.Common.{refl}
use Rattle.worked_rows.proofs.OnLiterals.{nook_on_literals}
use Rattle.worked_rows.proofs.fronts.disk_is_given_up.Goals as goal

pub returns : goal.returns
unfolding nook_on_literals
returns c = refl
