use Rattle.std.proofs.Common.{refl}
use Rattle.headline_laws.specs.Recoveries.{while_away}
use Rattle.worked_rows.proofs.OnLiterals.{nook_on_literals}
use Rattle.worked_rows.proofs.fronts.slow_stream_recovers.Goals as goal

pub returns : goal.returns
unfolding nook_on_literals while_away
returns c = refl
