use Rattle.shares.proofs.Shares.{owns_append}
use Rattle.shares.proofs.joining_adds_points.Goals as goal

pub returns : goal.returns
returns c = owns_append
