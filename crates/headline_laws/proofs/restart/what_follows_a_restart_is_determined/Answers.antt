use Rattle.headline_laws.proofs.Restarts.{same_after}
use Rattle.headline_laws.proofs.restart.what_follows_a_restart_is_determined.Goals as goal

pub returns : goal.returns
returns c = same_after
