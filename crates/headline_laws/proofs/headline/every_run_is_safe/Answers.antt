use Rattle.headline_laws.proofs.Safe.{run_safe}
use Rattle.headline_laws.proofs.headline.every_run_is_safe.Goals as goal

pub returns : goal.returns
returns c = run_safe
