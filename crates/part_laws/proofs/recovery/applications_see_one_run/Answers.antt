use Rattle.part_laws.proofs.ReadAloud.{kept_shows_one_run}
use Rattle.part_laws.proofs.recovery.applications_see_one_run.Goals as goal

pub returns : goal.returns
returns c = kept_shows_one_run
