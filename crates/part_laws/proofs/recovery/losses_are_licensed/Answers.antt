use Rattle.part_laws.proofs.ReadAloud.{kept_licensed}
use Rattle.part_laws.proofs.recovery.losses_are_licensed.Goals as goal

pub returns : goal.returns
returns c = kept_licensed
