use Rattle.front_laws.proofs.Transparent.{guarded_transparent}
use Rattle.front_laws.proofs.promises.every_guarded_part_is_given_up_or_transparent.Goals as goal

pub returns : goal.returns
returns c = guarded_transparent
