use Rattle.part_laws.proofs.TiedBursts.{tied_after}
use Rattle.part_laws.proofs.bounds.each_step_is_tied.Goals as goal

pub returns : goal.returns
returns c = tied_after
