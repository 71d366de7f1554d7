use Rattle.explore_laws.proofs.Merged.{levels_find}
use Rattle.explore_laws.proofs.merging.worklists_find_every_outcome.Goals as goal

pub returns : goal.returns
returns c = levels_find
