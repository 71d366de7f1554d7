use Rattle.explore_laws.proofs.Merged.{first_holds, next_holds}
use Rattle.explore_laws.proofs.merging.a_worklist_covers_its_level.Goals as goal

pub returns : goal.returns
returns c = record { first = first_holds; next = next_holds }
