use Rattle.explore_laws.proofs.HeldRuns.{held_answer, held_rows}
use Rattle.explore_laws.proofs.merging.presents_alone_find_every_row.Goals as goal

pub returns : goal.returns
returns c = record { rows = held_rows; answer = held_answer }
