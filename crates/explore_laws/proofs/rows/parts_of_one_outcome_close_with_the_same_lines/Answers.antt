use Rattle.explore_laws.proofs.ClosingLines.{same_lines}
use Rattle.explore_laws.proofs.rows.parts_of_one_outcome_close_with_the_same_lines.Goals as goal

pub returns : goal.returns
returns c = same_lines
