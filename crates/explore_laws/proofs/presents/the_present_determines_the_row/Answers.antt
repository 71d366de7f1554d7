use Rattle.explore_laws.proofs.RowNumbers.{numbers_reported}
use Rattle.explore_laws.proofs.presents.the_present_determines_the_row.Goals as goal

pub returns : goal.returns
returns c = numbers_reported
