use Rattle.std.proofs.Common.{refl}
use Rattle.std.specs.Fmt.{digits}
use Rattle.explore_laws.proofs.cases.rows_are_written_so.Goals as goal

pub returns-clause-row : goal.returns-clause-row
unfolding digits
returns-clause-row c = refl

pub returns-clause-whole : goal.returns-clause-whole
unfolding digits
returns-clause-whole c = refl

pub returns-clause-front : goal.returns-clause-front
unfolding digits
returns-clause-front c = refl
