use Rattle.shares.proofs.Shares.{owns_halves, halves_apart}
use Rattle.shares.proofs.halves_part_a_share.Goals as goal

pub returns-clause-all : goal.returns-clause-all
returns-clause-all c = owns_halves

pub returns-clause-apart : goal.returns-clause-apart
returns-clause-apart c = halves_apart
