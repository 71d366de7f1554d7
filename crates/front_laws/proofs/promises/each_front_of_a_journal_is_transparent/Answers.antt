use Rattle.front_laws.proofs.Transparent.{front_transparent}
use Rattle.front_laws.proofs.promises.each_front_of_a_journal_is_transparent.Goals as goal

pub returns : goal.returns
returns c = front_transparent
