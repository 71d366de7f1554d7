use Rattle.part_laws.proofs.ReadAloud.{kept_facts}
use Rattle.part_laws.proofs.recovery.facts_hold.Goals as goal

pub returns : goal.returns
returns c = kept_facts
