use Rattle.part_laws.proofs.ReadAloud.{kept_facts}
use Rattle.part_core.proofs.part.Part.into_journal.Goals as goal

pub returns-clause-facts : goal.returns-clause-facts
returns-clause-facts c = kept_facts c.args.self.state.spec c.self.inside.journal.list
