use Rattle.scenario_read.proofs.Members.{all_known_is}
use Rattle.scenario_read.proofs.fields.has_only.Goals as goal

pub returns : goal.returns
returns c = all_known_is c.args.known.now c.args.members.now.entries c.has_only_names.result c.has_only_names.ensures
