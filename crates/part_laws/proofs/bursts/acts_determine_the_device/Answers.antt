use Rattle.part_laws.proofs.ActsDetermine.{acts_determine}
use Rattle.part_laws.proofs.bursts.acts_determine_the_device.Goals as goal

pub returns : goal.returns
returns c = acts_determine
