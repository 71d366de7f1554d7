use Rattle.mirrored_run.proofs.Whole.{two_items}
use Rattle.mirrored_run.proofs.running.both.Goals as goal

pub returns : goal.returns
returns c = two_items c.args.parts.now c.index-parts-0.result c.index-parts-1.result c.requires c.index-parts-0.is c.index-parts-1.is
