use Rattle.object_tracker.proofs.Kept.{few_entries}
use Rattle.object_tracker.proofs.tracker.TrackerTryCopy.copy.Goals as goal

pub copied-requires : goal.copied-requires
copied-requires c = few_entries c.self.inside.entries c.self.invariant.kept
