use Rattle.std.proofs.Common.{true}
use Rattle.object_tracker.proofs.Kept.{few_entries, kept_live}
use Rattle.object_tracker.proofs.tracker.Tracker.register.Goals as goal

pub set_live-requires : goal.set_live-requires
set_live-requires c = few_entries c.self.inside.entries c.self.invariant.kept

pub invariant_of-self : goal.invariant_of-self
invariant_of-self c = rw c.set_live.ensures (kept_live c.self.inside.heap_start true c.self.inside.entries c.self.invariant)
