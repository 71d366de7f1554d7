use Rattle.object_tracker.specs.declared.query.Query.TheVariants as query
use Rattle.object_tracker.proofs.Kept.{kept_ended, spares_held}
use Rattle.object_tracker.proofs.tracker.Tracker.collect.Goals as goal

pub invariant_of-self : goal.invariant_of-self
invariant_of-self c = rw c.end_all.ensures (kept_ended c.self.inside.heap_start query.Held c.self.inside.entries c.self.invariant spares_held)
