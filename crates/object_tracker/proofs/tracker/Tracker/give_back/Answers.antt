use Rattle.object_tracker.specs.declared.query.Query.TheVariants as query
use Rattle.object_tracker.proofs.Kept.{copy_within, kept_ended, spares_borrow}
use Rattle.object_tracker.proofs.tracker.Tracker.give_back.Goals as goal

pub invariant_of-self : goal.invariant_of-self
invariant_of-self c = rw c.end_all.ensures (kept_ended c.self.inside.heap_start (query.Borrow c.args.object) c.self.inside.entries c.self.invariant (spares_borrow c.args.object))

pub returns-clause-within : goal.returns-clause-within
returns-clause-within c =
    copy_within c.args.object c.self.inside.entries c.in_ok-start.start c.self.invariant.kept.contexts c.in_ok-start.ensures
