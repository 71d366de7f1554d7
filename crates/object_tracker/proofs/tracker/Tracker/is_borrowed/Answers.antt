use Rattle.std.proofs.Common.{◌∙◌, sym}
use Rattle.object_tracker.proofs.Kept.{borrowed_known}
use Rattle.object_tracker.proofs.tracker.Tracker.is_borrowed.Goals as goal

pub returns-clause-known : goal.returns-clause-known
returns-clause-known c =
    λ held. borrowed_known c.args.object c.self.inside.entries c.self.invariant.kept.contexts (sym c.has.ensures ∙ held)
