use Rattle.std.proofs.Common.{◌∙◌, sym, ap, not}
use Rattle.object_tracker.specs.Tracked.{fits}
use Rattle.object_tracker.proofs.Steps.{end_one}
use Rattle.object_tracker.proofs.listing.end_at.Goals as goal

pub returns-then-fits-clause-same : goal.returns-then-fits-clause-same
returns-then-fits-clause-same c =
    rw c.remove.ensures (end_one (λ e. not (fits c.args.query e)) c.args.entries.now c.args.index c.get.result c.requires.index
    (rw c.get.ensures (ap not (sym c.fits.ensures ∙ c.if-fits.true))))
