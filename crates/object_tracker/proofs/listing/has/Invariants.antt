use Rattle.std.proofs.Common.{◌≡◌, drop}
use Rattle.std.specs.List.{list_any}
use Rattle.object_tracker.specs.Tracked.{fits}
use Rattle.object_tracker.proofs.listing.has.Given as goal

abbrev pub invariant-loop-index : goal.invariant-loop-index
invariant-loop-index l = list_any (fits l.query) (drop l.index l.entries) ≡ list_any (fits l.query) l.entries
