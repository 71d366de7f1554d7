use Rattle.std.proofs.Common.{◌≡◌, take}
use Rattle.machine_defs.specs.Entries.{released}
use Rattle.object_tracker.proofs.listing.held.Given as goal

abbrev pub invariant-loop-index : goal.invariant-loop-index
invariant-loop-index l = l.made ≡ released (take l.index l.entries)
