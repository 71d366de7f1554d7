use Rattle.std.proofs.Common.{◌≡◌, drop}
use Rattle.machine_defs.specs.Entries.{borrow_start}
use Rattle.object_tracker.proofs.listing.borrow_start.Given as goal

abbrev pub invariant-loop-index : goal.invariant-loop-index
invariant-loop-index l = borrow_start l.query (drop l.index l.entries) ≡ borrow_start l.query l.entries
