use Rattle.std.proofs.Common.{◌≡◌, ◌++◌, take, drop}
use Rattle.machine_defs.specs.Entries.{with_entry}
use Rattle.object_tracker.proofs.listing.position_of.Given as goal

abbrev pub invariant-loop-index : goal.invariant-loop-index
invariant-loop-index l = with_entry l.entry l.entries ≡ take l.index l.entries ++ with_entry l.entry (drop l.index l.entries)
