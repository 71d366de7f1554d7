use Rattle.std.proofs.Common.{◌≡◌, ◌++◌, length, take, drop}
use Rattle.machine_defs.specs.Entries.{registered}
use Rattle.object_tracker.proofs.listing.set_live.Given as goal

abbrev pub invariant-loop-index : goal.invariant-loop-index
invariant-loop-index l =
    (length l.entries ≡ length l.initial.entries)
    × (l.entries ≡ registered l.live (take l.index l.initial.entries) ++ drop l.index l.initial.entries)
