use Rattle.std.proofs.Common.{◌≡◌, drop}
use Rattle.std.specs.List.{list_any}
use Rattle.machine_defs.specs.Entries.{covers_some}
use Rattle.object_tracker.proofs.heap.is_free_run.Given as goal

abbrev pub invariant-loop-index : goal.invariant-loop-index
invariant-loop-index l = list_any (covers_some l.start l.n) (drop l.index l.entries) ≡ list_any (covers_some l.start l.n) l.entries
