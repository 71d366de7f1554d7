use Rattle.std.proofs.Common.{◌≡◌, ◌≤◌, take, count_by}
use Rattle.machine_defs.specs.Entries.{is_heap_use}
use Rattle.object_tracker.proofs.heap.heap_count.Given as goal

abbrev pub invariant-loop-index : goal.invariant-loop-index
invariant-loop-index l = (l.count ≤ l.index) × (l.count ≡ count_by is_heap_use (take l.index l.entries))
