use Rattle.std.proofs.Common.{◌≡◌, ◌+◌, ◌-◌}
use Rattle.machine_defs.specs.Entries.{lowest_run}
use Rattle.object_tracker.proofs.heap.lowest_run.Given as goal

abbrev pub invariant-loop-start : goal.invariant-loop-start
invariant-loop-start l =
    lowest_run (4097 - (l.start + l.n)) l.entries l.start l.n ≡ lowest_run (4097 - (l.heap_start + l.n)) l.entries l.heap_start l.n
