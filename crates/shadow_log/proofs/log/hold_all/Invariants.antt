use Rattle.std.proofs.Common.{◌≡◌, ◌++◌, map, take, drop}
use Rattle.part_defs.specs.Log.{held_call}
use Rattle.shadow_log.proofs.log.hold_all.Given as goal

abbrev pub invariant-loop-entry : goal.invariant-loop-entry
invariant-loop-entry l =
    l.entry-items ≡ map held_call (take l.entry-index l.initial.entry-items) ++ drop l.entry-index l.initial.entry-items
