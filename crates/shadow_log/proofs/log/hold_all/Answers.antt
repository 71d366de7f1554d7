use Rattle.std.proofs.lemmas.List.Edits.{map_over_more}
use Rattle.part_defs.specs.Log.{held_call}
use Rattle.shadow_log.proofs.log.hold_all.Goals as goal

pub loop-entry-preserved : goal.loop-entry-preserved
loop-entry-preserved c = rw (← c.entry-item.is)
    (map_over_more held_call c.args.pending.now c.loop-entry.entry-items c.loop-entry.entry-index c.entry-item.result
    c.loop-entry-test.true c.loop-entry.invariant c.entry-item.is)
