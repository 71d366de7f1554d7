use Rattle.std.proofs.Common.{take}
use Rattle.fault_campaign.specs.NumberedRows.{AreRowsFor}
use Rattle.fault_campaign.proofs.running.fill_rows.Given as goal

abbrev pub invariant-loop-index : goal.invariant-loop-index
invariant-loop-index l = AreRowsFor l.plan l.seen.shown.now (take l.index l.members) l.rows.items
