use Rattle.std.proofs.Common.{subst, sym}
use Rattle.fault_campaign.specs.NumberedRows.{AreSlots}
use Rattle.fault_campaign.proofs.Placings.{row_numbered}
use Rattle.fault_campaign.proofs.placing.put_share.Goals as goal
use Rattle.fault_campaign.proofs.placing.put_share.Goals.{then-numbered-slots, else-numbered-slots}

pub loop-numbered-preserved : goal.loop-numbered-preserved
loop-numbered-preserved c plan shown lists are slots =
    let before = c.loop-numbered.invariant plan shown lists are slots in
    let new = are c.loop-numbered.numbered-index _ c.loop-numbered-test.true in
    elim c.if-numbered-slots.branch [
      | then-numbered-slots w ↦ subst (AreSlots plan shown lists) (sym w.slots-is)
          (row_numbered plan shown lists c.loop-numbered.slots _ before new)
      | else-numbered-slots w ↦ subst (AreSlots plan shown lists) (sym w.slots-is) before
    ]
