use Rattle.std.proofs.Common.{List}
use Rattle.std.specs.Prelude.{All}
use Rattle.campaign_rows.specs.declared.shown.Shown.{Shown}
use Rattle.fault_campaign.specs.NumberedRows.{AreSlots, IsRowOfNumber}
use Rattle.nook_data.specs.declared.scenario.Fault.{Fault}
use Rattle.plan_defs.specs.declared.plan.Plan.{Plan}
use Rattle.fault_campaign.proofs.placing.put_share.Given as goal

abbrev pub invariant-loop-numbered : goal.invariant-loop-numbered
invariant-loop-numbered l = (plan : Plan) (shown : Shown) (lists : List (List Fault)) → All (IsRowOfNumber plan shown lists) l.rows
    → AreSlots plan shown lists l.initial.slots → AreSlots plan shown lists l.slots
