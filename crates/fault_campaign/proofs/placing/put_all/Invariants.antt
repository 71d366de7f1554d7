use Rattle.std.proofs.Common.{◌≡◌, List, length}
use Rattle.std.specs.Prelude.{All}
use Rattle.campaign_rows.specs.declared.shown.Shown.{Shown}
use Rattle.fault_campaign.specs.NumberedRows.{AreSlots, IsShare}
use Rattle.nook_data.specs.declared.scenario.Fault.{Fault}
use Rattle.plan_defs.specs.declared.plan.Plan.{Plan}
use Rattle.fault_campaign.proofs.placing.put_all.Given as goal

abbrev pub invariant-loop-share : goal.invariant-loop-share
invariant-loop-share l = (plan : Plan) (shown : Shown) (lists : List (List Fault)) → length lists ≡ l.count
    → All (IsShare plan shown lists) l.shares → AreSlots plan shown lists l.slots.items
