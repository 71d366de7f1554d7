use Rattle.std.specs.Prelude.{List, All, IfOk, IfSome, Option, Result, slice_get}
use Rattle.std.specs.List.{AllZip}
use Rattle.campaign_defs.specs.Members.{Ran}
use Rattle.campaign_defs.specs.Rows.{IsMemberRow}
use Rattle.campaign_defs.specs.Types.{Row}
use Rattle.campaign_rows.specs.Shown.{IsShown}
use Rattle.campaign_rows.specs.declared.shown.Shown.{Shown}
use Rattle.fault_campaign.specs.declared.placing.NumberedRow.{NumberedRow}
use Rattle.nook_data.specs.Types.{Fault}
use Rattle.nook_data.specs.declared.memory.NoMemory.{NoMemory}
use Rattle.plan_defs.specs.Types.{Plan}

-- the row of the member with these faults, compared with any run that has these texts
abbrev pub IsRowFor : Plan → Shown → List Fault → Row → Type 0
IsRowFor plan shown faults row = (own : Ran) → IsShown own shown → IsMemberRow plan own faults row

-- one row for each member, in their order
abbrev pub AreRowsFor : Plan → Shown → List (List Fault) → List Row → Type 0
AreRowsFor plan shown lists rows = AllZip (IsRowFor plan shown) lists rows

-- the row is that of the member with its index
abbrev pub IsRowOfNumber : Plan → Shown → List (List Fault) → NumberedRow → Type 0
IsRowOfNumber plan shown lists numbered = IfSome (slice_get lists numbered.index) (λ faults. IsRowFor plan shown faults numbered.row)

-- the same for all rows of a share, if there are any
abbrev pub IsShare : Plan → Shown → List (List Fault) → Result (List NumberedRow) NoMemory → Type 0
IsShare plan shown lists share = IfOk share (All (IsRowOfNumber plan shown lists))

-- the row in a slot, if there is one, is that of the member
abbrev pub IsSlotOf : Plan → Shown → List Fault → Option Row → Type 0
IsSlotOf plan shown faults slot = IfSome slot (IsRowFor plan shown faults)

-- one slot for each member, in their order
abbrev pub AreSlots : Plan → Shown → List (List Fault) → List (Option Row) → Type 0
AreSlots plan shown lists slots = AllZip (IsSlotOf plan shown) lists slots
