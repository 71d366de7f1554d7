use Rattle.std.specs.Prelude.{ℕ, ◌+◌, ◌-◌, ◌<◌, ◌≤◌, All, List, [], ◌∷◌, ◌++◌, length, Option, Some, None, slice_get, slice_set}
use Rattle.nook_data.specs.Types.{Campaign, Fault, PartSpec, Scenario, ThreadSpec}
use Rattle.nook_data.specs.declared.limits.TheConstants.{MOST_CAMPAIGN_FAULTS, MOST_CAMPAIGN_OPS, MOST_FAULTS}
use Rattle.nook_data.specs.Valid.{IsValidFault, IsValidScenario}

-- The limits of a campaign, and the scenarios of its members.

-- the faults of a part, or none if there is no part
abbrev pub own_faults : Option PartSpec → List Fault
own_faults None = []
own_faults (Some part) = part.faults

-- the faults of the part at an index
abbrev pub faults_at : List PartSpec → ℕ → List Fault
faults_at parts index = own_faults (slice_get parts index)

-- the number of operations of all threads together
abbrev pub ops_count : List ThreadSpec → ℕ
ops_count [] = 0
ops_count (thread ∷ threads) = length thread.ops + ops_count threads

-- a valid scenario of up to 64 operations, one of its parts, which has room for one more fault, and 1 to 4,096 faults
pub record IsValidCampaign (campaign : Campaign) : Type 0 where
  pub base : IsValidScenario campaign.base
  pub part : campaign.part < length campaign.base.parts
  pub fault_count : (1 ≤ length campaign.faults) × (length campaign.faults ≤ MOST_CAMPAIGN_FAULTS)
  pub faults : All IsValidFault campaign.faults
  pub op_count : ops_count campaign.base.threads ≤ MOST_CAMPAIGN_OPS
  pub room : length (faults_at campaign.base.parts campaign.part) ≤ MOST_FAULTS - 1

-- the part with one more fault after its own
abbrev pub with_fault : Fault → PartSpec → PartSpec
with_fault fault part = record part { faults = part.faults ++ fault ∷ [] }

-- the parts in which the part that a campaign strikes has one more fault
abbrev pub with_struck : List PartSpec → ℕ → Fault → Option PartSpec → List PartSpec
with_struck parts index fault None = parts
with_struck parts index fault (Some part) = slice_set parts index (with_fault fault part)

-- the parts in which the one at an index has one more fault
abbrev pub struck_parts : List PartSpec → ℕ → Fault → List PartSpec
struck_parts parts index fault = with_struck parts index fault (slice_get parts index)

-- the scenario in which the part at an index has one more fault
abbrev pub struck : Scenario → ℕ → Fault → Scenario
struck scenario index fault = record scenario { parts = struck_parts scenario.parts index fault }

-- the scenario of the campaign's member with this fault
abbrev pub member : Campaign → Fault → Scenario
member campaign fault = struck campaign.base campaign.part fault
