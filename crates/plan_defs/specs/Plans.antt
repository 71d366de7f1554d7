use Rattle.std.specs.Prelude.{ℕ, suc, ◌≡◌, ◌+◌, ◌<◌, ◌≤◌, ◌==◌, max, All, List, [], ◌∷◌, ◌++◌, length, true}
use Rattle.std.specs.Prelude.{Option, Some, None, if◌then◌else◌, slice_get, slice_set, ⊤}
use Rattle.plan_defs.specs.Types.{Plan, Strikes}
use Rattle.plan_defs.specs.declared.plan.Strikes.TheVariants as strikes
use Rattle.plan_defs.specs.declared.plan.TheConstants.{MOST_EVERY_KINDS, MOST_MEMBER_FAULTS}
use Rattle.nook_data.specs.Members.{faults_at, ops_count}
use Rattle.nook_data.specs.Types.{Fault, PartSpec, Scenario}
use Rattle.nook_data.specs.Valid.{IsValidFault, IsValidKind, IsValidScenario}
use Rattle.nook_data.specs.declared.limits.TheConstants.{MOST_CAMPAIGN_FAULTS, MOST_CAMPAIGN_OPS, MOST_FAULTS}

-- The limits of a campaign, and the scenarios of its members.

-- ---- members

-- a part with some faults after its own
abbrev pub with_faults : List Fault → PartSpec → PartSpec
with_faults faults part = record part { faults = part.faults ++ faults }

-- the parts in which the one at an index is this part with some faults after its own
abbrev pub with_struck_by : List PartSpec → ℕ → List Fault → Option PartSpec → List PartSpec
with_struck_by parts index faults None = parts
with_struck_by parts index faults (Some part) = slice_set parts index (with_faults faults part)

-- the scenario in which the part at an index has some faults after its own
abbrev pub struck_by : Scenario → ℕ → List Fault → Scenario
struck_by scenario index faults =
    record scenario { parts = with_struck_by scenario.parts index faults (slice_get scenario.parts index) }

-- ---- limits

-- 1 to 16 faults
pub record IsValidMember (member : List Fault) : Type 0 where
  pub count : (1 ≤ length member) × (length member ≤ MOST_MEMBER_FAULTS)
  pub faults : All IsValidFault member

-- what strikes is within its limits: 1 to 4,096 members, or 1 to 64 kinds of fault
abbrev pub AreValidStrikes : Strikes → Type 0
AreValidStrikes (strikes.Faults faults) =
    ((1 ≤ length faults) × (length faults ≤ MOST_CAMPAIGN_FAULTS)) × All IsValidFault faults
AreValidStrikes (strikes.Members lists) =
    ((1 ≤ length lists) × (length lists ≤ MOST_CAMPAIGN_FAULTS)) × All IsValidMember lists
AreValidStrikes (strikes.Every kinds) =
    ((1 ≤ length kinds) × (length kinds ≤ MOST_EVERY_KINDS)) × All IsValidKind kinds

-- the length of the longest of some lists
abbrev pub longest_of : List (List Fault) → ℕ
longest_of [] = 0
longest_of (faults ∷ lists) = max (length faults) (longest_of lists)

-- the most faults of one member
abbrev pub most_faults : Strikes → ℕ
most_faults (strikes.Members lists) = longest_of lists
most_faults (strikes.Faults faults) = 1
most_faults (strikes.Every kinds) = 1

-- the number of faults that a part gets: this many if it is the struck one, else 0
abbrev pub more_faults : ℕ → ℕ → ℕ → ℕ
more_faults struck more index = if index == struck then more else 0

-- each of these parts has room for the faults that it gets and for a guard's traps, given the index of the first part
abbrev pub HaveRoom : ℕ → ℕ → ℕ → List PartSpec → Type 0
HaveRoom struck more index [] = ⊤
HaveRoom struck more index (part ∷ parts) =
    (length part.faults + more_faults struck more index + (part.limit + 1) ≤ MOST_FAULTS)
    × HaveRoom struck more (suc index) parts

-- a valid scenario of up to 64 operations, one of its parts, what strikes it, and room for that and for a guard's traps
pub record IsValidPlan (plan : Plan) : Type 0 where
  pub base : IsValidScenario plan.base
  pub part : plan.part < length plan.base.parts
  pub strikes : AreValidStrikes plan.strikes
  pub op_count : ops_count plan.base.threads ≤ MOST_CAMPAIGN_OPS
  pub room : length (faults_at plan.base.parts plan.part) + most_faults plan.strikes ≤ MOST_FAULTS
  pub traps : plan.guard ≡ true → HaveRoom plan.part (most_faults plan.strikes) 0 plan.base.parts
