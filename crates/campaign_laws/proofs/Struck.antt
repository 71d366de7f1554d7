-- The scenarios of a valid plan can be run: the struck part has room for a member's faults, each part for its traps.
use Rattle.std.proofs.Common.{◌≡◌, ◌∙◌, ◌≤◌, refl, sym, subst, ap, ℕ, zero, suc, ◌+◌, if◌then◌else◌, Bool, true, List, [], ◌∷◌, length, All, Option, Some, None, slice_get, arith, length-append}
use Rattle.std.proofs.lemmas.Bool.{eq-eqb}
use Rattle.std.proofs.lemmas.List.Elements.{All-append, All-cons, All-head, All-nil, All-same, All-tail}
use Rattle.campaign_defs.specs.Members.{CanRunMember, CanRunUnder}
use Rattle.guard_defs.specs.Guard.{HasRoom}
use Rattle.plan_defs.specs.Plans.{HaveRoom, IsValidPlan, more_faults, most_faults, struck_by, with_faults, with_struck_by}
use Rattle.plan_defs.specs.Types.{Plan}
use Rattle.nook_data.specs.Members.{faults_at}
use Rattle.nook_data.specs.Valid.{FitsClass, IsValidFault, IsValidPart, IsValidScenario, IsValidThread, are_distinct, part_names}
use Rattle.nook_data.specs.declared.classes.Class.{Class}
use Rattle.nook_data.specs.declared.classes.Class.TheVariants as class
use Rattle.nook_data.specs.declared.scenario.Fault.{Fault}
use Rattle.nook_data.specs.declared.scenario.PartSpec.{PartSpec}
use Rattle.nook_data.specs.declared.scenario.Scenario.{Scenario}

-- the parts, with some more faults in the one at an index
abbrev struck_list : List PartSpec → ℕ → List Fault → List PartSpec
struck_list parts index faults = with_struck_by parts index faults (slice_get parts index)

struck_later : (part : PartSpec) (more : List PartSpec) (index : ℕ) (faults : List Fault) (o : Option PartSpec)
    → with_struck_by (part ∷ more) (suc index) faults o ≡ part ∷ with_struck_by more index faults o
struck_later part more index faults None = refl
struck_later part more index faults (Some x) = refl

-- ---- the limits

still_fits : (c : Class) (faults : List Fault) (part : PartSpec) → FitsClass c part → FitsClass c (with_faults faults part)
still_fits class.Block faults part h = h
still_fits class.Net faults part h = h
still_fits class.Sound faults part h = h

still_valid : (faults : List Fault) (part : PartSpec) → IsValidPart part → length part.faults + length faults ≤ 64
    → All IsValidFault faults → IsValidPart (with_faults faults part)
still_valid faults part h few are = record {
  name = h.name;
  fits = still_fits part.class faults part h.fits;
  bad_count = h.bad_count;
  bad = h.bad;
  limit = h.limit;
  class = h.class;
  image = h.image;
  fault_count = omega (arith, few, length-append part.faults faults);
  faults = All-append IsValidFault part.faults faults h.faults are;
}

parts_valid : (parts : List PartSpec) (index : ℕ) (faults : List Fault) → All IsValidPart parts
    → length (faults_at parts index) + length faults ≤ 64 → All IsValidFault faults → All IsValidPart (struck_list parts index faults)
parts_valid [] index faults h few are = h
parts_valid (part ∷ more) zero faults h few are =
    All-cons IsValidPart (with_faults faults part) more (still_valid faults part (All-head IsValidPart part more h) few are)
    (All-tail IsValidPart part more h)
parts_valid (part ∷ more) (suc index) faults h few are =
    All-same IsValidPart (struck_list (part ∷ more) (suc index) faults) (part ∷ struck_list more index faults)
    (struck_later part more index faults (slice_get more index))
    (All-cons IsValidPart part (struck_list more index faults) (All-head IsValidPart part more h)
    (parts_valid more index faults (All-tail IsValidPart part more h) few are))

same_names : (parts : List PartSpec) (index : ℕ) (faults : List Fault) → part_names (struck_list parts index faults) ≡ part_names parts
same_names [] index faults = refl
same_names (part ∷ more) zero faults = refl
same_names (part ∷ more) (suc index) faults =
    ap part_names (struck_later part more index faults (slice_get more index))
    ∙ ap (λ (names : List (List ℕ)). part.name ∷ names) (same_names more index faults)

same_count : (parts : List PartSpec) (index : ℕ) (faults : List Fault) → length (struck_list parts index faults) ≡ length parts
same_count [] index faults = refl
same_count (part ∷ more) zero faults = refl
same_count (part ∷ more) (suc index) faults =
    ap length (struck_later part more index faults (slice_get more index)) ∙ ap suc (same_count more index faults)

-- a scenario with some more faults in one part, which has room for them
pub struck_is_valid : (scenario : Scenario) (index : ℕ) (faults : List Fault) → IsValidScenario scenario
    → length (faults_at scenario.parts index) + length faults ≤ 64 → All IsValidFault faults
    → IsValidScenario (struck_by scenario index faults)
struck_is_valid scenario index faults h few are =
    let parts = scenario.parts in
    let count : length (struck_list parts index faults) ≡ length parts = same_count parts index faults in
    record {
      schedule = h.schedule;
      part_count = (omega (arith, count, h.part_count.0), omega (arith, count, h.part_count.1));
      parts = parts_valid parts index faults h.parts few are;
      part_names = ap are_distinct (same_names parts index faults) ∙ h.part_names;
      thread_count = h.thread_count;
      threads = subst (λ (n : ℕ). All (IsValidThread n) scenario.threads) (sym count) h.threads;
      thread_names = h.thread_names;
    }

-- ---- room for a guard's traps

room_with : (part : PartSpec) (faults : List Fault) (more : ℕ) → length part.faults + more + (part.limit + 1) ≤ 64
    → length faults ≤ more → HasRoom (with_faults faults part)
room_with part faults more room few = omega (arith, room, few, length-append part.faults faults)

-- each part has room for its own traps
pub have_own_room : (struck more index : ℕ) (parts : List PartSpec) → HaveRoom struck more index parts → All HasRoom parts
have_own_room struck more index [] h = All-nil HasRoom
have_own_room struck more index (part ∷ parts) h =
    let first = h.0 in
    All-cons HasRoom part parts (omega (arith, first)) (have_own_room struck more (suc index) parts h.1)

-- the same if the struck part has its faults
struck_have_room : (struck more index rest_after : ℕ) (parts : List PartSpec) (faults : List Fault) → index + rest_after ≡ struck
    → length faults ≤ more → HaveRoom struck more index parts → All HasRoom (struck_list parts rest_after faults)
struck_have_room struck more index rest_after [] faults e few h = All-nil HasRoom
struck_have_room struck more index zero (part ∷ parts) faults e few h =
    let here : index ≡ struck = omega (arith, e) in
    let gets : more_faults struck more index ≡ more = ap (λ (b : Bool). if b then more else 0) (eq-eqb index struck here) in
    let room : length part.faults + more + (part.limit + 1) ≤ 64 =
    subst (λ (n : ℕ). length part.faults + n + (part.limit + 1) ≤ 64) gets h.0 in
    All-cons HasRoom (with_faults faults part) parts (room_with part faults more room few)
    (have_own_room struck more (suc index) parts h.1)
struck_have_room struck more index (suc rest_after) (part ∷ parts) faults e few h =
    let first = h.0 in
    All-same HasRoom (struck_list (part ∷ parts) (suc rest_after) faults) (part ∷ struck_list parts rest_after faults)
    (struck_later part parts rest_after faults (slice_get parts rest_after))
    (All-cons HasRoom part (struck_list parts rest_after faults) (omega (arith, first))
    (struck_have_room struck more (suc index) rest_after parts faults (omega (arith, e)) few h.1))

-- ---- plans

pub base_can_run : (plan : Plan) → IsValidPlan plan → CanRunUnder plan.guard plan.base
base_can_run plan valid = record {
  valid = valid.base;
  room = λ guarded. have_own_room plan.part (most_faults plan.strikes) 0 plan.base.parts (valid.traps guarded);
}

-- the scenario of a valid plan with some valid faults, at most as many as a member has
pub member_is_valid : (plan : Plan) (faults : List Fault) → IsValidPlan plan → All IsValidFault faults
    → length faults ≤ most_faults plan.strikes → IsValidScenario (struck_by plan.base plan.part faults)
member_is_valid plan faults valid are few =
    struck_is_valid plan.base plan.part faults valid.base (omega (arith, few, valid.room)) are

-- the same with a guard: each part has room for its traps
pub member_has_room : (plan : Plan) (faults : List Fault) → IsValidPlan plan → length faults ≤ most_faults plan.strikes
    → plan.guard ≡ true → All HasRoom (struck_by plan.base plan.part faults).parts
member_has_room plan faults valid few guarded =
    struck_have_room plan.part (most_faults plan.strikes) 0 plan.part plan.base.parts faults (omega arith) few (valid.traps guarded)

pub member_can_run : (plan : Plan) (faults : List Fault) → IsValidPlan plan → All IsValidFault faults
    → length faults ≤ most_faults plan.strikes → CanRunMember plan faults
member_can_run plan faults valid are few = record {
  valid = member_is_valid plan faults valid are few;
  room = member_has_room plan faults valid few;
}
