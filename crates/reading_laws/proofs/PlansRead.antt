-- A campaign with members, kinds of fault, a guard and details that was read is within its limits.
use Rattle.std.proofs.Common.{◌≡◌, ℕ, suc, ◌+◌, ◌-◌, ◌≤◌, Bool, true, false, nat_lt, List, [], ◌∷◌, length, Option, Some, None, arith}
use Rattle.std.specs.Prelude.{Result, Ok, IfOk, All, ⊤}
use Rattle.serde_json.specs.Data.{Data}
use Rattle.serde_json.specs.Find.{get}
use Rattle.asm_defs.specs.Keys.{key_text}
use Rattle.asm_defs.specs.Results.{◌>>=◌}
use Rattle.input_defs.specs.CampaignReading.{check_ops, member_faults_of}
use Rattle.nook_data.specs.FaultNames.{fault_named}
use Rattle.input_defs.specs.PartReading.{fault_keys, fault_kind, fault_of}
use Rattle.input_defs.specs.PlanReading.{check_base, check_choice, check_count, check_guard, check_traps, flag_of, has_key}
use Rattle.input_defs.specs.PlanReading.{kind_of, kinds_of, member_lists_of, member_of, plan_from, plan_of, strikes_of}
use Rattle.input_defs.specs.Reading.{is_object, json_of, named_of, number_at, object_with, optional, refuse_if, required, under}
use Rattle.input_defs.specs.ScenarioReading.{scenario_of}
use Rattle.nook_data.specs.Members.{faults_at, ops_count}
use Rattle.nook_data.specs.Valid.{IsValidFault, IsValidKind, IsValidScenario}
use Rattle.nook_data.specs.declared.scenario.Fault.{Fault}
use Rattle.nook_data.specs.declared.scenario.FaultKind.{FaultKind}
use Rattle.nook_data.specs.declared.scenario.PartSpec.{PartSpec}
use Rattle.nook_data.specs.declared.scenario.Scenario.{Scenario}
use Rattle.plan_defs.specs.Plans.{AreValidStrikes, HaveRoom, IsValidMember, IsValidPlan, more_faults, most_faults}
use Rattle.plan_defs.specs.declared.plan.Plan.{Plan}
use Rattle.plan_defs.specs.declared.plan.Strikes.{Strikes}
use Rattle.plan_defs.specs.declared.plan.Strikes.TheVariants as strikes
use Rattle.nook_data.specs.declared.scenario.FaultName.{FaultName}
use Rattle.input_defs.specs.declared.input.InputFault.TheVariants as fault
use Rattle.asm_defs.specs.declared.keys.Key.TheVariants as key
use Rattle.input_defs.specs.declared.input.PathStep.TheVariants as step
use Rattle.input_defs.specs.declared.input.Refusal.{Refusal}
use Rattle.reading_laws.proofs.CampaignsRead.{at_most, faults_hold, ops_hold}
use Rattle.reading_laws.proofs.PartsRead.{fault_holds, kind_holds}
use Rattle.reading_laws.proofs.Readings.{IsBetween, Listed, beneath, chained, each_holds, less, number_at_holds, passed, required_holds}
use Rattle.reading_laws.proofs.ScenariosRead.{scenario_holds}

-- ---- what strikes

valid_member : (member : List Fault) → Listed (All IsValidFault) 1 16 member → IsValidMember member
valid_member member h = record { count = (h.1, h.2); faults = h.0 }

member_holds : (d : Data) → IfOk (member_of d) IsValidMember
member_holds d =
    less (Listed (All IsValidFault) 1 16) IsValidMember (member_of d)
    (each_holds IsValidFault (λ earlier. fault_of) 1 16 (λ earlier. fault_holds) d) valid_member

lists_hold : (d : Data) → IfOk (member_lists_of d) (Listed (All IsValidMember) 1 4096)
lists_hold d = each_holds IsValidMember (λ earlier. member_of) 1 4096 (λ earlier. member_holds) d

abbrev checks_kind : Data → FaultName → Result FaultKind Refusal
checks_kind d name = object_with (key.Kind ∷ fault_keys name) d >>= λ known. fault_kind name d

one_kind_holds : (d : Data) → IfOk (kind_of d) IsValidKind
unfolding kind_of
one_kind_holds d =
    passed IsValidKind (is_object d) (λ members. required key.Kind (named_of fault_named) d >>= checks_kind d)
    (λ members. passed IsValidKind (required key.Kind (named_of fault_named) d) (checks_kind d)
    (λ name. passed IsValidKind (object_with (key.Kind ∷ fault_keys name) d) (λ known. fault_kind name d) (λ known. kind_holds name d)))

kinds_hold : (d : Data) → IfOk (kinds_of d) (Listed (All IsValidKind) 1 64)
kinds_hold d = each_holds IsValidKind (λ earlier. kind_of) 1 64 (λ earlier. one_kind_holds) d

strikes_hold : (every lists : Option Data) (d : Data) → IfOk (strikes_of every lists d) AreValidStrikes
strikes_hold (Some inside) lists d =
    chained (Listed (All IsValidKind) 1 64) AreValidStrikes (under (step.At key.Every) (kinds_of inside))
    (λ kinds. let read : Result Strikes Refusal = Ok (strikes.Every kinds) in read)
    (beneath (Listed (All IsValidKind) 1 64) (step.At key.Every) (kinds_of inside) (kinds_hold inside)) (λ kinds h. ((h.1, h.2), h.0))
strikes_hold None (Some inside) d =
    chained (Listed (All IsValidMember) 1 4096) AreValidStrikes (under (step.At key.Members) (member_lists_of inside))
    (λ lists. let read : Result Strikes Refusal = Ok (strikes.Members lists) in read)
    (beneath (Listed (All IsValidMember) 1 4096) (step.At key.Members) (member_lists_of inside) (lists_hold inside)) (λ lists h. ((h.1, h.2), h.0))
strikes_hold None None d =
    chained (Listed (All IsValidFault) 1 4096) AreValidStrikes (required key.Faults member_faults_of d)
    (λ faults. let read : Result Strikes Refusal = Ok (strikes.Faults faults) in read)
    (required_holds (Listed (All IsValidFault) 1 4096) key.Faults member_faults_of d faults_hold) (λ faults h. ((h.1, h.2), h.0))

-- ---- limits

count_holds : (index count : ℕ) → IfOk (check_count index count) (λ _. count ≤ 64)
count_holds index count =
    let check = refuse_if (nat_lt 64 count) fault.TooMany in
    let P = λ (passes : ⊤). count ≤ 64 in
    beneath P (step.At key.Base) (under (step.At key.Parts) (under (step.Position index) (under (step.At key.Faults) check)))
    (beneath P (step.At key.Parts) (under (step.Position index) (under (step.At key.Faults) check))
    (beneath P (step.Position index) (under (step.At key.Faults) check) (beneath P (step.At key.Faults) check (at_most 64 count))))

traps_hold : (struck more index : ℕ) (parts : List PartSpec) → IfOk (check_traps struck more index parts) (λ _. HaveRoom struck more index parts)
traps_hold struck more index [] = tt
traps_hold struck more index (part ∷ parts) =
    let count = length part.faults + more_faults struck more index + (part.limit + 1) in
    chained (λ _. count ≤ 64) (λ _. HaveRoom struck more index (part ∷ parts)) (check_count index count)
    (λ room. check_traps struck more (suc index) parts) (count_holds index count)
    (λ room h. less (λ _. HaveRoom struck more (suc index) parts) (λ _. HaveRoom struck more index (part ∷ parts))
    (check_traps struck more (suc index) parts) (traps_hold struck more (suc index) parts) (λ passes k. (h, k)))

guard_holds : (guard : Bool) (struck more : ℕ) (parts : List PartSpec)
    → IfOk (check_guard guard struck more parts) (λ _. guard ≡ true → HaveRoom struck more 0 parts)
guard_holds true struck more parts =
    less (λ _. HaveRoom struck more 0 parts) (λ _. true ≡ true → HaveRoom struck more 0 parts) (check_traps struck more 0 parts)
    (traps_hold struck more 0 parts) (λ passes h e. h)
guard_holds false struck more parts = λ e. absurd (cc e)

-- what the limits say of a scenario whose part with this index gets up to `more` faults, with or without a guard
abbrev HasRoom : Scenario → ℕ → ℕ → Bool → Type 0
HasRoom base part more guard =
    (ops_count base.threads ≤ 64) × (length (faults_at base.parts part) + more ≤ 64) × (guard ≡ true → HaveRoom part more 0 base.parts)

base_holds : (base : Scenario) (part more : ℕ) (guard : Bool) → IfOk (check_base base part more guard) (λ _. HasRoom base part more guard)
base_holds base part more guard =
    let count = length (faults_at base.parts part) + more in
    chained (λ _. ops_count base.threads ≤ 64) (λ _. HasRoom base part more guard) (check_ops base.threads)
    (λ few. check_count part count >>= λ room. check_guard guard part more base.parts) (ops_hold base.threads)
    (λ few h. chained (λ _. count ≤ 64) (λ _. HasRoom base part more guard) (check_count part count)
    (λ room. check_guard guard part more base.parts) (count_holds part count)
    (λ room k. less (λ _. guard ≡ true → HaveRoom part more 0 base.parts) (λ _. HasRoom base part more guard)
    (check_guard guard part more base.parts) (guard_holds guard part more base.parts) (λ passes t. (h, k, t))))

-- ---- campaigns

abbrev plan_with : Scenario → ℕ → Strikes → Bool → Bool → Plan
plan_with base part chosen guard detail = record { base = base; part = part; strikes = chosen; guard = guard; detail = detail }

valid_plan : (base : Scenario) (part : ℕ) (chosen : Strikes) (guard detail : Bool) → IsValidScenario base → IsBetween 0 (length base.parts - 1) part
    → AreValidStrikes chosen → HasRoom base part (most_faults chosen) guard → IsValidPlan (plan_with base part chosen guard detail)
valid_plan base part chosen guard detail hb hp hs hl = record {
  base = hb;
  part = omega (arith, hb.part_count.0, hp.1);
  strikes = hs;
  op_count = hl.0;
  room = hl.1;
  traps = hl.2;
}

-- the steps of the reading, last to first

abbrev reads_limits : Scenario → ℕ → Strikes → Bool → Bool → Result Plan Refusal
reads_limits base part chosen guard detail =
    check_base base part (most_faults chosen) guard >>= λ limits. let read : Result Plan Refusal = Ok (plan_with base part chosen guard detail) in read

abbrev reads_detail : Data → Scenario → ℕ → Strikes → Bool → Result Plan Refusal
reads_detail d base part chosen guard = optional key.Detail flag_of false d >>= reads_limits base part chosen guard

abbrev reads_guard : Data → Scenario → ℕ → Strikes → Result Plan Refusal
reads_guard d base part chosen = optional key.Guard flag_of false d >>= reads_detail d base part chosen

abbrev reads_strikes : Data → Scenario → ℕ → Result Plan Refusal
reads_strikes d base part = strikes_of (get (key_text key.Every) d) (get (key_text key.Members) d) d >>= reads_guard d base part

abbrev reads_part : Data → Scenario → Result Plan Refusal
reads_part d base = number_at key.Part 0 (length base.parts - 1) d >>= reads_strikes d base

abbrev reads_base : Data → Result Plan Refusal
reads_base d = required key.Base scenario_of d >>= reads_part d

abbrev checks_choice : Data → Result ⊤ Refusal
checks_choice d = check_choice (has_key key.Faults d) (has_key key.Members d) (has_key key.Every d)

limits_then : (base : Scenario) (part : ℕ) (chosen : Strikes) (guard detail : Bool) → IsValidScenario base → IsBetween 0 (length base.parts - 1) part
    → AreValidStrikes chosen → IfOk (reads_limits base part chosen guard detail) IsValidPlan
limits_then base part chosen guard detail hb hp hs =
    chained (λ _. HasRoom base part (most_faults chosen) guard) IsValidPlan (check_base base part (most_faults chosen) guard)
    (λ limits. let read : Result Plan Refusal = Ok (plan_with base part chosen guard detail) in read) (base_holds base part (most_faults chosen) guard)
    (λ limits hl. valid_plan base part chosen guard detail hb hp hs hl)

options_then : (d : Data) (base : Scenario) (part : ℕ) (chosen : Strikes) → IsValidScenario base → IsBetween 0 (length base.parts - 1) part
    → AreValidStrikes chosen → IfOk (reads_guard d base part chosen) IsValidPlan
options_then d base part chosen hb hp hs =
    passed IsValidPlan (optional key.Guard flag_of false d) (reads_detail d base part chosen)
    (λ guard. passed IsValidPlan (optional key.Detail flag_of false d) (reads_limits base part chosen guard)
    (λ detail. limits_then base part chosen guard detail hb hp hs))

part_then : (d : Data) (base : Scenario) → IsValidScenario base → IfOk (reads_part d base) IsValidPlan
part_then d base hb =
    chained (IsBetween 0 (length base.parts - 1)) IsValidPlan (number_at key.Part 0 (length base.parts - 1) d) (reads_strikes d base)
    (number_at_holds key.Part 0 (length base.parts - 1) d)
    (λ part hp. chained AreValidStrikes IsValidPlan (strikes_of (get (key_text key.Every) d) (get (key_text key.Members) d) d) (reads_guard d base part)
    (strikes_hold (get (key_text key.Every) d) (get (key_text key.Members) d) d)
    (λ chosen hs. options_then d base part chosen hb hp hs))

base_then : (d : Data) → IfOk (reads_base d) IsValidPlan
base_then d =
    chained IsValidScenario IsValidPlan (required key.Base scenario_of d) (reads_part d)
    (required_holds IsValidScenario key.Base scenario_of d scenario_holds) (λ base hb. part_then d base hb)

pub plan_holds : (d : Data) → IfOk (plan_of d) IsValidPlan
unfolding plan_of
plan_holds d =
    passed IsValidPlan (object_with (key.Base ∷ key.Part ∷ key.Faults ∷ key.Members ∷ key.Every ∷ key.Guard ∷ key.Detail ∷ []) d)
    (λ known. checks_choice d >>= λ one. reads_base d)
    (λ known. passed IsValidPlan (checks_choice d) (λ one. reads_base d) (λ one. base_then d))

pub plan_is_valid : (bytes : List ℕ) → IfOk (plan_from bytes) IsValidPlan
unfolding plan_from
plan_is_valid bytes = passed IsValidPlan (json_of bytes) plan_of plan_holds
