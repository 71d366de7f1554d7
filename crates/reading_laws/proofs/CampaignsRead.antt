-- A campaign that was read is within its limits.
use Rattle.std.proofs.Common.{◌≡◌, refl, ℕ, ◌-◌, ◌≤◌, Bool, true, false, nat_lt, List, [], ◌∷◌, length, arith}
use Rattle.std.specs.Prelude.{Result, Ok, IfOk, All, ⊤}
use Rattle.std.proofs.lemmas.Bool.{ltb-false}
use Rattle.serde_json.specs.Data.{Data}
use Rattle.input_defs.specs.CampaignReading.{campaign_from, campaign_of, check_base, check_ops, check_own_faults}
use Rattle.input_defs.specs.CampaignReading.{member_faults_of}
use Rattle.nook_data.specs.Members.{IsValidCampaign, faults_at, ops_count}
use Rattle.input_defs.specs.PartReading.{fault_of}
use Rattle.input_defs.specs.Reading.{json_of, number_at, object_with, refuse_if, required, under}
use Rattle.asm_defs.specs.Results.{◌>>=◌}
use Rattle.input_defs.specs.ScenarioReading.{scenario_of}
use Rattle.nook_data.specs.Valid.{IsValidFault, IsValidScenario}
use Rattle.nook_data.specs.declared.campaign.Campaign.{Campaign}
use Rattle.nook_data.specs.declared.scenario.Fault.{Fault}
use Rattle.nook_data.specs.declared.scenario.Scenario.{Scenario}
use Rattle.nook_data.specs.declared.scenario.ThreadSpec.{ThreadSpec}
use Rattle.input_defs.specs.declared.input.InputFault.{InputFault}
use Rattle.input_defs.specs.declared.input.InputFault.TheVariants as fault
use Rattle.asm_defs.specs.declared.keys.Key.TheVariants as key
use Rattle.input_defs.specs.declared.input.PathStep.TheVariants as step
use Rattle.input_defs.specs.declared.input.Refusal.{Refusal}
use Rattle.reading_laws.proofs.PartsRead.{fault_holds}
use Rattle.reading_laws.proofs.Readings.{IsBetween, Listed, beneath, chained, each_holds, less, number_at_holds, passed, required_holds}
use Rattle.reading_laws.proofs.ScenariosRead.{scenario_holds}

-- ---- faults

pub faults_hold : (d : Data) → IfOk (member_faults_of d) (Listed (All IsValidFault) 1 4096)
faults_hold d = each_holds IsValidFault (λ earlier. fault_of) 1 4096 (λ earlier. fault_holds) d

-- ---- limits of the scenario

-- if nothing was refused, the test was false
unrefused : (test : Bool) (why : InputFault) → IfOk (refuse_if test why) (λ _. test ≡ false)
unrefused true why = tt
unrefused false why = refl

pub at_most : (most n : ℕ) → IfOk (refuse_if (nat_lt most n) fault.TooMany) (λ _. n ≤ most)
at_most most n =
    less (λ _. nat_lt most n ≡ false) (λ _. n ≤ most) (refuse_if (nat_lt most n) fault.TooMany) (unrefused (nat_lt most n) fault.TooMany)
    (λ passes h. ltb-false most n h)

pub ops_hold : (threads : List ThreadSpec) → IfOk (check_ops threads) (λ _. ops_count threads ≤ 64)
ops_hold threads =
    beneath (λ _. ops_count threads ≤ 64) (step.At key.Base) (under (step.At key.Threads) (refuse_if (nat_lt 64 (ops_count threads)) fault.TooMany))
    (beneath (λ _. ops_count threads ≤ 64) (step.At key.Threads) (refuse_if (nat_lt 64 (ops_count threads)) fault.TooMany) (at_most 64 (ops_count threads)))

own_hold : (part : ℕ) (own : List Fault) → IfOk (check_own_faults part own) (λ _. length own ≤ 63)
own_hold part own =
    let check = refuse_if (nat_lt 63 (length own)) fault.TooMany in
    let P = λ (passes : ⊤). length own ≤ 63 in
    beneath P (step.At key.Base) (under (step.At key.Parts) (under (step.Position part) (under (step.At key.Faults) check)))
    (beneath P (step.At key.Parts) (under (step.Position part) (under (step.At key.Faults) check))
    (beneath P (step.Position part) (under (step.At key.Faults) check) (beneath P (step.At key.Faults) check (at_most 63 (length own)))))

abbrev HasRoom : Scenario → ℕ → Type 0
HasRoom base part = (ops_count base.threads ≤ 64) × (length (faults_at base.parts part) ≤ 63)

base_holds : (base : Scenario) (part : ℕ) → IfOk (check_base base part) (λ _. HasRoom base part)
base_holds base part =
    chained (λ _. ops_count base.threads ≤ 64) (λ _. HasRoom base part) (check_ops base.threads)
    (λ few. check_own_faults part (faults_at base.parts part)) (ops_hold base.threads)
    (λ few h. less (λ _. length (faults_at base.parts part) ≤ 63) (λ _. HasRoom base part) (check_own_faults part (faults_at base.parts part))
    (own_hold part (faults_at base.parts part)) (λ passes k. (h, k)))

-- ---- campaigns

abbrev campaign_with : Scenario → ℕ → List Fault → Campaign
campaign_with base part faults = record { base = base; part = part; faults = faults }

valid_campaign : (base : Scenario) (part : ℕ) (faults : List Fault) → IsValidScenario base → IsBetween 0 (length base.parts - 1) part
    → Listed (All IsValidFault) 1 4096 faults → HasRoom base part → IsValidCampaign (campaign_with base part faults)
valid_campaign base part faults hb hp hf hl = record {
  base = hb;
  part = omega (arith, hb.part_count.0, hp.1);
  fault_count = (hf.1, hf.2);
  faults = hf.0;
  op_count = hl.0;
  room = hl.1;
}

-- the steps of the reading, last to first

abbrev reads_limits : Scenario → ℕ → List Fault → Result Campaign Refusal
reads_limits base part faults = check_base base part >>= λ limits. let read : Result Campaign Refusal = Ok (campaign_with base part faults) in read

abbrev reads_faults : Data → Scenario → ℕ → Result Campaign Refusal
reads_faults d base part = required key.Faults member_faults_of d >>= reads_limits base part

abbrev reads_part : Data → Scenario → Result Campaign Refusal
reads_part d base = number_at key.Part 0 (length base.parts - 1) d >>= reads_faults d base

limits_then : (base : Scenario) (part : ℕ) (faults : List Fault) → IsValidScenario base → IsBetween 0 (length base.parts - 1) part
    → Listed (All IsValidFault) 1 4096 faults → IfOk (reads_limits base part faults) IsValidCampaign
limits_then base part faults hb hp hf =
    chained (λ _. HasRoom base part) IsValidCampaign (check_base base part)
    (λ limits. let read : Result Campaign Refusal = Ok (campaign_with base part faults) in read) (base_holds base part)
    (λ limits hl. valid_campaign base part faults hb hp hf hl)

part_then : (d : Data) (base : Scenario) → IsValidScenario base → IfOk (reads_part d base) IsValidCampaign
part_then d base hb =
    chained (IsBetween 0 (length base.parts - 1)) IsValidCampaign (number_at key.Part 0 (length base.parts - 1) d) (reads_faults d base)
    (number_at_holds key.Part 0 (length base.parts - 1) d)
    (λ part hp. chained (Listed (All IsValidFault) 1 4096) IsValidCampaign (required key.Faults member_faults_of d) (reads_limits base part)
    (required_holds (Listed (All IsValidFault) 1 4096) key.Faults member_faults_of d faults_hold)
    (λ faults hf. limits_then base part faults hb hp hf))

pub campaign_holds : (d : Data) → IfOk (campaign_of d) IsValidCampaign
unfolding campaign_of
campaign_holds d =
    passed IsValidCampaign (object_with (key.Base ∷ key.Part ∷ key.Faults ∷ []) d) (λ known. required key.Base scenario_of d >>= reads_part d)
    (λ known. chained IsValidScenario IsValidCampaign (required key.Base scenario_of d) (reads_part d)
    (required_holds IsValidScenario key.Base scenario_of d scenario_holds) (λ base hb. part_then d base hb))

pub campaign_is_valid : (bytes : List ℕ) → IfOk (campaign_from bytes) IsValidCampaign
unfolding campaign_from
campaign_is_valid bytes = passed IsValidCampaign (json_of bytes) campaign_of campaign_holds
