use Rattle.std.specs.Prelude.{ℕ, ◌-◌, nat_lt, List, [], ◌∷◌, length, Result, Ok, ⊤}
use Rattle.serde_json.specs.Data.{Data}
use Rattle.nook_data.specs.Members.{faults_at, ops_count}
use Rattle.input_defs.specs.PartReading.{fault_of}
use Rattle.input_defs.specs.Reading.{json_of, list_of, number_at, object_with, refuse_if, required, under}
use Rattle.asm_defs.specs.Results.{◌>>=◌}
use Rattle.input_defs.specs.ScenarioReading.{scenario_of}
use Rattle.nook_data.specs.Types.{Campaign, Fault, Scenario, ThreadSpec}
use Rattle.input_defs.specs.Types.{Refusal}
use Rattle.input_defs.specs.declared.input.InputFault.TheVariants as fault
use Rattle.asm_defs.specs.declared.keys.Key.TheVariants as key
use Rattle.input_defs.specs.declared.input.PathStep.TheVariants as step
use Rattle.nook_data.specs.declared.limits.TheConstants.{MOST_CAMPAIGN_FAULTS, MOST_CAMPAIGN_OPS, MOST_FAULTS}

-- 1 to 4,096 faults
abbrev pub member_faults_of : Data → Result (List Fault) Refusal
member_faults_of d = list_of (λ earlier. fault_of) 1 MOST_CAMPAIGN_FAULTS d

-- at most 64 operations in all threads together
abbrev pub check_ops : List ThreadSpec → Result ⊤ Refusal
check_ops threads =
    under (step.At key.Base) (under (step.At key.Threads)
    (refuse_if (nat_lt MOST_CAMPAIGN_OPS (ops_count threads)) fault.TooMany))

-- at most 63 own faults of the part with this index
abbrev pub check_own_faults : ℕ → List Fault → Result ⊤ Refusal
check_own_faults part own =
    under (step.At key.Base) (under (step.At key.Parts) (under (step.Position part) (under (step.At key.Faults)
    (refuse_if (nat_lt (MOST_FAULTS - 1) (length own)) fault.TooMany))))

-- the limits of a scenario whose part with this index gets one more fault
abbrev pub check_base : Scenario → ℕ → Result ⊤ Refusal
check_base base part = check_ops base.threads >>= λ few. check_own_faults part (faults_at base.parts part)

-- a campaign: a scenario of version 1 or 2, one of its parts and the faults, followed by the scenario's limits
unfoldable pub campaign_of : Data → Result Campaign Refusal
campaign_of d = do
  known ← object_with (key.Base ∷ key.Part ∷ key.Faults ∷ []) d
  base ← required key.Base scenario_of d
  part ← number_at key.Part 0 (length base.parts - 1) d
  faults ← required key.Faults member_faults_of d
  limits ← check_base base part
  Ok (record { base = base; part = part; faults = faults })

-- the campaign of some bytes, or their first input error
unfoldable pub campaign_from : List ℕ → Result Campaign Refusal
campaign_from bytes = do
  d ← json_of bytes
  campaign_of d
