use Rattle.std.specs.Prelude.{ℕ, suc, ◌+◌, ◌-◌, nat_lt, Bool, true, false, ◌&&◌, ◌||◌, if◌then◌else◌, is_some}
use Rattle.std.specs.Prelude.{List, [], ◌∷◌, length, Option, Some, None, Result, Ok, ⊤}
use Rattle.serde_json.specs.{Data.{Data}, Find.{as_bool, get}}
use Rattle.nook_data.specs.Members.{faults_at}
use Rattle.input_defs.specs.CampaignReading.{check_ops, member_faults_of}
use Rattle.nook_data.specs.FaultNames.{fault_named}
use Rattle.input_defs.specs.PartReading.{fault_keys, fault_kind, fault_of}
use Rattle.input_defs.specs.Reading.{bad, is_object, json_of, list_of, named_of, number_at, object_with, optional, or_bad}
use Rattle.input_defs.specs.Reading.{refuse_if, required, under}
use Rattle.asm_defs.specs.Keys.{key_text}
use Rattle.asm_defs.specs.Results.{◌>>=◌}
use Rattle.asm_defs.specs.Types.{Key}
use Rattle.input_defs.specs.ScenarioReading.{scenario_of}
use Rattle.nook_data.specs.Types.{Fault, FaultKind, PartSpec, Scenario}
use Rattle.plan_defs.specs.Plans.{more_faults, most_faults}
use Rattle.plan_defs.specs.Types.{Plan, Strikes}
use Rattle.input_defs.specs.Types.{Refusal}
use Rattle.input_defs.specs.declared.input.InputFault.TheVariants as fault
use Rattle.asm_defs.specs.declared.keys.Key.TheVariants as key
use Rattle.input_defs.specs.declared.input.PathStep.TheVariants as step
use Rattle.plan_defs.specs.declared.plan.Strikes.TheVariants as strikes
use Rattle.plan_defs.specs.declared.plan.TheConstants.{MOST_EVERY_KINDS, MOST_MEMBER_FAULTS}
use Rattle.nook_data.specs.declared.limits.TheConstants.{MOST_CAMPAIGN_FAULTS, MOST_FAULTS}

-- Campaigns with members, kinds of fault, a guard and details.

-- ---- what strikes

-- 1 to 16 faults
abbrev pub member_of : Data → Result (List Fault) Refusal
member_of d = list_of (λ earlier. fault_of) 1 MOST_MEMBER_FAULTS d

-- 1 to 4,096 lists of faults
abbrev pub member_lists_of : Data → Result (List (List Fault)) Refusal
member_lists_of d = list_of (λ earlier. member_of) 1 MOST_CAMPAIGN_FAULTS d

-- a kind of fault, in an object without a burst and a number of instructions
unfoldable pub kind_of : Data → Result FaultKind Refusal
kind_of d = do
  members ← is_object d
  name ← required key.Kind (named_of fault_named) d
  known ← object_with (key.Kind ∷ fault_keys name) d
  fault_kind name d

-- 1 to 64 kinds of fault
abbrev pub kinds_of : Data → Result (List FaultKind) Refusal
kinds_of d = list_of (λ earlier. kind_of) 1 MOST_EVERY_KINDS d

-- what strikes, from the value of the key `every` or `members`, or else from the key `faults`
abbrev pub strikes_of : Option Data → Option Data → Data → Result Strikes Refusal
strikes_of (Some inside) lists d = under (step.At key.Every) (kinds_of inside) >>= λ kinds. Ok (strikes.Every kinds)
strikes_of None (Some inside) d =
    under (step.At key.Members) (member_lists_of inside) >>= λ lists. Ok (strikes.Members lists)
strikes_of None None d = required key.Faults member_faults_of d >>= λ faults. Ok (strikes.Faults faults)

-- an object has a key
abbrev pub has_key : Key → Data → Bool
has_key key d = is_some (get (key_text key) d)

-- at most one of the keys `faults`, `members` and `every` occurs; the second of those that occur is an unknown key
abbrev pub check_choice : Bool → Bool → Bool → Result ⊤ Refusal
check_choice faults members every =
    if faults && members then under (step.At key.Members) (bad fault.UnknownKey)
    else if (faults || members) && every then under (step.At key.Every) (bad fault.UnknownKey) else Ok tt

-- ---- options

-- true or false
abbrev pub flag_of : Data → Result Bool Refusal
flag_of d = or_bad fault.WrongKind (as_bool d)

-- ---- limits

-- the part with this index has at most 64 faults and traps
abbrev pub check_count : ℕ → ℕ → Result ⊤ Refusal
check_count index count =
    under (step.At key.Base) (under (step.At key.Parts) (under (step.Position index) (under (step.At key.Faults)
    (refuse_if (nat_lt MOST_FAULTS count) fault.TooMany))))

-- each part, from this index on, has room for the faults that it gets and for the traps of a guard
abbrev pub check_traps : ℕ → ℕ → ℕ → List PartSpec → Result ⊤ Refusal
check_traps struck more index [] = Ok tt
check_traps struck more index (part ∷ parts) =
    check_count index (length part.faults + more_faults struck more index + (part.limit + 1))
    >>= λ room. check_traps struck more (suc index) parts

-- the same, if the campaign has a guard
abbrev pub check_guard : Bool → ℕ → ℕ → List PartSpec → Result ⊤ Refusal
check_guard true struck more parts = check_traps struck more 0 parts
check_guard false struck more parts = Ok tt

-- the limits of the scenario whose part with this index gets up to `more` faults, with or without a guard
abbrev pub check_base : Scenario → ℕ → ℕ → Bool → Result ⊤ Refusal
check_base base part more guard = do
  few ← check_ops base.threads
  room ← check_count part (length (faults_at base.parts part) + more)
  check_guard guard part more base.parts

-- ---- campaigns

-- a campaign: a scenario of version 1 or 2, one of its parts, what strikes it, and the options, followed by the limits
unfoldable pub plan_of : Data → Result Plan Refusal
plan_of d = do
  known ← object_with (key.Base ∷ key.Part ∷ key.Faults ∷ key.Members ∷ key.Every ∷ key.Guard ∷ key.Detail ∷ []) d
  one ← check_choice (has_key key.Faults d) (has_key key.Members d) (has_key key.Every d)
  base ← required key.Base scenario_of d
  part ← number_at key.Part 0 (length base.parts - 1) d
  chosen ← strikes_of (get (key_text key.Every) d) (get (key_text key.Members) d) d
  guard ← optional key.Guard flag_of false d
  detail ← optional key.Detail flag_of false d
  limits ← check_base base part (most_faults chosen) guard
  Ok (record { base = base; part = part; strikes = chosen; guard = guard; detail = detail })

-- the campaign of some bytes, or their first input error
unfoldable pub plan_from : List ℕ → Result Plan Refusal
plan_from bytes = do
  d ← json_of bytes
  plan_of d
