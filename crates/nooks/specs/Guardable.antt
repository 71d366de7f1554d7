-- Scenarios that can be guarded: each part has room in its list of faults for the traps that its guard may need.
use Rattle.std.specs.Prelude.{ℕ, suc, ◌+◌, nat_le, if◌then◌else◌, Bool, List, [], ◌∷◌, length, Option, Some, None, Result, Ok, Err}
use Rattle.asm_defs.specs.declared.keys.Key.TheVariants as key
use Rattle.input_defs.specs.ScenarioReading.{scenario_from}
use Rattle.input_defs.specs.declared.input.InputFault.TheVariants as fault
use Rattle.input_defs.specs.declared.input.PathStep.TheVariants as step
use Rattle.input_defs.specs.declared.input.Refusal.{Refusal}
use Rattle.nook_data.specs.Types.{PartSpec, Scenario}
use Rattle.nook_data.specs.declared.limits.TheConstants.{MOST_FAULTS}

-- a part has room for a trap at each failure; there is at most one more failure than its limit
abbrev pub has_room : PartSpec → Bool
has_room spec = nat_le (length spec.faults + (spec.limit + 1)) MOST_FAULTS

-- the index of the first part without room; the first of these parts has this index
abbrev pub first_without_room : ℕ → List PartSpec → Option ℕ
first_without_room index [] = None
first_without_room index (spec ∷ specs) =
    if has_room spec then first_without_room (suc index) specs else Some index

-- the part at an index has too many faults
abbrev pub no_room : ℕ → Refusal
no_room index = record {
  fault = fault.TooMany;
  path = step.At key.Parts ∷ step.Position index ∷ step.At key.Faults ∷ [];
}

-- a scenario of which this is the first part without room, if there is one
abbrev pub with_room : Scenario → Option ℕ → Result Scenario Refusal
with_room scenario None = Ok scenario
with_room scenario (Some index) = Err (no_room index)

-- a scenario that was read, if each part has room; an input error found in reading comes first
abbrev pub guardable : Result Scenario Refusal → Result Scenario Refusal
guardable (Ok scenario) = with_room scenario (first_without_room 0 scenario.parts)
guardable (Err refusal) = Err refusal

-- the scenario in some bytes, each part of which has room, or their first input error
abbrev pub guardable_from : List ℕ → Result Scenario Refusal
guardable_from bytes = guardable (scenario_from bytes)
