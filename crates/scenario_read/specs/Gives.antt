use Rattle.std.specs.Prelude.{◌≡◌, ⊤, [], ◌∷◌, Result, Ok, Err}
use Rattle.input_defs.specs.declared.input.InputFault.TheVariants as fault
use Rattle.asm_defs.specs.declared.keys.Key.{Key}
use Rattle.input_defs.specs.declared.input.PathStep.TheVariants as step
use Rattle.input_defs.specs.declared.input.Refusal.{Refusal}
use Rattle.scenario_read.specs.declared.stop.ScenarioFault.{ScenarioFault}
use Rattle.scenario_read.specs.declared.stop.ScenarioFault.TheVariants as stop

-- How a reader's result relates to the reading that the definitions give.

-- a refusal is that of the reading; memory may run out at any time
abbrev pub Fails : {T : Type 0} → ScenarioFault → Result T Refusal → Type 0
Fails stop.NoMemory reading = ⊤
Fails (stop.Bad refusal) reading = reading ≡ Err refusal

-- the value or the refusal is that of the reading
abbrev pub Gives : {T : Type 0} → Result T ScenarioFault → Result T Refusal → Type 0
Gives (Ok read) reading = reading ≡ Ok read
Gives (Err why) reading = Fails why reading

-- a required key is absent
abbrev pub IsMissing : Key → ScenarioFault → Type 0
IsMissing key stop.NoMemory = ⊤
IsMissing key (stop.Bad refusal) = refusal ≡ record { fault = fault.MissingKey; path = step.At key ∷ [] }
