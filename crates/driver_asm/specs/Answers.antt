use Rattle.std.specs.Prelude.{◌≡◌, ⊤, Result, Ok, Err}
use Rattle.asm_defs.specs.declared.assembler.AsmFault.{AsmFault}
use Rattle.asm_defs.specs.declared.assembler.AsmKind.{AsmKind}
use Rattle.driver_asm.specs.declared.error.AsmError.{AsmError}
use Rattle.driver_asm.specs.declared.error.AsmError.TheVariants as error
use Rattle.driver_asm.specs.declared.error.LineStop.{LineStop}
use Rattle.driver_asm.specs.declared.error.LineStop.TheVariants as stop

-- How the assembler's results relate to the definitions.

-- an error is that of the definition; memory may run out at any time
abbrev pub Fails : {T : Type 0} → AsmError → Result T AsmFault → Type 0
Fails error.NoMemory made = ⊤
Fails (error.Bad kind line) made = made ≡ Err (record { kind = kind; line = line })

-- the value or the error is that of the definition
abbrev pub Gives : {T : Type 0} → Result T AsmError → Result T AsmFault → Type 0
Gives (Ok value) made = made ≡ Ok value
Gives (Err why) made = Fails why made

-- the same for one line, whose error is a kind
abbrev pub Stops : {T : Type 0} → LineStop → Result T AsmKind → Type 0
Stops stop.NoMemory made = ⊤
Stops (stop.Bad kind) made = made ≡ Err kind

abbrev pub Takes : {T : Type 0} → Result T LineStop → Result T AsmKind → Type 0
Takes (Ok value) made = made ≡ Ok value
Takes (Err why) made = Stops why made
