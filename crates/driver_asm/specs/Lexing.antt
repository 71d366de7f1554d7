use Rattle.std.specs.Prelude.{ℕ, List, [], ◌∷◌, Bool, true, ◌&&◌, nat_le, Option, Some, None, if◌then◌else◌}
use Rattle.asm_defs.specs.AsmTokens.{is_numeral, numeral_value}
use Rattle.asm_defs.specs.AsmLines.{Labels, value_of}
use Rattle.asm_defs.specs.declared.assembler.Value.{Value}
use Rattle.asm_defs.specs.declared.assembler.Operands.{Operands}
use Rattle.asm_defs.specs.declared.assembler.Statement.{Statement}
use Rattle.asm_defs.specs.declared.assembler.Statement.TheVariants as statement

-- the number that digits of a base write, if they are digits
abbrev pub numeral : ℕ → List ℕ → Option ℕ
numeral base bytes = if is_numeral base bytes then Some (numeral_value base bytes) else None

-- the machine has both registers
abbrev pub names_registers : Operands → Bool
names_registers operands = nat_le operands.a 15 && nat_le operands.b 15

-- the machine has the registers of a statement
abbrev pub has_registers : Statement → Bool
has_registers (statement.Instr mnemonic operands) = names_registers operands
has_registers _ = true

-- the value of the only token
abbrev pub only_value : Labels → List (List ℕ) → Option Value
only_value labels (token ∷ []) = value_of labels token
only_value labels _ = None
