use Rattle.std.specs.Prelude.{ℕ, ◌==◌, ◌||◌, if◌then◌else◌, Bool, true, false, List}
use Rattle.nook_data.specs.Types.{Form, Instr}
use Rattle.nook_data.specs.declared.machine.Form.TheVariants as form
use Rattle.nook_data.specs.declared.scenario.FaultKind.TheVariants as fault
use Rattle.machine_defs.specs.Burst.{struck_registers}
use Rattle.machine_defs.specs.Execution.{Executed, Machine}
use Rattle.machine_defs.specs.Mnemonics.{fields_of, form_of, instruction_row}

-- Which registers an instruction uses, and a machine in which a fault has set a register.

-- a form has operand b, which is a register that the instruction reads
abbrev pub has_b : Form → Bool
has_b form.AB = true
has_b form.ABImm = true
has_b _ = false

-- a register is among those that are read: a if it is read, and b if there is one
abbrev pub is_read : Bool → Bool → ℕ → ℕ → ℕ → Bool
is_read true true a b register = a == register || b == register
is_read true false a b register = a == register
is_read false true a b register = b == register
is_read false false a b register = false

-- what an instruction does may depend on the register
abbrev pub reads : Instr → ℕ → Bool
reads i register = is_read (instruction_row (fields_of i).mnemonic).reads (has_b (form_of (fields_of i).mnemonic))
    (fields_of i).a (fields_of i).b register

-- the instruction sets the register, unless it traps
abbrev pub sets : Instr → ℕ → Bool
sets i register = if (instruction_row (fields_of i).mnemonic).sets then (fields_of i).a == register else false

-- the registers after a fault has set one of them
abbrev pub set_registers : ℕ → ℕ → List ℕ → List ℕ
set_registers register word registers = struck_registers (fault.Reg register word) registers

-- the machine after a fault has set a register
abbrev pub setting : ℕ → ℕ → Machine → Machine
setting register word m = record m { cpu = record m.cpu { registers = set_registers register word m.cpu.registers } }

-- the same of the machine after an instruction
abbrev pub setting_after : ℕ → ℕ → Executed → Executed
setting_after register word t = record t { machine = setting register word t.machine }
