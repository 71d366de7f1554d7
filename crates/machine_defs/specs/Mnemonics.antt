use Rattle.std.specs.Prelude.{ℕ, ◌==◌, if◌then◌else◌, Bool, true, false, List, [], ◌∷◌, codes, Option, None, Some}
use Rattle.std.specs.List.{find}
use Rattle.nook_data.specs.Names.{of_text}
use Rattle.nook_data.specs.Types.{Form, Instr, Mnemonic}
use Rattle.nook_data.specs.declared.machine.Form.TheVariants as form
use Rattle.nook_data.specs.declared.machine.Mnemonic.TheVariants as mnemonic
use Rattle.nook_data.specs.declared.machine.Instr.TheVariants as instr

-- The instruction table. It defines how words are decoded and encoded, and how texts are assembled and disassembled.

-- a row: the instruction's name, number and form, whether it reads and whether it sets register a, and a function from
-- operands to the instruction; it ignores operands that the form does not have
pub record InstructionRow : Type 0 where
  pub name : List ℕ
  pub number : ℕ
  pub form : Form
  pub reads : Bool
  pub sets : Bool
  pub of_operands : ℕ → ℕ → ℕ → Instr

-- the row of an instruction that sets register a without reading it
abbrev pub sets : List ℕ → ℕ → Form → (ℕ → ℕ → ℕ → Instr) → InstructionRow
sets name number operands make =
    record { name = name; number = number; form = operands; reads = false; sets = true; of_operands = make }

-- the row of an instruction that reads register a and then sets it
abbrev pub changes : List ℕ → ℕ → Form → (ℕ → ℕ → ℕ → Instr) → InstructionRow
changes name number operands make =
    record { name = name; number = number; form = operands; reads = true; sets = true; of_operands = make }

-- the row of an instruction that only reads register a
abbrev pub reads : List ℕ → ℕ → Form → (ℕ → ℕ → ℕ → Instr) → InstructionRow
reads name number operands make =
    record { name = name; number = number; form = operands; reads = true; sets = false; of_operands = make }

-- the row of an instruction without registers
abbrev pub row : List ℕ → ℕ → Form → (ℕ → ℕ → ℕ → Instr) → InstructionRow
row name number operands make =
    record { name = name; number = number; form = operands; reads = false; sets = false; of_operands = make }

-- the table
abbrev pub instruction_row : Mnemonic → InstructionRow
instruction_row mnemonic.Li = sets (codes "LI") 0x01 form.AImm (λ a b imm. instr.Li a imm)
instruction_row mnemonic.Lui = changes (codes "LUI") 0x02 form.AImm (λ a b imm. instr.Lui a imm)
instruction_row mnemonic.Mov = sets (codes "MOV") 0x03 form.AB (λ a b imm. instr.Mov a b)
instruction_row mnemonic.Add = changes (codes "ADD") 0x04 form.AB (λ a b imm. instr.Add a b)
instruction_row mnemonic.Sub = changes (codes "SUB") 0x05 form.AB (λ a b imm. instr.Sub a b)
instruction_row mnemonic.And = changes (codes "AND") 0x06 form.AB (λ a b imm. instr.And a b)
instruction_row mnemonic.Or = changes (codes "OR") 0x07 form.AB (λ a b imm. instr.Or a b)
instruction_row mnemonic.Xor = changes (codes "XOR") 0x08 form.AB (λ a b imm. instr.Xor a b)
instruction_row mnemonic.Shl = changes (codes "SHL") 0x09 form.AB (λ a b imm. instr.Shl a b)
instruction_row mnemonic.Shr = changes (codes "SHR") 0x0a form.AB (λ a b imm. instr.Shr a b)
instruction_row mnemonic.Addi = sets (codes "ADDI") 0x0b form.ABImm (λ a b imm. instr.Addi a b imm)
instruction_row mnemonic.Ld = sets (codes "LD") 0x0c form.ABImm (λ a b imm. instr.Ld a b imm)
instruction_row mnemonic.St = reads (codes "ST") 0x0d form.ABImm (λ a b imm. instr.St a b imm)
instruction_row mnemonic.Jmp = row (codes "JMP") 0x0e form.Imm (λ a b imm. instr.Jmp imm)
instruction_row mnemonic.Beq = reads (codes "BEQ") 0x0f form.ABImm (λ a b imm. instr.Beq a b imm)
instruction_row mnemonic.Bne = reads (codes "BNE") 0x10 form.ABImm (λ a b imm. instr.Bne a b imm)
instruction_row mnemonic.Blt = reads (codes "BLT") 0x11 form.ABImm (λ a b imm. instr.Blt a b imm)
instruction_row mnemonic.Jal = sets (codes "JAL") 0x12 form.AImm (λ a b imm. instr.Jal a imm)
instruction_row mnemonic.Jr = reads (codes "JR") 0x13 form.A (λ a b imm. instr.Jr a)
instruction_row mnemonic.In = sets (codes "IN") 0x14 form.AImm (λ a b imm. instr.In a imm)
instruction_row mnemonic.Out = reads (codes "OUT") 0x15 form.AImm (λ a b imm. instr.Out a imm)
instruction_row mnemonic.Kcall = row (codes "KCALL") 0x16 form.Imm (λ a b imm. instr.Kcall imm)
instruction_row mnemonic.Ret = reads (codes "RET") 0x17 form.A (λ a b imm. instr.Ret a)
instruction_row mnemonic.Fault = row (codes "FAULT") 0x18 form.Bare (λ a b imm. instr.Fault)

-- all mnemonics, in the order of their numbers
abbrev pub mnemonics : List Mnemonic
mnemonics =
    mnemonic.Li ∷ mnemonic.Lui ∷ mnemonic.Mov ∷ mnemonic.Add ∷ mnemonic.Sub ∷ mnemonic.And ∷ mnemonic.Or ∷
    mnemonic.Xor ∷ mnemonic.Shl ∷ mnemonic.Shr ∷ mnemonic.Addi ∷ mnemonic.Ld ∷ mnemonic.St ∷ mnemonic.Jmp ∷
    mnemonic.Beq ∷ mnemonic.Bne ∷ mnemonic.Blt ∷ mnemonic.Jal ∷ mnemonic.Jr ∷ mnemonic.In ∷ mnemonic.Out ∷
    mnemonic.Kcall ∷ mnemonic.Ret ∷ mnemonic.Fault ∷ []

-- the text of a mnemonic
abbrev pub mnemonic_text : Mnemonic → List ℕ
mnemonic_text m = (instruction_row m).name

-- the mnemonic with this text
unfoldable pub mnemonic_named : List ℕ → Option Mnemonic
mnemonic_named name = of_text mnemonic_text mnemonics name

-- the mnemonic with this number
abbrev pub mnemonic_numbered : ℕ → Option Mnemonic
mnemonic_numbered number = find (λ m. number == (instruction_row m).number) mnemonics

-- the operands that follow a mnemonic
abbrev pub form_of : Mnemonic → Form
form_of m = (instruction_row m).form

-- the instruction with a mnemonic and operands; operands that its form does not have are ignored
abbrev pub instr_with : Mnemonic → ℕ → ℕ → ℕ → Instr
instr_with m a b imm = (instruction_row m).of_operands a b imm

-- an instruction as a mnemonic and operands; an operand that its form does not have is 0
pub record Fields : Type 0 where
  pub mnemonic : Mnemonic
  pub a : ℕ
  pub b : ℕ
  pub imm : ℕ

-- a mnemonic with these operands
abbrev pub fields : Mnemonic → ℕ → ℕ → ℕ → Fields
fields m a b imm = record { mnemonic = m; a = a; b = b; imm = imm }

-- the mnemonic and operands of an instruction
abbrev pub fields_of : Instr → Fields
fields_of (instr.Li a imm) = fields mnemonic.Li a 0 imm
fields_of (instr.Lui a imm) = fields mnemonic.Lui a 0 imm
fields_of (instr.Mov a b) = fields mnemonic.Mov a b 0
fields_of (instr.Add a b) = fields mnemonic.Add a b 0
fields_of (instr.Sub a b) = fields mnemonic.Sub a b 0
fields_of (instr.And a b) = fields mnemonic.And a b 0
fields_of (instr.Or a b) = fields mnemonic.Or a b 0
fields_of (instr.Xor a b) = fields mnemonic.Xor a b 0
fields_of (instr.Shl a b) = fields mnemonic.Shl a b 0
fields_of (instr.Shr a b) = fields mnemonic.Shr a b 0
fields_of (instr.Addi a b imm) = fields mnemonic.Addi a b imm
fields_of (instr.Ld a b imm) = fields mnemonic.Ld a b imm
fields_of (instr.St a b imm) = fields mnemonic.St a b imm
fields_of (instr.Jmp imm) = fields mnemonic.Jmp 0 0 imm
fields_of (instr.Beq a b imm) = fields mnemonic.Beq a b imm
fields_of (instr.Bne a b imm) = fields mnemonic.Bne a b imm
fields_of (instr.Blt a b imm) = fields mnemonic.Blt a b imm
fields_of (instr.Jal a imm) = fields mnemonic.Jal a 0 imm
fields_of (instr.Jr a) = fields mnemonic.Jr a 0 0
fields_of (instr.In a imm) = fields mnemonic.In a 0 imm
fields_of (instr.Out a imm) = fields mnemonic.Out a 0 imm
fields_of (instr.Kcall imm) = fields mnemonic.Kcall 0 0 imm
fields_of (instr.Ret a) = fields mnemonic.Ret a 0 0
fields_of instr.Fault = fields mnemonic.Fault 0 0 0

-- the register that an instruction sets
abbrev pub target_of : Instr → Option ℕ
target_of i = if (instruction_row (fields_of i).mnemonic).sets then Some (fields_of i).a else None
