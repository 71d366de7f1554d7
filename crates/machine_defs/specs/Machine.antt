use Rattle.std.specs.Prelude.{ℕ, ◌+◌, ◌*◌, ◌/◌, ◌%◌, ◌^◌, ◌==◌, ◌&&◌, Bool, true, Option, option_map}
use Rattle.std.specs.List.{find}
use Rattle.machine_defs.specs.Mnemonics.{instruction_row, mnemonics, instr_with, fields_of}
use Rattle.nook_data.specs.Types.{Form, Instr, Mnemonic}
use Rattle.nook_data.specs.declared.machine.Form.TheVariants as form

-- the fields of a word: the op in bits 31 to 24, a in 23 to 20, b in 19 to 16, the immediate in 15 to 0
abbrev pub op_field : ℕ → ℕ
op_field w = w / 2 ^ 24 % 2 ^ 8

-- four bits that name a register
abbrev pub a_field : ℕ → ℕ
a_field w = w / 2 ^ 20 % 2 ^ 4

-- four bits that name a register
abbrev pub b_field : ℕ → ℕ
b_field w = w / 2 ^ 16 % 2 ^ 4

-- 16 bits: an address, a number or a port
abbrev pub imm_field : ℕ → ℕ
imm_field w = w % 2 ^ 16

-- the fields that a form does not have are 0
abbrev pub has_no_other : Form → ℕ → ℕ → ℕ → Bool
has_no_other form.Bare a b imm = a == 0 && b == 0 && imm == 0
has_no_other form.A a b imm = b == 0 && imm == 0
has_no_other form.Imm a b imm = a == 0 && b == 0
has_no_other form.AB a b imm = imm == 0
has_no_other form.AImm a b imm = b == 0
has_no_other form.ABImm a b imm = true

-- a word is of a mnemonic's row: its op is the row's number, and the fields that the row's form does not have are 0
abbrev pub is_of_row : ℕ → Mnemonic → Bool
is_of_row w m = op_field w == (instruction_row m).number
    && has_no_other (instruction_row m).form (a_field w) (b_field w) (imm_field w)

-- the instruction that a word encodes; None if it is of no mnemonic's row
abbrev pub decode_of : ℕ → Option Instr
decode_of w = option_map (λ m. instr_with m (a_field w) (b_field w) (imm_field w)) (find (is_of_row w) mnemonics)

-- the word with these fields
abbrev pub word_of : ℕ → ℕ → ℕ → ℕ → ℕ
word_of op a b imm = op * 2 ^ 24 + a * 2 ^ 20 + b * 2 ^ 16 + imm

-- the only word that encodes an instruction whose fields are in range: the number of its row, and its operands
abbrev pub encode_of : Instr → ℕ
encode_of i = word_of (instruction_row (fields_of i).mnemonic).number (fields_of i).a (fields_of i).b (fields_of i).imm
