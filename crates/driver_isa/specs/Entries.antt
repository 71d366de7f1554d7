use Rattle.std.specs.Prelude.{◌≡◌, ◌+◌, ◌<◌, ◌≤◌, ℕ, nat_lt, if◌then◌else◌, Bool, true, false, Option, None, Some, List}
use Rattle.std.specs.Prelude.{length, map, slice_index, slice_index_or}
use Rattle.driver_isa.specs.Decoding.{instr_of}
use Rattle.driver_isa.specs.declared.instructions.Decoded.{Decoded}
use Rattle.driver_isa.specs.declared.turn.Rest.{Rest}
use Rattle.driver_isa.specs.declared.turn.Rest.TheVariants as rest
use Rattle.machine_defs.specs.Execution.{Machine, Executed, executed, trapped}
use Rattle.machine_defs.specs.Machine.{decode_of}
use Rattle.nook_data.specs.declared.entries.Entry.{Entry}
use Rattle.nook_data.specs.declared.machine.Instr.{Instr}
use Rattle.nook_data.specs.declared.machine.Instr.TheVariants as instr
use Rattle.nook_data.specs.declared.machine.TrapCause.TheVariants as trap
use Rattle.nook_data.specs.declared.memory_map.TheConstants.{TEXT_WORDS}

-- an instruction does not jump out of the text, unless to an address in a register
abbrev pub stays_in_text : Instr → Bool
stays_in_text (instr.Jmp imm) = nat_lt imm TEXT_WORDS
stays_in_text (instr.Beq a b imm) = nat_lt imm TEXT_WORDS
stays_in_text (instr.Bne a b imm) = nat_lt imm TEXT_WORDS
stays_in_text (instr.Blt a b imm) = nat_lt imm TEXT_WORDS
stays_in_text (instr.Jal a imm) = nat_lt imm TEXT_WORDS
stays_in_text _ = true

-- an instruction, if it does not jump out of the text
abbrev pub in_text : Option Instr → Option Instr
in_text None = None
in_text (Some i) = if stays_in_text i then Some i else None

-- the entry of a word: its instruction, if that does not jump out of the text
abbrev pub entry_of : ℕ → Option Instr
entry_of word = in_text (decode_of word)

-- an entry for each word of the text, and one that is no instruction
pub record IsDecodedText (decoded : List Decoded) (words : List ℕ) : Type 0 where
  pub size : length decoded ≡ TEXT_WORDS + 1
  pub same : (k : ℕ) → k < TEXT_WORDS → slice_index_or (map instr_of decoded) k None ≡ entry_of (slice_index words k)
  pub last : slice_index_or (map instr_of decoded) TEXT_WORDS None ≡ None

-- the instruction of the entry at an address: that of its word, and none after the text
pub record IsEntryAt (entry : Option Instr) (words : List ℕ) (address : ℕ) : Type 0 where
  pub inside : address < TEXT_WORDS → entry ≡ entry_of (slice_index words address)
  pub past : TEXT_WORDS ≤ address → entry ≡ None

-- the result of a decoded word, which may be no instruction
abbrev pub executed_entry : List Entry → Machine → Option Instr → Executed
executed_entry entries m None = trapped m trap.BadOpcode
executed_entry entries m (Some i) = executed entries m i

-- nothing is left to do of an instruction
abbrev pub is_done : Rest → Bool
is_done rest.Nothing = true
is_done _ = false
