use Rattle.std.specs.Prelude.{◌≡◌, ◌+◌, ℕ, List, None, length, map, slice_index, slice_index_or}
use Rattle.driver_isa.specs.Decoding.{instr_of}
use Rattle.driver_isa.specs.Entries.{entry_of}
use Rattle.driver_isa.specs.declared.instructions.Decoded.{Decoded}
use Rattle.nook_data.specs.declared.memory_map.TheConstants.{TEXT_WORDS}

-- the entry at an address is that of the word at it; after the end of the text the word is 0, and no instruction
abbrev pub IsDecodedAt : List Decoded → List ℕ → ℕ → Type 0
IsDecodedAt decoded text address = slice_index_or (map instr_of decoded) address None ≡ entry_of (slice_index text address)

-- there is an entry for each word of the text, and one that is no instruction
pub record IsDecoded (decoded : List Decoded) (text : List ℕ) : Type 0 where
  pub size : length decoded ≡ TEXT_WORDS + 1
  pub same : (k : ℕ) → IsDecodedAt decoded text k
