use Rattle.std.specs.Prelude.{ℕ, zero, suc, ◌+◌, ◌-◌, ◌/◌, ◌==◌, ◌&&◌, ◌||◌, nat_le, nat_lt, if◌then◌else◌, Bool}
use Rattle.std.specs.Prelude.{false, Option, Some, None, List, [], ◌∷◌, ◌++◌, take, drop, length, replicate}
use Rattle.std.specs.Prelude.{slice_index, slice_set, slice_range}
use Rattle.std.specs.List.{list_any}
use Rattle.nook_data.specs.Types.{Entry, Image}
use Rattle.nook_data.specs.declared.entries.Entry.TheVariants as entry
use Rattle.nook_data.specs.declared.memory_map.TheConstants.{TEXT_WORDS, DATA_START, STACKS_END}
use Rattle.nook_data.specs.declared.memory_map.TheConstants.{BUFFERS_END, BUFFER_WORDS, LAST_OBJECT, OBJECT_WORDS}
use Rattle.nook_data.specs.declared.memory_map.TheConstants.{MEMORY_WORDS}
use Rattle.nook_data.specs.Layout.{object_start}

-- Addresses 0 to 8,191 in pages of 64 words: text to 2,047; initial words and the heap to 4,095; a stack page for each
-- of the 17 contexts to 5,183; two buffer pages for each to 7,359; and the 13 kernel objects, a page each.

-- the context's buffer is lent for writing
abbrev pub is_lent : List Entry → ℕ → Bool
is_lent entries context =
    list_any (λ e. elim e [ (entry.Buffer c writable) ↦ c == context && writable | _ ↦ false ]) entries

-- a driver may write the address: it is in the data or the stacks, or in a buffer that is lent for writing
abbrev pub may_write_where : (ℕ → Bool) → ℕ → Bool
may_write_where lent address = nat_le DATA_START address && nat_lt address STACKS_END
    || (nat_le STACKS_END address && nat_lt address BUFFERS_END) && lent ((address - STACKS_END) / BUFFER_WORDS)

-- a driver may write the address while its domain has these entries
abbrev pub may_write : List Entry → ℕ → Bool
may_write entries address = may_write_where (is_lent entries) address

-- the word at an address, if it may be read
abbrev pub read_word : List ℕ → ℕ → Option ℕ
read_word memory address = if nat_lt address MEMORY_WORDS then Some (slice_index memory address) else None

-- the word at an address of the text, if it may be fetched
abbrev pub fetch_word : List ℕ → ℕ → Option ℕ
fetch_word memory address = if nat_lt address TEXT_WORDS then Some (slice_index memory address) else None

-- memory after a driver's write; it is unchanged if the driver may not write the address
abbrev pub written : List Entry → ℕ → ℕ → List ℕ → List ℕ
written entries address word memory = if may_write entries address then slice_set memory address word else memory

-- memory with these words from an address on
abbrev pub with_words : ℕ → List ℕ → List ℕ → List ℕ
with_words start words memory = take start memory ++ (words ++ drop (start + length words) memory)

-- words followed by zeros, n in all
abbrev pub padded_words : ℕ → List ℕ → List ℕ
padded_words n words = words ++ replicate (n - length words) 0

-- the 64 words of a kernel object
abbrev pub object_words : ℕ → List ℕ → List ℕ
object_words object memory = slice_range memory (object_start object) (object_start object + OBJECT_WORDS)

-- the initial words of kernel object 1 to 12: its number and zeros; `opening_memory` defines those of object 0
abbrev pub opening_object : ℕ → List ℕ
opening_object object = padded_words OBJECT_WORDS (object ∷ [])

-- the initial words of this many consecutive kernel objects from a number on
abbrev pub opening_objects : ℕ → ℕ → List ℕ
opening_objects object zero = []
opening_objects object (suc more) = opening_object object ++ opening_objects (suc object) more

-- the initial memory: zeros, then object 0 with the defaults, then objects 1 to 12
unfoldable pub opening_memory : List ℕ → List ℕ
opening_memory defaults =
    replicate BUFFERS_END 0 ++ (padded_words OBJECT_WORDS defaults ++ opening_objects 1 LAST_OBJECT)

-- memory after an image is loaded: its text, its initial words, zeros up to the last buffer page; the objects stay
unfoldable pub loaded_memory : Image → List ℕ → List ℕ
loaded_memory image memory = padded_words TEXT_WORDS image.text
    ++ (padded_words (BUFFERS_END - DATA_START) image.initial ++ drop BUFFERS_END memory)
