use Rattle.std.specs.Prelude.{ℕ, List, bytes_eq, Bool, Option, Some, None, Result}
use Rattle.std.specs.Char.{is_digit}
use Rattle.std.specs.List.{list_any}
use Rattle.serde_json.specs.Data.{Data}
use Rattle.nook_data.specs.declared.limits.TheConstants.{MOST_ARRIVALS, MOST_BAD_BLOCKS, MOST_FAULTS, MOST_FRAME_WORDS}
use Rattle.nook_data.specs.declared.limits.TheConstants.{MOST_OPS, MOST_PARTS, MOST_THREADS}
use Rattle.asm_defs.specs.Assembler.{assembled}
use Rattle.input_defs.specs.ImageReading.{hex_word, image_of, or_bad_asm}
use Rattle.asm_defs.specs.Keys.{key_text}
use Rattle.input_defs.specs.PartReading.{bad_block_of, fault_of, part_of}
use Rattle.input_defs.specs.Reading.{list_of, numbers_of, optional}
use Rattle.input_defs.specs.Reading.{required, text_of, under, whole_number}
use Rattle.asm_defs.specs.Results.{◌>>=◌}
use Rattle.input_defs.specs.ScenarioReading.{op_of}
use Rattle.input_defs.specs.ScenarioReading.{thread_of}
use Rattle.nook_data.specs.Types.{BadBlock, Fault, Image, Op, PartSpec}
use Rattle.asm_defs.specs.Types.{Key}
use Rattle.input_defs.specs.Types.{Refusal}
use Rattle.nook_data.specs.Types.{ThreadSpec}
use Rattle.asm_defs.specs.declared.keys.Key.TheVariants as key
use Rattle.input_defs.specs.declared.input.PathStep.TheVariants as step

-- Names for pieces of the readings. The readers' contracts and the laws of reading use them.

-- the bytes are the text of one of these keys
abbrev pub is_key : List Key → List ℕ → Bool
is_key known name = list_any (λ key. bytes_eq name (key_text key)) known

-- a number from low to high at a key, or the default if the key is absent
abbrev pub number_or : Key → ℕ → ℕ → ℕ → Data → Result ℕ Refusal
number_or key low high default d = optional key (whole_number low high) default d

-- a hexadecimal digit in either case
abbrev pub is_hex_digit : ℕ → Bool
is_hex_digit b = is_digit b 16

-- a text of eight hexadecimal digits
abbrev pub text_word : List ℕ → Data → Result ℕ Refusal
text_word earlier d = text_of d >>= hex_word

-- the image of a text that assembles
abbrev pub asm_of : Data → Result Image Refusal
asm_of d = text_of d >>= λ text. or_bad_asm (assembled text)

-- the image of a driver, from its key `asm` if it has that key, else from its key `image`
abbrev pub driver_image : Option Data → Data → Result Image Refusal
driver_image found d =
    elim found [ Some text ↦ under (step.At key.Asm) (asm_of text) | None ↦ required key.Image image_of d ]

-- up to 64 faults
abbrev pub faults_of : Data → Result (List Fault) Refusal
faults_of d = list_of (λ earlier. fault_of) 0 MOST_FAULTS d

-- up to 64 bad blocks
abbrev pub bad_blocks_of : ℕ → Data → Result (List BadBlock) Refusal
bad_blocks_of blocks d = list_of (λ earlier. bad_block_of blocks) 0 MOST_BAD_BLOCKS d

-- a frame of 1 to 64 words
abbrev pub frame_of : List (List ℕ) → Data → Result (List ℕ) Refusal
frame_of earlier d = numbers_of 1 MOST_FRAME_WORDS 4294967295 d

-- up to 256 frames
abbrev pub frames_of : Data → Result (List (List ℕ)) Refusal
frames_of d = list_of frame_of 0 MOST_ARRIVALS d

-- up to 65,536 picks
abbrev pub picks_of : Data → Result (List ℕ) Refusal
picks_of d = numbers_of 0 65536 65535 d

-- up to 256 operations
abbrev pub ops_of : ℕ → Data → Result (List (ℕ × Op)) Refusal
ops_of parts d = list_of (λ earlier. op_of parts) 0 MOST_OPS d

-- 1 to 8 parts
abbrev pub parts_of : ℕ → Data → Result (List PartSpec) Refusal
parts_of version d = list_of (part_of version) 1 MOST_PARTS d

-- up to 16 threads
abbrev pub threads_of : ℕ → Data → Result (List ThreadSpec) Refusal
threads_of parts d = list_of (thread_of parts) 0 MOST_THREADS d
