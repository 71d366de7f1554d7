use Rattle.std.specs.Prelude.{ℕ, ◌-◌, ◌==◌, ◌&&◌, not, List, [], ◌∷◌, ◌++◌, length, Some, None, is_some, Result, Ok}
use Rattle.std.specs.Prelude.{Err, if◌then◌else◌}
use Rattle.std.specs.Char.{is_digit}
use Rattle.std.specs.List.{list_all}
use Rattle.std.specs.Str.Parse.{digits_value}
use Rattle.serde_json.specs.{Data.Data, Find.get}
use Rattle.nook_data.specs.declared.memory_map.TheConstants.{TEXT_WORDS}
use Rattle.asm_defs.specs.Assembler.{assembled}
use Rattle.nook_data.specs.Classes.{same_class}
use Rattle.asm_defs.specs.Keys.{key_text, entry_keys}
use Rattle.nook_data.specs.ClassNames.{class_named}
use Rattle.input_defs.specs.Reading.{bad, or_bad, refuse_if, under, text_of, object_with, required, number_at, list_of}
use Rattle.input_defs.specs.Reading.{json_of}
use Rattle.asm_defs.specs.Results.{◌>>=◌}
use Rattle.asm_defs.specs.Types.{AsmFault, Key}
use Rattle.nook_data.specs.Types.{Class, Image}
use Rattle.input_defs.specs.Types.{Refusal}
use Rattle.input_defs.specs.declared.input.InputFault.TheVariants as fault
use Rattle.asm_defs.specs.declared.keys.Key.TheVariants as key
use Rattle.input_defs.specs.declared.input.PathStep.TheVariants as step

-- a class
abbrev pub known_class : Data → Result Class Refusal
known_class d = text_of d >>= λ name. or_bad fault.BadClass (class_named name)

-- the word that exactly eight hexadecimal digits write, in either case
unfoldable pub hex_word : List ℕ → Result ℕ Refusal
hex_word digits =
    if length digits == 8 && list_all (λ b. is_digit b 16) digits then Ok (digits_value 16 digits)
    else bad fault.BadImage

-- the words of the text or of the data; both have the same limit
abbrev pub words_of : Data → Result (List ℕ) Refusal
words_of d = list_of (λ earlier d. text_of d >>= hex_word) 0 TEXT_WORDS d

-- the addresses of entries, after those that were read before
abbrev pub addresses_from : List Key → List ℕ → Data → Result (List ℕ) Refusal
addresses_from [] earlier d = Ok earlier
addresses_from (entry ∷ more) earlier d =
    number_at entry 0 (TEXT_WORDS - 1) d >>= λ address. addresses_from more (earlier ++ address ∷ []) d

-- exactly the entries of a class, in the class's order
abbrev pub entries_of : Class → Data → Result (List ℕ) Refusal
entries_of class d = do
  known ← object_with (entry_keys class) d
  addresses_from (entry_keys class) [] d

-- an image
unfoldable pub image_of : Data → Result Image Refusal
image_of d = do
  known ← object_with (key.Class ∷ key.Data ∷ key.Entries ∷ key.Text ∷ []) d
  class ← required key.Class known_class d
  initial ← required key.Data words_of d
  entries ← required key.Entries (entries_of class) d
  text ← required key.Text words_of d
  Ok (record { class = class; entries = entries; text = text; initial = initial })

-- the image of an assembler text, or the text's error as an input error
abbrev pub or_bad_asm : Result Image AsmFault → Result Image Refusal
or_bad_asm (Ok image) = Ok image
or_bad_asm (Err asm) = bad (fault.BadAsm asm)

-- a driver of a class: an object with one of two keys, for an assembler text or for an image
unfoldable pub driver_of : Class → Data → Result Image Refusal
driver_of class d = do
  known ← object_with (key.Image ∷ key.Asm ∷ []) d
  one ← refuse_if (is_some (get (key_text key.Image) d) && is_some (get (key_text key.Asm) d)) fault.UnknownKey
  image ← elim (get (key_text key.Asm) d) [
    | Some text ↦ under (step.At key.Asm) (text_of text >>= λ text. or_bad_asm (assembled text))
    | None ↦ required key.Image image_of d
  ]
  same ← refuse_if (not (same_class image.class class)) fault.BadImage
  Ok image

-- the image of an image's JSON text, or its first input error
unfoldable pub image_from : List ℕ → Result Image Refusal
image_from bytes = json_of bytes >>= image_of

-- the image of an assembler text, or its first input error
unfoldable pub image_from_asm : List ℕ → Result Image Refusal
image_from_asm bytes = or_bad_asm (assembled bytes)
