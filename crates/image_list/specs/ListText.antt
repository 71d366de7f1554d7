use Rattle.std.specs.Prelude.{ℕ, ◌+◌, List, [], ◌∷◌, ◌++◌, map, flat_map, codes, decimal, Result, Ok}
use Rattle.asm_defs.specs.Disassembler.{line_text, text_tokens, word_tokens}
use Rattle.asm_defs.specs.ImageText.{hex_text}
use Rattle.asm_defs.specs.Keys.{entry_keys, key_text}
use Rattle.asm_defs.specs.Results.{◌>>=◌}
use Rattle.asm_defs.specs.declared.assembler.AsmFault.{AsmFault}
use Rattle.asm_defs.specs.declared.assembler.Label.{Label}
use Rattle.asm_defs.specs.declared.assembler.Section.{Section}
use Rattle.asm_defs.specs.declared.assembler.Section.TheVariants as section
use Rattle.nook_data.specs.declared.scenario.Image.{Image}
use Rattle.nook_data.specs.declared.memory_map.TheConstants.{DATA_START}
use Rattle.driver_asm.specs.Listed.{listed}
use Rattle.driver_asm.specs.declared.listed.Listed.{Listed}

-- The listing of an assembler text, as lines of tokens: its words with their addresses and lines, its labels and its
-- entries.

-- a word of the image, with its address and the line that made it
pub record Row : Type 0 where
  pub address : ℕ
  pub word : ℕ
  pub line : ℕ

-- words in order from an address on, each with its line
abbrev pub rows_from : ℕ → List ℕ → List ℕ → List Row
rows_from address (word ∷ words) (line ∷ lines) =
    record { address = address; word = word; line = line } ∷ rows_from (address + 1) words lines
rows_from address _ _ = []

-- the words of the text, and the initial words; the latter come after the 2,048 words that a text may have
abbrev pub text_rows : Listed → List Row
text_rows l = rows_from 0 l.image.text l.text_lines

abbrev pub initial_rows : Listed → List Row
initial_rows l = rows_from DATA_START l.image.initial l.initial_lines

-- what a word of a section says: for a text word its instruction, if it is one
abbrev pub word_says : Section → ℕ → List (List ℕ)
word_says section.Text word = text_tokens word
word_says section.Data word = word_tokens word

-- address, word, line and what the word says
abbrev pub row_tokens : Section → Row → List (List ℕ)
row_tokens in_section row = decimal row.address ∷ hex_text 8 row.word ∷ decimal row.line ∷ word_says in_section row.word

-- a label and its address
abbrev pub label_tokens : Label → List (List ℕ)
label_tokens label = codes "label" ∷ label.name ∷ decimal label.address ∷ []

-- an entry's name and its address
abbrev pub entry_tokens : List ℕ → ℕ → List (List ℕ)
entry_tokens name address = codes "entry" ∷ name ∷ decimal address ∷ []

-- names with their addresses
abbrev pub named_entries : List (List ℕ) → List ℕ → List (List (List ℕ))
named_entries (name ∷ names) (address ∷ addresses) = entry_tokens name address ∷ named_entries names addresses
named_entries _ _ = []

-- the entries of an image, in the class's order
abbrev pub listed_entries : Image → List (List (List ℕ))
listed_entries image = named_entries (map key_text (entry_keys image.class)) image.entries

-- all lines of a listing
unfoldable pub list_lines : Listed → List (List (List ℕ))
list_lines l = map (row_tokens section.Text) (text_rows l)
    ++ (map (row_tokens section.Data) (initial_rows l) ++ (map label_tokens l.labels ++ listed_entries l.image))

-- the listing of a text, or the text's first error
unfoldable pub list_text : List ℕ → Result (List ℕ) AsmFault
list_text text = do
  l ← listed text
  Ok (flat_map line_text (list_lines l))
