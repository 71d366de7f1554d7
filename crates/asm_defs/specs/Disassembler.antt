use Rattle.std.specs.Prelude.{ℕ, List, [], ◌∷◌, ◌++◌, map, flat_map, codes, decimal, Some, None}
use Rattle.asm_defs.specs.AsmTokens.{register_text}
use Rattle.asm_defs.specs.Keys.{key_text, entry_keys}
use Rattle.nook_data.specs.ClassNames.{class_text}
use Rattle.machine_defs.specs.Machine.{decode_of}
use Rattle.machine_defs.specs.Mnemonics.{Fields, fields_of, form_of, mnemonic_text}
use Rattle.nook_data.specs.Types.{Form, Image}
use Rattle.asm_defs.specs.Types.{Key}
use Rattle.nook_data.specs.declared.machine.Form.TheVariants as form

-- The text of an image, as lines of tokens: its class, its entries, its text words and its initial words.

-- the operands of a form
abbrev pub operand_tokens : Form → Fields → List (List ℕ)
operand_tokens form.Bare f = []
operand_tokens form.A f = register_text f.a ∷ []
operand_tokens form.Imm f = decimal f.imm ∷ []
operand_tokens form.AB f = register_text f.a ∷ register_text f.b ∷ []
operand_tokens form.AImm f = register_text f.a ∷ decimal f.imm ∷ []
operand_tokens form.ABImm f = register_text f.a ∷ register_text f.b ∷ decimal f.imm ∷ []

-- `.word` and the number
abbrev pub word_tokens : ℕ → List (List ℕ)
word_tokens word = codes ".word" ∷ decimal word ∷ []

-- the line of a text word: its instruction's mnemonic and operands, or the number if it is no instruction
abbrev pub text_tokens : ℕ → List (List ℕ)
text_tokens word = elim (decode_of word) [
  | Some instr ↦
      let f = fields_of instr in mnemonic_text f.mnemonic ∷ operand_tokens (form_of f.mnemonic) f
  | None ↦ word_tokens word
]

-- a line for each entry, in the class's order; an image has an address for each
abbrev pub entry_lines : List Key → List ℕ → List (List (List ℕ))
entry_lines (entry ∷ more) (address ∷ addresses) =
    (codes ".entry" ∷ key_text entry ∷ decimal address ∷ []) ∷ entry_lines more addresses
entry_lines _ _ = []

-- the lines of the initial words, if there are any
abbrev pub initial_lines : List ℕ → List (List (List ℕ))
initial_lines [] = []
initial_lines (word ∷ more) = (codes ".data" ∷ []) ∷ map word_tokens (word ∷ more)

-- all lines of an image, beginning with its class
unfoldable pub image_lines : Image → List (List (List ℕ))
image_lines image =
    (codes ".class" ∷ class_text image.class ∷ []) ∷ entry_lines (entry_keys image.class) image.entries
    ++ (map text_tokens image.text ++ initial_lines image.initial)

-- tokens separated by spaces
abbrev pub line_body : List (List ℕ) → List ℕ
line_body [] = []
line_body (first ∷ rest) = first ++ flat_map (λ token. 32 ∷ token) rest

-- a line's text
abbrev pub line_text : List (List ℕ) → List ℕ
line_text tokens = line_body tokens ++ 10 ∷ []

-- the assembler text of an image
unfoldable pub disassembled : Image → List ℕ
disassembled image = flat_map line_text (image_lines image)
