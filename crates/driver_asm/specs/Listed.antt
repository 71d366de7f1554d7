use Rattle.std.specs.Prelude.{◌≡◌, ℕ, ◌+◌, List, [], ◌∷◌, ◌++◌, length, nat_lt, Bool, Result, Ok, Err, if◌then◌else◌}
use Rattle.asm_defs.specs.AsmLines.{Labels, first_of}
use Rattle.asm_defs.specs.AsmTokens.{lines_of, tokens_of}
use Rattle.asm_defs.specs.Assembler.{Draft, assembled, at_line, draft_after, first_draft, first_cursor, labels_from}
use Rattle.asm_defs.specs.Results.{◌>>=◌}
use Rattle.asm_defs.specs.declared.assembler.AsmFault.{AsmFault}
use Rattle.asm_defs.specs.declared.assembler.AsmKind.{AsmKind}
use Rattle.asm_defs.specs.declared.assembler.Section.{Section}
use Rattle.asm_defs.specs.declared.assembler.Section.TheVariants as section
use Rattle.driver_asm.specs.Answers.{Fails}
use Rattle.driver_asm.specs.declared.error.AsmError.{AsmError}
use Rattle.driver_asm.specs.declared.listed.Listed.{Listed}
use Rattle.driver_asm.specs.declared.listed.Made.{Made}

-- An assembled text and the origin of its parts: the line that made each word, and the labels.

-- the words of a section
abbrev pub words_in : Section → Draft → List ℕ
words_in section.Text draft = draft.text
words_in section.Data draft = draft.initial

-- the line, if it made a word
abbrev pub line_if : Bool → ℕ → List ℕ
line_if made line = if made then line ∷ [] else []

-- the line, if it made the section longer
abbrev pub if_longer : ℕ → List ℕ → List ℕ → List ℕ
if_longer line before after = line_if (nat_lt (length before) (length after)) line

-- a list that depends on the draft after a line; empty if the line has an error
abbrev pub after_draft : (Draft → List ℕ) → Result Draft AsmKind → List ℕ
after_draft rest (Ok next) = rest next
after_draft rest (Err kind) = []

-- the numbers of the lines that made a section's words, one for each word and in the words' order; the first line of
-- the list has this number
unfoldable pub makers : Section → Labels → ℕ → List (List ℕ) → Draft → List ℕ
makers in_section labels line [] draft = []
makers in_section labels line (first ∷ more) draft = after_draft
    (λ next. if_longer line (words_in in_section draft) (words_in in_section next)
    ++ makers in_section labels (line + 1) more next)
    (draft_after labels line (tokens_of first) draft)

-- the image of a text with the lines of its words, counted from 1, and its labels in the order of their definitions;
-- or the text's first error
unfoldable pub listed : List ℕ → Result Listed AsmFault
listed text = let lines = lines_of text in let labels = labels_from first_cursor lines in do
  image ← assembled text
  Ok (record {
    image = image;
    text_lines = makers section.Text (first_of labels) 1 lines first_draft;
    initial_lines = makers section.Data (first_of labels) 1 lines first_draft;
    labels = labels;
  })

-- ---- what the code keeps

-- a line's draft, and the lines of the words including those before; or the line's error
abbrev pub Grows : Result Made AsmError → Made → ℕ → Result Draft AsmKind → Type 0
Grows (Ok made) before line after =
    (after ≡ Ok made.draft)
    × (made.text_lines ≡ before.text_lines ++ if_longer line before.draft.text made.draft.text)
    × (made.initial_lines ≡ before.initial_lines ++ if_longer line before.draft.initial made.draft.initial)
Grows (Err why) before line after = Fails why (at_line line after)

-- the draft of all lines and the lines of its words, or the first error
abbrev pub MakesAll : Result Made AsmError → Labels → List (List ℕ) → Result Draft AsmFault → Type 0
MakesAll (Ok made) labels lines whole =
    (whole ≡ Ok made.draft)
    × (made.text_lines ≡ makers section.Text labels 1 lines first_draft)
    × (made.initial_lines ≡ makers section.Data labels 1 lines first_draft)
MakesAll (Err why) labels lines whole = Fails why whole
