use Rattle.std.specs.Prelude.{ℕ, ◌+◌, ◌-◌, ◌==◌, ◌++◌, nat_lt, List, [], ◌∷◌, length, replicate, slice_get, slice_set}
use Rattle.std.specs.Prelude.{Bool, true, false, not, ◌||◌, Option, Some, None, is_some, option_map, Result, Ok, Err, ⊤}
use Rattle.std.specs.Prelude.{if◌then◌else◌}
use Rattle.nook_data.specs.declared.memory_map.TheConstants.{TEXT_WORDS, DATA_START, DATA_WORDS}
use Rattle.asm_defs.specs.AsmLines.{Labels, first_of, definition_of, line_says}
use Rattle.asm_defs.specs.AsmTokens.{is_register, lines_of}
use Rattle.asm_defs.specs.AsmTokens.{tokens_of}
use Rattle.nook_data.specs.Classes.{entry_count}
use Rattle.machine_defs.specs.Machine.{encode_of}
use Rattle.machine_defs.specs.Mnemonics.{instr_with}
use Rattle.asm_defs.specs.Results.{◌>>=◌}
use Rattle.asm_defs.specs.Types.{AsmFault, AsmKind, Label, Section, Statement, Value}
use Rattle.nook_data.specs.Types.{Class, Image}
use Rattle.asm_defs.specs.declared.assembler.AsmKind.TheVariants as fault
use Rattle.asm_defs.specs.declared.assembler.Section.TheVariants as section
use Rattle.asm_defs.specs.declared.assembler.Statement.TheVariants as statement
use Rattle.asm_defs.specs.declared.assembler.Value.TheVariants as value

-- ---- first pass: the labels

-- where the next words go: the line, the section, and how many words each section has
pub record Cursor : Type 0 where
  pub line : ℕ
  pub in_section : Section
  pub text : ℕ
  pub initial : ℕ

-- the address of the next word; initial words follow the 2,048 words of the text
abbrev pub address_in : Section → Cursor → ℕ
address_in section.Text at = at.text
address_in section.Data at = DATA_START + at.initial

-- the label that a line defines; a register's name defines none
abbrev pub label_of : Option (List ℕ) → Cursor → List Label
label_of None at = []
label_of (Some name) at =
    if is_register name then [] else record { name = name; address = address_in at.in_section at; line = at.line } ∷ []

-- the cursor after one more word in a section
abbrev pub one_word : Section → Cursor → Cursor
one_word section.Text at = record at { text = at.text + 1 }
one_word section.Data at = record at { initial = at.initial + 1 }

-- the cursor after what a line says, without counting the line; if `line_says` finds an error, the line adds no word
-- and stays in the section
abbrev pub cursor_after : Result Statement AsmKind → Cursor → Cursor
cursor_after (Ok (statement.Section in_section)) at = record at { in_section = in_section }
cursor_after (Ok (statement.Word value)) at = one_word at.in_section at
cursor_after (Ok (statement.Instr mnemonic operands)) at = one_word at.in_section at
cursor_after _ at = at

-- the labels that the lines define, in order. No address depends on a label's value or on the class.
unfoldable pub labels_from : Cursor → List (List ℕ) → List Label
labels_from at [] = []
labels_from at (line ∷ more) =
    let tokens = tokens_of line in
    let next = cursor_after (line_says (λ name. None) None at.in_section tokens) at in
    label_of (definition_of tokens) at ++ labels_from (record next { line = next.line + 1 }) more

-- the cursor at the first line
abbrev pub first_cursor : Cursor
first_cursor = record { line = 1; in_section = section.Text; text = 0; initial = 0 }

-- ---- second pass: the image

-- what the lines so far give; `entries` has an item for each entry of the class
pub record Draft : Type 0 where
  pub class : Option Class
  pub entries : List (Option ℕ)
  pub in_section : Section
  pub text : List ℕ
  pub initial : List ℕ

-- nothing is given yet, and the section is the text
abbrev pub first_draft : Draft
first_draft = record { class = None; entries = []; in_section = section.Text; text = []; initial = [] }

-- an error if a test holds
abbrev pub fault_if : Bool → AsmKind → Result ⊤ AsmKind
fault_if true kind = Err kind
fault_if false kind = Ok tt

-- a known value is above the most that is allowed
abbrev pub is_above : ℕ → Value → Bool
is_above most (value.Known number) = nat_lt most number
is_above most value.Missing = false

-- a value is out of its range
abbrev pub is_out_of_range : Statement → Bool
is_out_of_range (statement.Entry address value) = is_above (TEXT_WORDS - 1) value
is_out_of_range (statement.Word value) = is_above 4294967295 value
is_out_of_range (statement.Instr mnemonic operands) = is_above 65535 operands.imm
is_out_of_range _ = false

-- the line defines a name again: its first definition is on another line
abbrev pub is_second_label : Labels → ℕ → Option (List ℕ) → Bool
is_second_label labels line None = false
is_second_label labels line (Some name) =
    elim (labels name) [ None ↦ false | Some label ↦ not (label.line == line) ]

-- the class or the entry was given before
abbrev pub is_second_given : Draft → Statement → Bool
is_second_given draft (statement.Class class) = is_some draft.class
is_second_given draft (statement.Entry address value) =
    elim (slice_get draft.entries address) [ Some (Some number) ↦ true | _ ↦ false ]
is_second_given draft _ = false

-- the number of a value; its label must be defined
abbrev pub known : Value → Result ℕ AsmKind
known (value.Known number) = Ok number
known value.Missing = Err fault.MissingLabel

-- the draft with one more word, of at most 2,048 in each section
abbrev pub with_word : Section → ℕ → Draft → Result Draft AsmKind
with_word section.Text word draft =
    if nat_lt (length draft.text) TEXT_WORDS then Ok (record draft { text = draft.text ++ word ∷ [] })
    else Err fault.TextTooLong
with_word section.Data word draft =
    if nat_lt (length draft.initial) DATA_WORDS then Ok (record draft { initial = draft.initial ++ word ∷ [] })
    else Err fault.DataTooLong

-- the draft after a statement; a class begins with none of its entries given
abbrev pub with_statement : Statement → Draft → Result Draft AsmKind
with_statement statement.Nothing draft = Ok draft
with_statement (statement.Class class) draft =
    Ok (record draft { class = Some class; entries = replicate (entry_count class) None })
with_statement (statement.Entry address value) draft =
    known value >>= λ number. Ok (record draft { entries = slice_set draft.entries address (Some number) })
with_statement (statement.Section in_section) draft = Ok (record draft { in_section = in_section })
with_statement (statement.Word value) draft = known value >>= λ number. with_word draft.in_section number draft
with_statement (statement.Instr mnemonic operands) draft = known operands.imm >>= λ imm.
    with_word draft.in_section (encode_of (instr_with mnemonic operands.a operands.b imm)) draft

-- the draft after a line, or the line's smallest kind of error: one of `line_says`, then NumberRange, then DoubleLabel,
-- then MissingLabel, TextTooLong or DataTooLong
unfoldable pub draft_after : Labels → ℕ → List (List ℕ) → Draft → Result Draft AsmKind
draft_after labels line tokens draft = do
  says ← line_says labels draft.class draft.in_section tokens
  in_range ← fault_if (is_out_of_range says) fault.NumberRange
  first ← fault_if (is_second_label labels line (definition_of tokens) || is_second_given draft says) fault.DoubleLabel
  with_statement says draft

-- an error at a line
abbrev pub at_line : {T : Type 0} → ℕ → Result T AsmKind → Result T AsmFault
at_line line (Ok made) = Ok made
at_line line (Err kind) = Err (record { kind = kind; line = line })

-- the draft after all lines, the first of which has this number, or the error of the first line that has one
unfoldable pub draft_from : Labels → ℕ → List (List ℕ) → Draft → Result Draft AsmFault
draft_from labels line [] draft = Ok draft
draft_from labels line (first ∷ more) draft =
    at_line line (draft_after labels line (tokens_of first) draft) >>= λ next. draft_from labels (line + 1) more next

-- the values, if all are given
abbrev pub all_given : List (Option ℕ) → Option (List ℕ)
all_given [] = Some []
all_given (None ∷ more) = None
all_given (Some number ∷ more) = option_map (number ∷◌) (all_given more)

-- the image of a draft that has a class and its entries
abbrev pub image_with : Option Class → Option (List ℕ) → Draft → Result Image AsmKind
image_with (Some class) (Some entries) draft =
    Ok (record { class = class; entries = entries; text = draft.text; initial = draft.initial })
image_with _ _ draft = Err fault.MissingEntry

-- the image of an assembler text, or its first error. A missing class or entry is reported after the last line.
unfoldable pub assembled : List ℕ → Result Image AsmFault
assembled text = let lines = lines_of text in do
  draft ← draft_from (first_of (labels_from first_cursor lines)) 1 lines first_draft
  at_line (length lines + 1) (image_with draft.class (all_given draft.entries) draft)
