use Rattle.std.specs.Prelude.{ℕ, ◌+◌, ◌==◌, not, Bool, true, false, List, [], ◌∷◌, codes, replicate, Option, Some, None}
use Rattle.std.specs.Prelude.{Result, Ok, Err, if◌then◌else◌}
use Rattle.asm_defs.specs.AsmLines.{Labels, bare_statement, directive_statement, entry_value, instr_statement, of_name}
use Rattle.asm_defs.specs.AsmTokens.{is_register}
use Rattle.asm_defs.specs.Assembler.{Cursor, Draft}
use Rattle.nook_data.specs.Classes.{entry_count}
use Rattle.asm_defs.specs.Disassembler.{operand_tokens, word_tokens}
use Rattle.nook_data.specs.ClassNames.{class_text}
use Rattle.machine_defs.specs.Mnemonics.{Fields, fields_of}
use Rattle.machine_defs.specs.Mnemonics.{form_of, mnemonic_named, mnemonic_text}
use Rattle.asm_defs.specs.Types.{AsmKind, Label}
use Rattle.nook_data.specs.Types.{Class, Instr}
use Rattle.nook_data.specs.Types.{Mnemonic}
use Rattle.asm_defs.specs.Types.{Section, Statement, TokenKind, Value}
use Rattle.asm_defs.specs.declared.assembler.AsmKind.TheVariants as fault
use Rattle.asm_defs.specs.declared.assembler.Statement.TheVariants as statement
use Rattle.asm_defs.specs.declared.assembler.TokenKind.TheVariants as kind
use Rattle.asm_defs.specs.declared.assembler.Value.TheVariants as value

-- Names for pieces of the assembler's and the disassembler's definitions. The contracts of their code and the laws of
-- both use them.

-- ---- bytes and tokens

-- a line ends here
abbrev pub is_line_feed : ℕ → Bool
is_line_feed b = b == 10

-- anything but the `;` that begins a comment
abbrev pub is_before_comment : ℕ → Bool
is_before_comment b = not (b == 59)

-- a token that is not in the language
abbrev pub is_bad : TokenKind → Bool
is_bad kind.Bad = true
is_bad _ = false

-- ---- a line

-- no name is defined
abbrev pub no_labels : Labels
no_labels name = None

-- the address of a label, if it is defined
abbrev pub label_value : Option Label → Value
label_value None = value.Missing
label_value (Some label) = value.Known label.address

-- the value of a token of a kind: a number, or a name other than a register's
abbrev pub value_by : TokenKind → Labels → List ℕ → Option Value
value_by token_kind labels token = elim token_kind [
  | kind.Number number ↦ Some (value.Known number)
  | kind.Name ↦ if is_register token then None else Some (label_value (labels token))
  | _ ↦ None
]

-- the register of a form without one
abbrev pub no_register : Option ℕ
no_register = Some 0

-- the immediate of a form without one
abbrev pub no_value : Option Value
no_value = Some (value.Known 0)

-- if the first token is a name, it must be a mnemonic
abbrev pub named_statement : Labels → Section → Option Mnemonic → List (List ℕ) → Result Statement AsmKind
named_statement labels section named rest = of_name named (λ mnemonic. instr_statement labels section mnemonic rest)

-- `.class` and a name
abbrev pub class_by : TokenKind → Option Class → List (List ℕ) → Result Statement AsmKind
class_by token_kind named more = elim token_kind [
  | kind.Name ↦ of_name named (λ class. bare_statement (statement.Class class) more)
  | _ ↦ Err fault.WrongOperands
]

-- `.entry` by the index of its name
abbrev pub entry_by : Labels → TokenKind → Option ℕ → List (List ℕ) → Result Statement AsmKind
entry_by labels token_kind named more = elim token_kind [
  | kind.Name ↦ of_name named (λ address. entry_value labels address more)
  | _ ↦ Err fault.WrongOperands
]

-- a statement, by the kind of its first token
abbrev pub statement_by : TokenKind → Labels → Option Class → Section → List ℕ → List (List ℕ)
    → Result Statement AsmKind
statement_by token_kind labels class section first rest = elim token_kind [
  | kind.Name ↦ named_statement labels section (mnemonic_named first) rest
  | kind.Directive ↦ directive_statement labels class first rest
  | _ ↦ Err fault.WrongOperands
]

-- the smaller of a statement's error and WrongOperands
abbrev pub at_most_wrong : Result Statement AsmKind → Result Statement AsmKind
at_most_wrong (Ok says) = Err fault.WrongOperands
at_most_wrong (Err kind) = Err kind

-- ---- both passes

-- the cursor one line further
abbrev pub next_line : Cursor → Cursor
next_line at = record at { line = at.line + 1 }

-- the first definition of the name is on another line
abbrev pub is_other_line : Option Label → ℕ → Bool
is_other_line label line = elim label [ None ↦ false | Some label ↦ not (label.line == line) ]

-- the class has this entry, and it is given
abbrev pub is_given : Option (Option ℕ) → Bool
is_given (Some (Some number)) = true
is_given _ = false

-- the draft with its class, and none of its entries given
abbrev pub with_class : Class → Draft → Draft
with_class class draft = record draft { class = Some class; entries = replicate (entry_count class) None }

-- ---- texts of images

-- a mnemonic and its operands
abbrev pub instr_tokens : Fields → List (List ℕ)
instr_tokens f = mnemonic_text f.mnemonic ∷ operand_tokens (form_of f.mnemonic) f

-- a text word: its instruction, or the number if it is no instruction
abbrev pub decoded_tokens : Option Instr → ℕ → List (List ℕ)
decoded_tokens decoded word = elim decoded [ Some instr ↦ instr_tokens (fields_of instr) | None ↦ word_tokens word ]

-- the line of the class
abbrev pub class_tokens : Class → List (List ℕ)
class_tokens class = codes ".class" ∷ class_text class ∷ []

-- a token that follows another
abbrev pub later_token : List ℕ → List ℕ
later_token token = 32 ∷ token
