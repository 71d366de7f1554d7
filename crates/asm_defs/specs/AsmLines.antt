use Rattle.std.specs.Prelude.{ℕ, ◌+◌, List, [], ◌∷◌, codes, bytes_eq, Bool, true, false, Option, Some, None, Result, Ok}
use Rattle.std.specs.Prelude.{Err, if◌then◌else◌}
use Rattle.std.specs.List.{find, list_any}
use Rattle.asm_defs.specs.AsmTokens.{kind_of, but_last, register_named, is_register}
use Rattle.asm_defs.specs.Keys.{key_text}
use Rattle.nook_data.specs.ClassNames.{class_named}
use Rattle.asm_defs.specs.Keys.{entry_keys}
use Rattle.machine_defs.specs.Mnemonics.{mnemonic_named, form_of}
use Rattle.asm_defs.specs.Types.{AsmKind, Key}
use Rattle.nook_data.specs.Types.{Class, Form}
use Rattle.asm_defs.specs.Types.{Label, Operands, Section, Statement, TokenKind, Value}
use Rattle.nook_data.specs.Types.{Mnemonic}
use Rattle.asm_defs.specs.declared.assembler.AsmKind.TheVariants as fault
use Rattle.nook_data.specs.declared.machine.Form.TheVariants as form
use Rattle.asm_defs.specs.declared.assembler.Section.TheVariants as section
use Rattle.asm_defs.specs.declared.assembler.Statement.TheVariants as statement
use Rattle.asm_defs.specs.declared.assembler.TokenKind.TheVariants as kind
use Rattle.asm_defs.specs.declared.assembler.Value.TheVariants as value

-- What the tokens of one line say, or the smallest of its errors among BadToken, UnknownName and WrongOperands. It
-- depends only on the labels' values, on the class so far, and on the line's section.

-- the definition of each name, if it has one
abbrev pub Labels : Type 0
Labels = List ℕ → Option Label

-- the first definition of a name
abbrev pub first_of : List Label → Labels
first_of labels name = find (λ label. bytes_eq name label.name) labels

-- ---- operands

-- the value of a token: a number, or for a name other than a register's the address of its label, if it is defined
unfoldable pub value_of : Labels → List ℕ → Option Value
value_of labels token = elim (kind_of token) [
  | kind.Number number ↦ Some (value.Known number)
  | kind.Name ↦
      if is_register token then None
      else Some (elim (labels token) [ None ↦ value.Missing | Some label ↦ value.Known label.address ])
  | _ ↦ None
]

-- registers and a value, if all are right
abbrev pub operands_with : Option ℕ → Option ℕ → Option Value → Option Operands
operands_with (Some a) (Some b) (Some imm) = Some (record { a = a; b = b; imm = imm })
operands_with _ _ _ = None

-- the operands of a form, 0 for those it lacks; None if there are more or fewer, or one is of the wrong kind
unfoldable pub operands_of : Labels → Form → List (List ℕ) → Option Operands
operands_of labels form.Bare [] = operands_with (Some 0) (Some 0) (Some (value.Known 0))
operands_of labels form.A (a ∷ []) = operands_with (register_named a) (Some 0) (Some (value.Known 0))
operands_of labels form.Imm (imm ∷ []) = operands_with (Some 0) (Some 0) (value_of labels imm)
operands_of labels form.AB (a ∷ b ∷ []) = operands_with (register_named a) (register_named b) (Some (value.Known 0))
operands_of labels form.AImm (a ∷ imm ∷ []) = operands_with (register_named a) (Some 0) (value_of labels imm)
operands_of labels form.ABImm (a ∷ b ∷ imm ∷ []) =
    operands_with (register_named a) (register_named b) (value_of labels imm)
operands_of _ _ _ = None

-- ---- statements

-- a statement, if its operands are right
abbrev pub right_or_wrong : {T : Type 0} → (T → Statement) → Option T → Result Statement AsmKind
right_or_wrong says (Some right) = Ok (says right)
right_or_wrong says None = Err fault.WrongOperands

-- what a name says, by what it names; it must name something
abbrev pub of_name : {T : Type 0} → Option T → (T → Result Statement AsmKind) → Result Statement AsmKind
of_name (Some named) says = says named
of_name None says = Err fault.UnknownName

-- an instruction, which may occur only in the text section
abbrev pub instr_statement : Labels → Section → Mnemonic → List (List ℕ) → Result Statement AsmKind
instr_statement labels section.Text mnemonic rest =
    right_or_wrong (statement.Instr mnemonic) (operands_of labels (form_of mnemonic) rest)
instr_statement labels section.Data mnemonic rest = Err fault.WrongOperands

-- a directive without operands
abbrev pub bare_statement : Statement → List (List ℕ) → Result Statement AsmKind
bare_statement says [] = Ok says
bare_statement says (token ∷ more) = Err fault.WrongOperands

-- `.word` and one value
unfoldable pub word_statement : Labels → List (List ℕ) → Result Statement AsmKind
word_statement labels (token ∷ []) = right_or_wrong statement.Word (value_of labels token)
word_statement labels _ = Err fault.WrongOperands

-- `.class` and one class; a name that is no class is reported before excess operands
unfoldable pub class_statement : List (List ℕ) → Result Statement AsmKind
class_statement [] = Err fault.WrongOperands
class_statement (name ∷ more) = elim (kind_of name) [
  | kind.Name ↦ of_name (class_named name) (λ class. bare_statement (statement.Class class) more)
  | _ ↦ Err fault.WrongOperands
]

-- the index of an entry's name among the entries of a class
abbrev pub position_among : ℕ → List Key → List ℕ → Option ℕ
position_among index [] name = None
position_among index (known ∷ more) name =
    if bytes_eq name (key_text known) then Some index else position_among (index + 1) more name

-- the one value of an entry
abbrev pub entry_value : Labels → ℕ → List (List ℕ) → Result Statement AsmKind
entry_value labels index (token ∷ []) = right_or_wrong (statement.Entry index) (value_of labels token)
entry_value labels index _ = Err fault.WrongOperands

-- `.entry`, a name of the class so far and a value; a name that the class lacks is reported before too few or too many
-- operands
unfoldable pub entry_statement : Labels → Option Class → List (List ℕ) → Result Statement AsmKind
entry_statement labels (Some class) (name ∷ more) = elim (kind_of name) [
  | kind.Name ↦ of_name (position_among 0 (entry_keys class) name) (λ index. entry_value labels index more)
  | _ ↦ Err fault.WrongOperands
]
entry_statement labels _ _ = Err fault.WrongOperands

-- one of the five directives and its operands
unfoldable pub directive_statement : Labels → Option Class → List ℕ → List (List ℕ) → Result Statement AsmKind
directive_statement labels class directive rest =
    if bytes_eq directive (codes ".class") then class_statement rest
    else if bytes_eq directive (codes ".entry") then entry_statement labels class rest
    else if bytes_eq directive (codes ".text") then bare_statement (statement.Section section.Text) rest
    else if bytes_eq directive (codes ".data") then bare_statement (statement.Section section.Data) rest
    else if bytes_eq directive (codes ".word") then word_statement labels rest
    else Err fault.WrongOperands

-- what the tokens after the definition say; if the first is a name, it must be a mnemonic
unfoldable pub statement_of : Labels → Option Class → Section → List (List ℕ) → Result Statement AsmKind
statement_of labels class section [] = Ok statement.Nothing
statement_of labels class section (first ∷ rest) = elim (kind_of first) [
  | kind.Name ↦ of_name (mnemonic_named first) (λ mnemonic. instr_statement labels section mnemonic rest)
  | kind.Directive ↦ directive_statement labels class first rest
  | _ ↦ Err fault.WrongOperands
]

-- ---- lines

-- a name and a colon
abbrev pub is_definition : TokenKind → Bool
is_definition kind.Definition = true
is_definition _ = false

-- the name that a line defines, even a register's
abbrev pub definition_of : List (List ℕ) → Option (List ℕ)
definition_of [] = None
definition_of (first ∷ rest) = if is_definition (kind_of first) then Some (but_last first) else None

-- the tokens after the definition
abbrev pub after_definition : List (List ℕ) → List (List ℕ)
after_definition [] = []
after_definition (first ∷ rest) = if is_definition (kind_of first) then rest else first ∷ rest

-- one of the tokens is not in the language
abbrev pub has_bad_token : List (List ℕ) → Bool
has_bad_token tokens = list_any (λ token. elim (kind_of token) [ kind.Bad ↦ true | _ ↦ false ]) tokens

-- a register's name may not be defined: such a line has WrongOperands, or its statement's error if that is smaller
abbrev pub after_name : Option (List ℕ) → Result Statement AsmKind → Result Statement AsmKind
after_name None said = said
after_name (Some name) said =
    if is_register name then elim said [ Ok says ↦ Err fault.WrongOperands | Err kind ↦ Err kind ] else said

-- what a line says, or the smallest of its errors among BadToken, UnknownName and WrongOperands
unfoldable pub line_says : Labels → Option Class → Section → List (List ℕ) → Result Statement AsmKind
line_says labels class section tokens =
    if has_bad_token tokens then Err fault.BadToken
    else after_name (definition_of tokens) (statement_of labels class section (after_definition tokens))
