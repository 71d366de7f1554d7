-- The image that a text assembles to is within the limits of images.
use Rattle.std.proofs.Common.{◌≡◌, ◌∙◌, refl, sym, subst, ap, ℕ, ◌+◌, ◌*◌, ◌<◌, ◌≤◌, ◌^◌, ◌==◌, ◌&&◌, ◌||◌, Bool, true, false, nat_le, nat_lt, List, [], ◌∷◌, ◌++◌, length, replicate, Option, Some, None, arith, lit≤, lit<, length-append, if◌then◌else◌}
use Rattle.std.specs.Prelude.{Result, Ok, Err, IfOk, IfSome, All, slice_index, slice_set, codes, bytes_eq, option_map}
use Rattle.std.specs.List.{find, list_all}
use Rattle.std.proofs.lemmas.Bool.{leb-true, ltb-true, ltb-false, and_parts}
use Rattle.std.proofs.lemmas.List.{length-replicate}
use Rattle.std.proofs.lemmas.List.Elements.{All-nil, All-cons, All-head, All-tail, All-push, All-set, All-replicate}
use Rattle.std.proofs.Math.ListN.{length-set}
use Rattle.asm_defs.specs.AsmLines.{Labels, first_of, definition_of, after_definition, has_bad_token, after_name}
use Rattle.asm_defs.specs.AsmLines.{line_says, operands_with, operands_of, value_of, right_or_wrong, instr_statement}
use Rattle.asm_defs.specs.AsmLines.{bare_statement, word_statement, class_statement, position_among, entry_value}
use Rattle.asm_defs.specs.AsmLines.{entry_statement, directive_statement, statement_of}
use Rattle.asm_defs.specs.Views.Assembling.{at_most_wrong, no_register, no_value, named_statement, class_by, entry_by}
use Rattle.asm_defs.specs.Views.Assembling.{statement_by}
use Rattle.asm_defs.specs.AsmTokens.{kind_of, is_register, lines_of, register_named, register_text, tokens_of}
use Rattle.asm_defs.specs.Assembler.{Draft, all_given, assembled, at_line, draft_after, draft_from, fault_if}
use Rattle.asm_defs.specs.Assembler.{first_draft, first_cursor, image_with, is_above, is_out_of_range, is_second_given}
use Rattle.asm_defs.specs.Assembler.{is_second_label, known, labels_from, with_statement, with_word}
use Rattle.asm_defs.specs.Views.Assembling.{with_class}
use Rattle.nook_data.specs.Classes.{entry_count}
use Rattle.nook_data.specs.ClassNames.{class_named}
use Rattle.asm_defs.specs.Keys.{entry_keys}
use Rattle.machine_defs.specs.Machine.{encode_of, word_of}
use Rattle.machine_defs.specs.Mnemonics.{Fields, form_of, instr_with, instruction_row, mnemonic_named}
use Rattle.machine_defs.proofs.Instructions.{each, fields_back, fields_in}
use Rattle.asm_defs.proofs.AsmInstrs.{fields_mnemonic}
use Rattle.asm_defs.specs.Results.{◌>>=◌}
use Rattle.nook_data.specs.Valid.{AreWords, IsValidImage, IsWord}
use Rattle.nook_data.specs.Views.Limits.{IsTextAddress}
use Rattle.asm_defs.specs.declared.assembler.AsmFault.{AsmFault}
use Rattle.asm_defs.specs.declared.assembler.AsmKind.{AsmKind}
use Rattle.asm_defs.specs.declared.assembler.AsmKind.TheVariants as fault
use Rattle.nook_data.specs.declared.machine.Form.{Form}
use Rattle.nook_data.specs.declared.machine.Form.TheVariants as form
use Rattle.nook_data.specs.declared.machine.Mnemonic.{Mnemonic}
use Rattle.asm_defs.specs.declared.assembler.Operands.{Operands}
use Rattle.asm_defs.specs.declared.assembler.Section.{Section}
use Rattle.asm_defs.specs.declared.assembler.Section.TheVariants as section
use Rattle.asm_defs.specs.declared.assembler.Statement.{Statement}
use Rattle.asm_defs.specs.declared.assembler.Statement.TheVariants as statement
use Rattle.asm_defs.specs.declared.assembler.TokenKind.{TokenKind}
use Rattle.asm_defs.specs.declared.assembler.TokenKind.TheVariants as kind
use Rattle.asm_defs.specs.declared.assembler.Value.{Value}
use Rattle.asm_defs.specs.declared.assembler.Value.TheVariants as value
use Rattle.nook_data.specs.declared.classes.Class.{Class}
use Rattle.nook_data.specs.declared.scenario.Image.{Image}
use Rattle.reading_laws.proofs.Readings.{chained, passed}

-- ---- words of instructions

-- fields in range form a word
word_fits : (op a b imm : ℕ) → op ≤ 255 → a ≤ 15 → b ≤ 15 → imm ≤ 65535 → word_of op a b imm < 2 ^ 32
word_fits op a b imm ho ha hb hi = omega arith

zero : 0 ≤ 15
zero = lit≤ tt

number_fits : (m : Mnemonic) → (instruction_row m).number ≤ 255
number_fits m = leb-true (instruction_row m).number 255 (each (λ m. nat_le (instruction_row m).number 255) refl m)

form_fits : (m : Mnemonic) (x : Form) (a b imm : ℕ) → a ≤ 15 → b ≤ 15 → imm ≤ 65535
    → IsWord (word_of (instruction_row m).number (fields_in m x a b imm).a (fields_in m x a b imm).b (fields_in m x a b imm).imm)
form_fits m form.Bare a b imm ha hb hi = word_fits (instruction_row m).number 0 0 0 (number_fits m) (lit≤ tt) (lit≤ tt) (lit≤ tt)
form_fits m form.A a b imm ha hb hi = word_fits (instruction_row m).number a 0 0 (number_fits m) ha (lit≤ tt) (lit≤ tt)
form_fits m form.Imm a b imm ha hb hi = word_fits (instruction_row m).number 0 0 imm (number_fits m) (lit≤ tt) (lit≤ tt) hi
form_fits m form.AB a b imm ha hb hi = word_fits (instruction_row m).number a b 0 (number_fits m) ha hb (lit≤ tt)
form_fits m form.AImm a b imm ha hb hi = word_fits (instruction_row m).number a 0 imm (number_fits m) ha (lit≤ tt) hi
form_fits m form.ABImm a b imm ha hb hi = word_fits (instruction_row m).number a b imm (number_fits m) ha hb hi

encoded_fits : (m : Mnemonic) (a b imm : ℕ) → a ≤ 15 → b ≤ 15 → imm ≤ 65535 → IsWord (encode_of (instr_with m a b imm))
encoded_fits m a b imm ha hb hi = subst (λ (f : Fields). IsWord (word_of (instruction_row f.mnemonic).number f.a f.b f.imm))
    (sym (fields_back m a b imm))
    (subst (λ n. IsWord (word_of (instruction_row n).number (fields_in m (form_of m) a b imm).a (fields_in m (form_of m) a b imm).b (fields_in m (form_of m) a b imm).imm))
    (sym (fields_mnemonic m (form_of m) a b imm)) (form_fits m (form_of m) a b imm ha hb hi))

-- ---- what a line says

-- the register operands have numbers up to 15
abbrev pub AreRegisters : Operands → Type 0
AreRegisters operands = (operands.a ≤ 15) × (operands.b ≤ 15)

-- the registers of an instruction have numbers up to 15
abbrev pub IsFit : Statement → Type 0
IsFit statement.Nothing = Unit {0}
IsFit (statement.Class c) = Unit {0}
IsFit (statement.Entry index value) = Unit {0}
IsFit (statement.Section in_section) = Unit {0}
IsFit (statement.Word value) = Unit {0}
IsFit (statement.Instr m operands) = AreRegisters operands

either : {T E : Type 0} (P : T → Type 0) (test : Bool) (x y : Result T E) → IfOk x P → IfOk y P → IfOk (if test then x else y) P
either P true x y h k = h
either P false x y h k = k

-- what `find` returns from a list of registers is a register
found_low : (p : ℕ → Bool) (rs : List ℕ) → list_all (λ r. nat_le r 15) rs ≡ true → IfSome (find p rs) (λ r. r ≤ 15)
found_low p [] h = tt
found_low p (r ∷ rs) h = let parts = and_parts (nat_le r 15) (list_all (λ r. nat_le r 15) rs) h in
    by_test (p r) (leb-true r 15 parts.0) (found_low p rs parts.1)
  where
    by_test : (t : Bool) → r ≤ 15 → IfSome (find p rs) (λ r. r ≤ 15) → IfSome (if t then Some r else find p rs) (λ r. r ≤ 15)
    by_test true low later = low
    by_test false low later = later

register_holds : (name : List ℕ) → IfSome (register_named name) (λ r. r ≤ 15)
unfolding register_named
register_holds name = found_low (λ r. bytes_eq name (register_text r))
    (0 ∷ 1 ∷ 2 ∷ 3 ∷ 4 ∷ 5 ∷ 6 ∷ 7 ∷ 8 ∷ 9 ∷ 10 ∷ 11 ∷ 12 ∷ 13 ∷ 14 ∷ 15 ∷ []) refl

with_holds : (a b : Option ℕ) (imm : Option Value) → IfSome a (λ r. r ≤ 15) → IfSome b (λ r. r ≤ 15) → IfSome (operands_with a b imm) AreRegisters
with_holds (Some a) (Some b) (Some imm) h k = (h, k)
with_holds (Some a) (Some b) None h k = tt
with_holds (Some a) None imm h k = tt
with_holds None b imm h k = tt

operands_hold : (labels : Labels) (f : Form) (tokens : List (List ℕ)) → IfSome (operands_of labels f tokens) AreRegisters
unfolding operands_of
operands_hold labels form.Bare [] = with_holds no_register no_register no_value zero zero
operands_hold labels form.Bare (a ∷ more) = tt
operands_hold labels form.A [] = tt
operands_hold labels form.A (a ∷ []) = with_holds (register_named a) no_register no_value (register_holds a) zero
operands_hold labels form.A (a ∷ b ∷ more) = tt
operands_hold labels form.Imm [] = tt
operands_hold labels form.Imm (imm ∷ []) = with_holds no_register no_register (value_of labels imm) zero zero
operands_hold labels form.Imm (imm ∷ b ∷ more) = tt
operands_hold labels form.AB [] = tt
operands_hold labels form.AB (a ∷ []) = tt
operands_hold labels form.AB (a ∷ b ∷ []) = with_holds (register_named a) (register_named b) no_value (register_holds a) (register_holds b)
operands_hold labels form.AB (a ∷ b ∷ c ∷ more) = tt
operands_hold labels form.AImm [] = tt
operands_hold labels form.AImm (a ∷ []) = tt
operands_hold labels form.AImm (a ∷ imm ∷ []) = with_holds (register_named a) no_register (value_of labels imm) (register_holds a) zero
operands_hold labels form.AImm (a ∷ imm ∷ c ∷ more) = tt
operands_hold labels form.ABImm [] = tt
operands_hold labels form.ABImm (a ∷ []) = tt
operands_hold labels form.ABImm (a ∷ b ∷ []) = tt
operands_hold labels form.ABImm (a ∷ b ∷ imm ∷ []) = with_holds (register_named a) (register_named b) (value_of labels imm) (register_holds a) (register_holds b)
operands_hold labels form.ABImm (a ∷ b ∷ imm ∷ c ∷ more) = tt

instr_or_wrong : (m : Mnemonic) (o : Option Operands) → IfSome o AreRegisters → IfOk (right_or_wrong (statement.Instr m) o) IsFit
instr_or_wrong m None h = tt
instr_or_wrong m (Some operands) h = h

instr_fits : (labels : Labels) (s : Section) (m : Mnemonic) (rest : List (List ℕ)) → IfOk (instr_statement labels s m rest) IsFit
instr_fits labels section.Text m rest = instr_or_wrong m (operands_of labels (form_of m) rest) (operands_hold labels (form_of m) rest)
instr_fits labels section.Data m rest = tt

named_fits : (labels : Labels) (s : Section) (o : Option Mnemonic) (rest : List (List ℕ)) → IfOk (named_statement labels s o rest) IsFit
named_fits labels s None rest = tt
named_fits labels s (Some m) rest = instr_fits labels s m rest

bare_fits : (says : Statement) (rest : List (List ℕ)) → IsFit says → IfOk (bare_statement says rest) IsFit
bare_fits says [] h = h
bare_fits says (token ∷ more) h = tt

word_or_wrong : (o : Option Value) → IfOk (right_or_wrong statement.Word o) IsFit
word_or_wrong None = tt
word_or_wrong (Some value) = tt

entry_or_wrong : (index : ℕ) (o : Option Value) → IfOk (right_or_wrong (statement.Entry index) o) IsFit
entry_or_wrong index None = tt
entry_or_wrong index (Some value) = tt

word_fits_line : (labels : Labels) (rest : List (List ℕ)) → IfOk (word_statement labels rest) IsFit
unfolding word_statement
word_fits_line labels [] = tt
word_fits_line labels (token ∷ []) = word_or_wrong (value_of labels token)
word_fits_line labels (token ∷ next ∷ more) = tt

class_by_fits : (k : TokenKind) (o : Option Class) (more : List (List ℕ)) → IfOk (class_by k o more) IsFit
class_by_fits kind.Name (Some c) more = bare_fits (statement.Class c) more tt
class_by_fits kind.Name None more = tt
class_by_fits kind.Definition o more = tt
class_by_fits kind.Directive o more = tt
class_by_fits (kind.Number n) o more = tt
class_by_fits kind.Bad o more = tt

class_fits : (rest : List (List ℕ)) → IfOk (class_statement rest) IsFit
unfolding class_statement
class_fits [] = tt
class_fits (name ∷ more) = class_by_fits (kind_of name) (class_named name) more

entry_value_fits : (labels : Labels) (index : ℕ) (rest : List (List ℕ)) → IfOk (entry_value labels index rest) IsFit
entry_value_fits labels index [] = tt
entry_value_fits labels index (token ∷ []) = entry_or_wrong index (value_of labels token)
entry_value_fits labels index (token ∷ next ∷ more) = tt

entry_by_fits : (labels : Labels) (k : TokenKind) (o : Option ℕ) (more : List (List ℕ)) → IfOk (entry_by labels k o more) IsFit
entry_by_fits labels kind.Name (Some index) more = entry_value_fits labels index more
entry_by_fits labels kind.Name None more = tt
entry_by_fits labels kind.Definition o more = tt
entry_by_fits labels kind.Directive o more = tt
entry_by_fits labels (kind.Number n) o more = tt
entry_by_fits labels kind.Bad o more = tt

entry_fits : (labels : Labels) (o : Option Class) (rest : List (List ℕ)) → IfOk (entry_statement labels o rest) IsFit
unfolding entry_statement
entry_fits labels (Some c) [] = tt
entry_fits labels (Some c) (name ∷ more) = entry_by_fits labels (kind_of name) (position_among 0 (entry_keys c) name) more
entry_fits labels None [] = tt
entry_fits labels None (name ∷ more) = tt

directive_fits : (labels : Labels) (c : Option Class) (directive : List ℕ) (rest : List (List ℕ)) → IfOk (directive_statement labels c directive rest) IsFit
unfolding directive_statement
directive_fits labels c directive rest =
    either IsFit (bytes_eq directive (codes ".class")) (class_statement rest) _ (class_fits rest)
    (either IsFit (bytes_eq directive (codes ".entry")) (entry_statement labels c rest) _ (entry_fits labels c rest)
    (either IsFit (bytes_eq directive (codes ".text")) (bare_statement (statement.Section section.Text) rest) _ (bare_fits (statement.Section section.Text) rest tt)
    (either IsFit (bytes_eq directive (codes ".data")) (bare_statement (statement.Section section.Data) rest) _ (bare_fits (statement.Section section.Data) rest tt)
    (either IsFit (bytes_eq directive (codes ".word")) (word_statement labels rest) (Err fault.WrongOperands) (word_fits_line labels rest) tt))))

by_fits : (k : TokenKind) (labels : Labels) (c : Option Class) (s : Section) (first : List ℕ) (rest : List (List ℕ)) → IfOk (statement_by k labels c s first rest) IsFit
by_fits kind.Name labels c s first rest = named_fits labels s (mnemonic_named first) rest
by_fits kind.Directive labels c s first rest = directive_fits labels c first rest
by_fits kind.Definition labels c s first rest = tt
by_fits (kind.Number n) labels c s first rest = tt
by_fits kind.Bad labels c s first rest = tt

statement_fits : (labels : Labels) (c : Option Class) (s : Section) (tokens : List (List ℕ)) → IfOk (statement_of labels c s tokens) IsFit
unfolding statement_of
statement_fits labels c s [] = tt
statement_fits labels c s (first ∷ rest) = by_fits (kind_of first) labels c s first rest

wrong_fits : (said : Result Statement AsmKind) → IfOk (at_most_wrong said) IsFit
wrong_fits (Ok says) = tt
wrong_fits (Err k) = tt

after_fits : (o : Option (List ℕ)) (said : Result Statement AsmKind) → IfOk said IsFit → IfOk (after_name o said) IsFit
after_fits None said h = h
after_fits (Some name) said h = either IsFit (is_register name) (at_most_wrong said) said (wrong_fits said) h

line_fits : (labels : Labels) (c : Option Class) (s : Section) (tokens : List (List ℕ)) → IfOk (line_says labels c s tokens) IsFit
unfolding line_says
line_fits labels c s tokens =
    either IsFit (has_bad_token tokens) (Err fault.BadToken) (after_name (definition_of tokens) (statement_of labels c s (after_definition tokens))) tt
    (after_fits (definition_of tokens) (statement_of labels c s (after_definition tokens)) (statement_fits labels c s (after_definition tokens)))

-- ---- drafts

-- an entry that is given is an address in the text
abbrev pub IsAddressIfGiven : Option ℕ → Type 0
IsAddressIfGiven None = Unit {0}
IsAddressIfGiven (Some index) = IsTextAddress index

-- there are as many entries as the class has
abbrev pub AreCounted : Option Class → List (Option ℕ) → Type 0
AreCounted None entries = Unit {0}
AreCounted (Some c) entries = length entries ≡ entry_count c

pub record IsFitDraft (draft : Draft) : Type 0 where
  pub counted : AreCounted draft.class draft.entries
  pub addresses : All IsAddressIfGiven draft.entries
  pub text : AreWords 2048 draft.text
  pub initial : AreWords 2048 draft.initial

first_fits : IsFitDraft first_draft
first_fits = record { counted = tt; addresses = All-nil IsAddressIfGiven; text = (lit≤ tt, All-nil IsWord); initial = (lit≤ tt, All-nil IsWord) }

more_words : (words : List ℕ) (w : ℕ) → AreWords 2048 words → IsWord w → length words < 2048 → AreWords 2048 (words ++ w ∷ [])
more_words words w h hw room = (omega (arith, room, length-append words (w ∷ [])), All-push IsWord words w h.1 hw)

text_by : (draft : Draft) (w : ℕ) → IsWord w → IsFitDraft draft → (test : Bool) → nat_lt (length draft.text) 2048 ≡ test
    → let next : Result Draft AsmKind = if test then Ok (record draft { text = draft.text ++ w ∷ [] }) else Err fault.TextTooLong in IfOk next IsFitDraft
text_by draft w hw h false e = tt
text_by draft w hw h true e =
    record { counted = h.counted; addresses = h.addresses; text = more_words draft.text w h.text hw (ltb-true (length draft.text) 2048 e); initial = h.initial }

initial_by : (draft : Draft) (w : ℕ) → IsWord w → IsFitDraft draft → (test : Bool) → nat_lt (length draft.initial) 2048 ≡ test
    → let next : Result Draft AsmKind = if test then Ok (record draft { initial = draft.initial ++ w ∷ [] }) else Err fault.DataTooLong in IfOk next IsFitDraft
initial_by draft w hw h false e = tt
initial_by draft w hw h true e =
    record { counted = h.counted; addresses = h.addresses; text = h.text; initial = more_words draft.initial w h.initial hw (ltb-true (length draft.initial) 2048 e) }

word_kept : (s : Section) (w : ℕ) (draft : Draft) → IsWord w → IsFitDraft draft → IfOk (with_word s w draft) IsFitDraft
word_kept section.Text w draft hw h = text_by draft w hw h (nat_lt (length draft.text) 2048) refl
word_kept section.Data w draft hw h = initial_by draft w hw h (nat_lt (length draft.initial) 2048) refl

-- a known value that passed the test is at most this
known_fits : (most : ℕ) (v : Value) → is_above most v ≡ false → IfOk (known v) (λ n. n ≤ most)
known_fits most (value.Known n) e = ltb-false most n e
known_fits most value.Missing e = tt

counted_after : (o : Option Class) (entries : List (Option ℕ)) (index : ℕ) (given : Option ℕ) → AreCounted o entries → AreCounted o (slice_set entries index given)
counted_after None entries index given h = tt
counted_after (Some c) entries index given h = length-set entries index given ∙ h

entry_kept : (draft : Draft) (index n : ℕ) → n ≤ 2047 → IsFitDraft draft → IsFitDraft (record draft { entries = slice_set draft.entries index (Some n) })
entry_kept draft index n hn h = record {
  counted = counted_after draft.class draft.entries index (Some n) h.counted;
  addresses = All-set IsAddressIfGiven draft.entries index (Some n) hn h.addresses;
  text = h.text;
  initial = h.initial;
}

class_kept : (c : Class) (draft : Draft) → IsFitDraft draft → IsFitDraft (with_class c draft)
class_kept c draft h = record {
  counted = length-replicate (entry_count c) None;
  addresses = All-replicate IsAddressIfGiven (entry_count c) None tt;
  text = h.text;
  initial = h.initial;
}

statement_kept : (says : Statement) (draft : Draft) → IsFit says → is_out_of_range says ≡ false → IsFitDraft draft → IfOk (with_statement says draft) IsFitDraft
statement_kept statement.Nothing draft f e h = h
statement_kept (statement.Class c) draft f e h = class_kept c draft h
statement_kept (statement.Entry index v) draft f e h =
    chained (λ n. n ≤ 2047) IsFitDraft (known v) (λ n. let next : Result Draft AsmKind = Ok (record draft { entries = slice_set draft.entries index (Some n) }) in next)
    (known_fits 2047 v e) (λ n hn. entry_kept draft index n hn h)
statement_kept (statement.Section s) draft f e h = record { counted = h.counted; addresses = h.addresses; text = h.text; initial = h.initial }
statement_kept (statement.Word v) draft f e h =
    chained (λ n. n ≤ 4294967295) IsFitDraft (known v) (λ n. with_word draft.in_section n draft)
    (known_fits 4294967295 v e) (λ n hn. word_kept draft.in_section n draft (omega (arith, hn)) h)
statement_kept (statement.Instr m operands) draft f e h =
    chained (λ n. n ≤ 65535) IsFitDraft (known operands.imm) (λ n. with_word draft.in_section (encode_of (instr_with m operands.a operands.b n)) draft)
    (known_fits 65535 operands.imm e)
    (λ n hn. word_kept draft.in_section (encode_of (instr_with m operands.a operands.b n)) draft (encoded_fits m operands.a operands.b n f.0 f.1 hn) h)

range_by : (says : Statement) (draft : Draft) (second : Bool) → IsFit says → IsFitDraft draft → (test : Bool) → is_out_of_range says ≡ test
    → IfOk (fault_if test fault.NumberRange >>= λ in_range. fault_if second fault.DoubleLabel >>= λ first. with_statement says draft) IsFitDraft
range_by says draft second f h true e = tt
range_by says draft second f h false e = passed IsFitDraft (fault_if second fault.DoubleLabel) (λ first. with_statement says draft) (λ first. statement_kept says draft f e h)

abbrev checks_line : Labels → ℕ → List (List ℕ) → Draft → Statement → Result Draft AsmKind
checks_line labels line tokens draft says =
    fault_if (is_out_of_range says) fault.NumberRange >>= λ in_range.
    fault_if (is_second_label labels line (definition_of tokens) || is_second_given draft says) fault.DoubleLabel >>= λ first.
    with_statement says draft

line_kept : (labels : Labels) (line : ℕ) (tokens : List (List ℕ)) (draft : Draft) → IsFitDraft draft → IfOk (draft_after labels line tokens draft) IsFitDraft
unfolding draft_after
line_kept labels line tokens draft h =
    chained IsFit IsFitDraft (line_says labels draft.class draft.in_section tokens) (checks_line labels line tokens draft) (line_fits labels draft.class draft.in_section tokens)
    (λ says f. range_by says draft (is_second_label labels line (definition_of tokens) || is_second_given draft says) f h (is_out_of_range says) refl)

at_line_kept : {T : Type 0} (P : T → Type 0) (line : ℕ) (r : Result T AsmKind) → IfOk r P → IfOk (at_line line r) P
at_line_kept P line (Ok made) h = h
at_line_kept P line (Err k) h = tt

lines_kept : (labels : Labels) (line : ℕ) (lines : List (List ℕ)) (draft : Draft) → IsFitDraft draft → IfOk (draft_from labels line lines draft) IsFitDraft
unfolding draft_from
lines_kept labels line [] draft h = h
lines_kept labels line (first ∷ more) draft h =
    chained IsFitDraft IsFitDraft (at_line line (draft_after labels line (tokens_of first) draft)) (λ next. draft_from labels (line + 1) more next)
    (at_line_kept IsFitDraft line (draft_after labels line (tokens_of first) draft) (line_kept labels line (tokens_of first) draft h))
    (λ next k. lines_kept labels (line + 1) more next k)

-- ---- images

-- as many addresses in the text as entries
abbrev pub ArePointsOf : ℕ → Option (List ℕ) → Type 0
ArePointsOf n None = Unit {0}
ArePointsOf n (Some addresses) = (length addresses ≡ n) × All IsTextAddress addresses

one_given : (n index : ℕ) (o : Option (List ℕ)) → IsTextAddress index → ArePointsOf n o → ArePointsOf (n + 1) (option_map (index ∷◌) o)
one_given n index None h k = tt
one_given n index (Some addresses) h k = (omega (arith, k.0), All-cons IsTextAddress index addresses h k.1)

given_hold : (entries : List (Option ℕ)) → All IsAddressIfGiven entries → ArePointsOf (length entries) (all_given entries)
given_hold [] h = (refl, All-nil IsTextAddress)
given_hold (None ∷ more) h = tt
given_hold (Some index ∷ more) h =
    let later : ArePointsOf (length more + 1) (all_given (Some index ∷ more)) =
    one_given (length more) index (all_given more) (All-head IsAddressIfGiven (Some index) more h) (given_hold more (All-tail IsAddressIfGiven (Some index) more h)) in
    let same : length more + 1 ≡ length (Some index ∷ more) = omega arith in
    subst (λ n. ArePointsOf n (all_given (Some index ∷ more))) same later

image_by : (draft : Draft) → IsFitDraft draft → (c : Option Class) (entries : Option (List ℕ)) → AreCounted c draft.entries → ArePointsOf (length draft.entries) entries
    → IfOk (image_with c entries draft) IsValidImage
image_by draft h (Some c) (Some entries) counted indexed = record { entries = indexed.0 ∙ counted; addresses = indexed.1; text = h.text; initial = h.initial }
image_by draft h (Some c) None counted indexed = tt
image_by draft h None entries counted indexed = tt

pub assembled_is_valid : (text : List ℕ) → IfOk (assembled text) IsValidImage
unfolding assembled
assembled_is_valid text =
    let lines = lines_of text in
    let labels = first_of (labels_from first_cursor lines) in
    chained IsFitDraft IsValidImage (draft_from labels 1 lines first_draft) (λ draft. at_line (length lines + 1) (image_with draft.class (all_given draft.entries) draft))
    (lines_kept labels 1 lines first_draft first_fits)
    (λ draft h. at_line_kept IsValidImage (length lines + 1) (image_with draft.class (all_given draft.entries) draft)
    (image_by draft h draft.class (all_given draft.entries) h.counted (given_hold draft.entries h.addresses)))
