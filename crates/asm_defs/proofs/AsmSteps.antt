-- The assembler reads each line that the disassembler writes.
use Rattle.std.specs.Prelude.{◌≡◌, refl, ℕ, ◌^◌, ◌<◌, ◌≤◌, false, List, [], ◌∷◌, ◌++◌, length, slice_get, slice_set, decimal, codes, Option, Some, None, Ok}
use Rattle.std.proofs.lemmas.Bool.{le-ltb, lt-ltb}
use native.Mathlib.Omega.{arith}
use mathlib.Core.Path.{ap, ◌∙◌}
use Rattle.asm_defs.specs.AsmTokens.{kind_of, is_label_name, is_numeral}
use Rattle.asm_defs.specs.AsmLines.{Labels, value_of, statement_of, directive_statement, class_statement}
use Rattle.asm_defs.specs.AsmLines.{entry_statement, word_statement, position_among, line_says}
use Rattle.asm_defs.specs.Assembler.{Draft, first_draft, draft_after}
use Rattle.asm_defs.specs.Views.Assembling.{is_given, with_class}
use Rattle.asm_defs.specs.Disassembler.{text_tokens, word_tokens, operand_tokens}
use Rattle.asm_defs.specs.Views.Assembling.{decoded_tokens, class_tokens, instr_tokens}
use Rattle.asm_defs.specs.Keys.{key_text, entry_keys}
use Rattle.nook_data.specs.ClassNames.{class_named}
use Rattle.machine_defs.specs.Machine.{decode_of, encode_of}
use Rattle.machine_defs.specs.Mnemonics.{Fields, fields_of, form_of, instr_with}
use Rattle.nook_data.specs.declared.machine.Form.{Form}
use Rattle.nook_data.specs.declared.machine.Form.TheVariants as form
use Rattle.asm_defs.specs.declared.assembler.Section.{Section}
use Rattle.asm_defs.specs.declared.assembler.Section.TheVariants as section
use Rattle.asm_defs.specs.declared.assembler.Statement.TheVariants as statement
use Rattle.asm_defs.specs.declared.assembler.TokenKind.TheVariants as kind
use Rattle.asm_defs.specs.declared.assembler.Value.TheVariants as value
use Rattle.nook_data.specs.declared.classes.Class.{Class}
use Rattle.nook_data.specs.declared.classes.Class.TheVariants as class
use Rattle.asm_defs.specs.declared.keys.Key.{Key}
use Rattle.nook_data.specs.declared.machine.Instr.{Instr}
use Rattle.asm_defs.proofs.AsmText.{IsPlainToken, ArePlain, IsLine}
use Rattle.asm_defs.proofs.AsmNumbers.{register_plain, number_kind, number_token}
use Rattle.machine_defs.proofs.Instructions.{instr_of_fields}
use Rattle.machine_defs.proofs.Words.{InRange, decoded}
use Rattle.asm_defs.proofs.AsmInstrs.{mnemonic_kind, mnemonic_token, in_range, instr_says, stated}

abbrev pub draft : Class → List (Option ℕ) → Section → List ℕ → List ℕ → Draft
draft c e s t i = record { class = Some c; entries = e; in_section = s; text = t; initial = i }

-- ---- plain lines

operands_plain : (x : Form) (f : Fields) → InRange f → ArePlain (operand_tokens x f)
operands_plain form.Bare f h = tt
operands_plain form.A f h = (register_plain f.a h.low_a, tt)
operands_plain form.Imm f h = (number_token f.imm (omega (arith, h.low_imm)), tt)
operands_plain form.AB f h = (register_plain f.a h.low_a, (register_plain f.b h.low_b, tt))
operands_plain form.AImm f h = (register_plain f.a h.low_a, (number_token f.imm (omega (arith, h.low_imm)), tt))
operands_plain form.ABImm f h = (register_plain f.a h.low_a, (register_plain f.b h.low_b, (number_token f.imm (omega (arith, h.low_imm)), tt)))

pub word_line : (w : ℕ) → w < 2 ^ 32 → IsLine (word_tokens w)
word_line w small = (record { bytes = refl; some = refl }, (number_token w small, tt))

decoded_line : (d : Option Instr) (w : ℕ) → w < 2 ^ 32 → decode_of w ≡ d → IsLine (decoded_tokens d w)
decoded_line (Some i) w small e = let fits = decoded w i small e in
    (mnemonic_token (fields_of i).mnemonic, operands_plain (form_of (fields_of i).mnemonic) (fields_of i) fits.1)
decoded_line None w small e = word_line w small

pub text_line : (w : ℕ) → w < 2 ^ 32 → IsLine (text_tokens w)
text_line w small = decoded_line (decode_of w) w small refl

-- ---- words

word_kind : kind_of (codes ".word") ≡ kind.Directive
unfolding kind_of is_label_name is_numeral
word_kind = refl

word_says : (labels : Labels) (c : Option Class) (s : Section) (w : ℕ) → w < 2 ^ 32 → line_says labels c s (word_tokens w) ≡ Ok (statement.Word (value.Known w))
unfolding line_says statement_of directive_statement word_statement value_of
word_says labels c s w small = rw (word_kind, number_kind w small, word_kind, number_kind w small, statement_of, value_of) refl

pub word_in_text : (labels : Labels) (line w : ℕ) (c : Class) (e : List (Option ℕ)) (t i : List ℕ) → w < 2 ^ 32 → length t < 2048
    → draft_after labels line (word_tokens w) (draft c e section.Text t i) ≡ Ok (draft c e section.Text (t ++ w ∷ []) i)
unfolding draft_after
word_in_text labels line w c e t i small room =
    rw (word_says labels (Some c) section.Text w small, le-ltb 4294967295 w (omega arith), word_kind, lt-ltb (length t) 2048 room) refl

pub word_in_data : (labels : Labels) (line w : ℕ) (c : Class) (e : List (Option ℕ)) (t i : List ℕ) → w < 2 ^ 32 → length i < 2048
    → draft_after labels line (word_tokens w) (draft c e section.Data t i) ≡ Ok (draft c e section.Data t (i ++ w ∷ []))
unfolding draft_after
word_in_data labels line w c e t i small room =
    rw (word_says labels (Some c) section.Data w small, le-ltb 4294967295 w (omega arith), word_kind, lt-ltb (length i) 2048 room) refl

-- ---- instructions

instr_taken : (labels : Labels) (line w : ℕ) (f : Fields) (c : Class) (e : List (Option ℕ)) (t i : List ℕ) → InRange f → length t < 2048
    → draft_after labels line (instr_tokens f) (draft c e section.Text t i) ≡ Ok (draft c e section.Text (t ++ encode_of (instr_with f.mnemonic f.a f.b f.imm) ∷ []) i)
unfolding draft_after
instr_taken labels line w f c e t i h room =
    rw (instr_says labels (Some c) f h, in_range f.mnemonic (form_of f.mnemonic) f h, mnemonic_kind f.mnemonic, stated f.mnemonic f (draft c e section.Text t i), lt-ltb (length t) 2048 room) refl

text_by : (labels : Labels) (line w : ℕ) (d : Option Instr) (c : Class) (e : List (Option ℕ)) (t i : List ℕ) → w < 2 ^ 32 → length t < 2048 → decode_of w ≡ d
    → draft_after labels line (decoded_tokens d w) (draft c e section.Text t i) ≡ Ok (draft c e section.Text (t ++ w ∷ []) i)
text_by labels line w (Some x) c e t i small room found = let fits = decoded w x small found in
    instr_taken labels line w (fields_of x) c e t i fits.1 room
    ∙ ap (λ word. Ok (draft c e section.Text (t ++ word ∷ []) i)) (ap encode_of (instr_of_fields x) ∙ fits.0)
text_by labels line w None c e t i small room found = word_in_text labels line w c e t i small room

-- a text word, written as an instruction or as a number
pub text_taken : (labels : Labels) (line w : ℕ) (c : Class) (e : List (Option ℕ)) (t i : List ℕ) → w < 2 ^ 32 → length t < 2048
    → draft_after labels line (text_tokens w) (draft c e section.Text t i) ≡ Ok (draft c e section.Text (t ++ w ∷ []) i)
text_taken labels line w c e t i small room = text_by labels line w (decode_of w) c e t i small room refl

-- ---- the head of the text

pub class_line : (c : Class) → IsLine (class_tokens c)
class_line class.Block = (record { bytes = refl; some = refl }, (record { bytes = refl; some = refl }, tt))
class_line class.Net = (record { bytes = refl; some = refl }, (record { bytes = refl; some = refl }, tt))
class_line class.Sound = (record { bytes = refl; some = refl }, (record { bytes = refl; some = refl }, tt))

pub class_taken : (labels : Labels) (line : ℕ) (c : Class) → draft_after labels line (class_tokens c) first_draft ≡ Ok (with_class c first_draft)
unfolding draft_after line_says statement_of directive_statement class_statement class_named kind_of is_label_name is_numeral
class_taken labels line class.Block = refl
class_taken labels line class.Net = refl
class_taken labels line class.Sound = refl

pub data_line : IsLine (codes ".data" ∷ [])
data_line = (record { bytes = refl; some = refl }, tt)

pub data_taken : (labels : Labels) (line : ℕ) (c : Class) (e : List (Option ℕ)) (t i : List ℕ)
    → draft_after labels line (codes ".data" ∷ []) (draft c e section.Text t i) ≡ Ok (draft c e section.Data t i)
unfolding draft_after line_says statement_of directive_statement kind_of is_label_name is_numeral
data_taken labels line c e t i = refl

entry_kind : kind_of (codes ".entry") ≡ kind.Directive
unfolding kind_of is_label_name is_numeral
entry_kind = refl

pub entry_line : (k : Key) (address : ℕ) → IsPlainToken (key_text k) → address ≤ 2047 → IsLine (codes ".entry" ∷ key_text k ∷ decimal address ∷ [])
entry_line k address plain low = (record { bytes = refl; some = refl }, (plain, (number_token address (omega arith), tt)))

pub entry_taken : (labels : Labels) (line address at : ℕ) (k : Key) (c : Class) (e : List (Option ℕ)) (t i : List ℕ)
    → kind_of (key_text k) ≡ kind.Name → position_among 0 (entry_keys c) (key_text k) ≡ Some at → is_given (slice_get e at) ≡ false → address ≤ 2047
    → draft_after labels line (codes ".entry" ∷ key_text k ∷ decimal address ∷ []) (draft c e section.Text t i) ≡ Ok (draft c (slice_set e at (Some address)) section.Text t i)
unfolding draft_after line_says statement_of directive_statement entry_statement value_of
entry_taken labels line address at k c e t i name among fresh low =
    rw (entry_kind, name, number_kind address (omega arith), entry_kind, name, among, number_kind address (omega arith), le-ltb 2047 address low, fresh, statement_of, entry_statement, value_of) refl
