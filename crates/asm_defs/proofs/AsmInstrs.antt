-- The written line of an instruction is read as that instruction.
use Rattle.std.specs.Prelude.{◌≡◌, refl, ℕ, ◌^◌, ◌<◌, ◌==◌, Bool, false, true, nat_lt, if◌then◌else◌, Option, None, Some, Ok}
use Rattle.std.specs.List.{list_all}
use mathlib.Core.Path.{ap, subst, sym, ◌∙◌}
use Rattle.std.proofs.lemmas.Bool.{eqb-true, false≢true, le-ltb}
use native.Mathlib.Omega.{arith}
use Rattle.asm_defs.specs.AsmTokens.{is_label_name, is_not_empty, kind_of}
use Rattle.asm_defs.specs.AsmLines.{Labels, value_of, operands_of, statement_of, line_says, has_bad_token}
use Rattle.asm_defs.specs.Assembler.{Draft, is_out_of_range, with_statement, with_word}
use Rattle.asm_defs.specs.Disassembler.{operand_tokens}
use Rattle.asm_defs.specs.Views.Assembling.{instr_tokens}
use Rattle.machine_defs.specs.Machine.{encode_of}
use Rattle.machine_defs.specs.Mnemonics.{Fields, mnemonic_named, mnemonic_text, form_of, instr_with, instruction_row}
use Rattle.machine_defs.proofs.Instructions.{each, fields_back, fields_in, instr_of_fields, same_number}
use Rattle.machine_defs.proofs.Words.{InRange}
use Rattle.nook_data.specs.declared.machine.Form.{Form}
use Rattle.nook_data.specs.declared.machine.Form.TheVariants as form
use Rattle.nook_data.specs.declared.machine.Mnemonic.{Mnemonic}
use Rattle.asm_defs.specs.declared.assembler.Operands.{Operands}
use Rattle.asm_defs.specs.declared.assembler.Section.TheVariants as section
use Rattle.asm_defs.specs.declared.assembler.Statement.TheVariants as statement
use Rattle.asm_defs.specs.declared.assembler.TokenKind.TheVariants as kind
use Rattle.asm_defs.specs.declared.assembler.Value.TheVariants as value
use Rattle.nook_data.specs.declared.classes.Class.{Class}
use Rattle.nook_data.specs.declared.machine.Instr.{Instr}
use Rattle.asm_defs.proofs.AsmText.{IsPlainToken, is_plain}
use Rattle.asm_defs.proofs.AsmNumbers.{register_token, register_kind, number_kind}

pub mnemonic_kind : (m : Mnemonic) → kind_of (mnemonic_text m) ≡ kind.Name
unfolding kind_of is_label_name
mnemonic_kind m = rw (each (λ m. is_label_name (mnemonic_text m)) refl m) refl

-- the mnemonic that is found by a text has the number of the mnemonic with that text
has_number : Option Mnemonic → Mnemonic → Bool
has_number None m = false
has_number (Some found) m = (instruction_row found).number == (instruction_row m).number

number_found : (o : Option Mnemonic) (m : Mnemonic) → has_number o m ≡ true → o ≡ Some m
unfolding has_number
number_found None m e = absurd (false≢true e)
number_found (Some found) m e = ap Some (same_number found m (eqb-true (instruction_row found).number (instruction_row m).number e))

pub named_mnemonic : (m : Mnemonic) → mnemonic_named (mnemonic_text m) ≡ Some m
unfolding mnemonic_named has_number
named_mnemonic m = number_found (mnemonic_named (mnemonic_text m)) m
    (each (λ m. has_number (mnemonic_named (mnemonic_text m)) m) refl m)

pub mnemonic_token : (m : Mnemonic) → IsPlainToken (mnemonic_text m)
mnemonic_token m = record {
  bytes = each (λ m. list_all is_plain (mnemonic_text m)) refl m;
  some = each (λ m. is_not_empty (mnemonic_text m)) refl m;
}

-- the operands that a form reads
pub used : Form → Fields → Operands
used form.Bare f = record { a = 0; b = 0; imm = value.Known 0 }
used form.A f = record { a = f.a; b = 0; imm = value.Known 0 }
used form.Imm f = record { a = 0; b = 0; imm = value.Known f.imm }
used form.AB f = record { a = f.a; b = f.b; imm = value.Known 0 }
used form.AImm f = record { a = f.a; b = 0; imm = value.Known f.imm }
used form.ABImm f = record { a = f.a; b = f.b; imm = value.Known f.imm }

operands_written : (labels : Labels) (x : Form) (f : Fields) → InRange f → operands_of labels x (operand_tokens x f) ≡ Some (used x f)
unfolding operands_of value_of used
operands_written labels form.Bare f h = refl
operands_written labels form.A f h = rw (register_token f.a h.low_a) refl
operands_written labels form.Imm f h = rw (number_kind f.imm (omega (arith, h.low_imm)), value_of) refl
operands_written labels form.AB f h = rw (register_token f.a h.low_a, register_token f.b h.low_b) refl
operands_written labels form.AImm f h = rw (register_token f.a h.low_a, number_kind f.imm (omega (arith, h.low_imm)), value_of) refl
operands_written labels form.ABImm f h = rw (register_token f.a h.low_a, register_token f.b h.low_b, number_kind f.imm (omega (arith, h.low_imm)), value_of) refl

none_bad : (x : Form) (f : Fields) → InRange f → has_bad_token (operand_tokens x f) ≡ false
none_bad form.Bare f h = refl
none_bad form.A f h = rw (register_kind f.a h.low_a) refl
none_bad form.Imm f h = rw (number_kind f.imm (omega (arith, h.low_imm))) refl
none_bad form.AB f h = rw (register_kind f.a h.low_a, register_kind f.b h.low_b) refl
none_bad form.AImm f h = rw (register_kind f.a h.low_a, number_kind f.imm (omega (arith, h.low_imm))) refl
none_bad form.ABImm f h = rw (register_kind f.a h.low_a, register_kind f.b h.low_b, number_kind f.imm (omega (arith, h.low_imm))) refl

not_above : (imm : ℕ) → imm < 2 ^ 16 → nat_lt 65535 imm ≡ false
not_above imm h = le-ltb 65535 imm (omega (arith, h))

pub in_range : (m : Mnemonic) (x : Form) (f : Fields) → InRange f → is_out_of_range (statement.Instr m (used x f)) ≡ false
unfolding used
in_range m form.Bare f h = refl
in_range m form.A f h = refl
in_range m form.Imm f h = not_above f.imm h.low_imm
in_range m form.AB f h = refl
in_range m form.AImm f h = not_above f.imm h.low_imm
in_range m form.ABImm f h = not_above f.imm h.low_imm

pub instr_says : (labels : Labels) (class : Option Class) (f : Fields) → InRange f → line_says labels class section.Text (instr_tokens f) ≡ Ok (statement.Instr f.mnemonic (used (form_of f.mnemonic) f))
unfolding line_says statement_of
instr_says labels class f h =
    rw (mnemonic_kind f.mnemonic, none_bad (form_of f.mnemonic) f h, mnemonic_kind f.mnemonic, named_mnemonic f.mnemonic, operands_written labels (form_of f.mnemonic) f h, statement_of) refl

-- the operands of a form are those of the mnemonic
pub fields_mnemonic : (m : Mnemonic) (x : Form) (a b imm : ℕ) → (fields_in m x a b imm).mnemonic ≡ m
fields_mnemonic m form.Bare a b imm = refl
fields_mnemonic m form.A a b imm = refl
fields_mnemonic m form.Imm a b imm = refl
fields_mnemonic m form.AB a b imm = refl
fields_mnemonic m form.AImm a b imm = refl
fields_mnemonic m form.ABImm a b imm = refl

-- the operands that its form reads make the instruction
used_instr : (m : Mnemonic) (a b imm : ℕ)
    → instr_with m (fields_in m (form_of m) a b imm).a (fields_in m (form_of m) a b imm).b (fields_in m (form_of m) a b imm).imm
    ≡ instr_with m a b imm
used_instr m a b imm =
    ap (λ n. instr_with n (fields_in m (form_of m) a b imm).a (fields_in m (form_of m) a b imm).b (fields_in m (form_of m) a b imm).imm)
    (sym (fields_mnemonic m (form_of m) a b imm))
    ∙ (ap (λ (f : Fields). instr_with f.mnemonic f.a f.b f.imm) (sym (fields_back m a b imm)) ∙ instr_of_fields (instr_with m a b imm))

stated_of : (m : Mnemonic) (x : Form) (f : Fields) (draft : Draft) → with_statement (statement.Instr m (used x f)) draft
    ≡ with_word draft.in_section (encode_of (instr_with m (fields_in m x f.a f.b f.imm).a (fields_in m x f.a f.b f.imm).b (fields_in m x f.a f.b f.imm).imm)) draft
unfolding used
stated_of m form.Bare f draft = refl
stated_of m form.A f draft = refl
stated_of m form.Imm f draft = refl
stated_of m form.AB f draft = refl
stated_of m form.AImm f draft = refl
stated_of m form.ABImm f draft = refl

pub stated : (m : Mnemonic) (f : Fields) (draft : Draft) → with_statement (statement.Instr m (used (form_of m) f)) draft ≡ with_word draft.in_section (encode_of (instr_with m f.a f.b f.imm)) draft
stated m f draft = stated_of m (form_of m) f draft
    ∙ ap (λ i. with_word draft.in_section (encode_of i) draft) (used_instr m f.a f.b f.imm)
