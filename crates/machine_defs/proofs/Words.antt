-- Words and instructions: decoding and encoding are inverse, by the row of a word's number.
use Rattle.std.specs.Prelude.{◌≡◌, refl, ℕ, nat_le, ◌+◌, ◌*◌, ◌^◌, ◌<◌, ◌≤◌, ◌==◌, ◌&&◌, Bool, true, false, Option, Some, None, IfSome, option_map, if◌then◌else◌}
use Rattle.std.specs.List.{find}
use native.Mathlib.Omega.{arith}
use mathlib.Core.Path.{ap, subst, sym, ◌∙◌}
use Rattle.std.proofs.lemmas.Bool.{and_parts, eqb-true, eq-eqb, false≢true, leb-true}
use Rattle.machine_defs.specs.Machine.{op_field, a_field, b_field, imm_field, has_no_other, is_of_row, decode_of}
use Rattle.machine_defs.specs.Machine.{word_of, encode_of}
use Rattle.machine_defs.specs.Mnemonics.{Fields, fields, fields_of, form_of, instr_with, instruction_row, mnemonic_numbered, mnemonics}
use Rattle.machine_defs.proofs.Instructions.{each, fields_back, fields_in, find_none, find_only, found_passes}
use Rattle.machine_defs.proofs.Instructions.{instr_of_fields, none_passes, same_number}
use Rattle.nook_data.specs.declared.machine.Form.{Form}
use Rattle.nook_data.specs.declared.machine.Form.TheVariants as form
use Rattle.nook_data.specs.declared.machine.Instr.{Instr}
use Rattle.nook_data.specs.declared.machine.Mnemonic.{Mnemonic}

-- the fields of an instruction fit in a word
pub record InRange (f : Fields) : Type 0 where
  pub low_a : f.a < 16
  pub low_b : f.b < 16
  pub low_imm : f.imm < 2 ^ 16

-- an instruction encodes to the word, and its fields are in range
abbrev pub Fits : ℕ → Instr → Type 0
Fits word i = (encode_of i ≡ word) × InRange (fields_of i)

-- if the other operands are 0, the form's operands are all operands
all_in : (m : Mnemonic) (x : Form) (a b imm : ℕ) → has_no_other x a b imm ≡ true
    → fields_in m x a b imm ≡ fields m a b imm
all_in m form.Bare a b imm h = let first = and_parts (a == 0 && b == 0) (imm == 0) h in let more = and_parts (a == 0) (b == 0) first.0 in
    rw (eqb-true a 0 more.0, eqb-true b 0 more.1, eqb-true imm 0 first.1) refl
all_in m form.A a b imm h = let more = and_parts (b == 0) (imm == 0) h in rw (eqb-true b 0 more.0, eqb-true imm 0 more.1) refl
all_in m form.Imm a b imm h = let more = and_parts (a == 0) (b == 0) h in rw (eqb-true a 0 more.0, eqb-true b 0 more.1) refl
all_in m form.AB a b imm h = rw (eqb-true imm 0 h) refl
all_in m form.AImm a b imm h = rw (eqb-true b 0 h) refl
all_in m form.ABImm a b imm h = refl

-- a word that belongs to a row fits the instruction of that row
row_fits : (w : ℕ) (m : Mnemonic) → w < 2 ^ 32 → is_of_row w m ≡ true → Fits w (instr_with m (a_field w) (b_field w) (imm_field w))
row_fits w m small h =
    let is = and_parts (op_field w == (instruction_row m).number) (has_no_other (form_of m) (a_field w) (b_field w) (imm_field w)) h in
    let same : fields_of (instr_with m (a_field w) (b_field w) (imm_field w)) ≡ fields m (a_field w) (b_field w) (imm_field w) =
    fields_back m (a_field w) (b_field w) (imm_field w) ∙ all_in m (form_of m) (a_field w) (b_field w) (imm_field w) is.1 in
    let op : op_field w ≡ (instruction_row m).number = eqb-true (op_field w) (instruction_row m).number is.0 in
    let whole : word_of (op_field w) (a_field w) (b_field w) (imm_field w) ≡ w = omega arith in (
      ap (λ (f : Fields). word_of (instruction_row f.mnemonic).number f.a f.b f.imm) same
          ∙ (ap (λ n. word_of n (a_field w) (b_field w) (imm_field w)) (sym op) ∙ whole),
      subst InRange (sym same) (record { low_a = omega arith; low_b = omega arith; low_imm = omega arith }),
    )

found_fits : (w : ℕ) (found : Option Mnemonic) → w < 2 ^ 32 → IfSome found (λ m. is_of_row w m ≡ true)
    → IfSome (option_map (λ m. instr_with m (a_field w) (b_field w) (imm_field w)) found) (Fits w)
found_fits w None small h = tt
found_fits w (Some m) small h = row_fits w m small h

pub decoded : (w : ℕ) (i : Instr) → w < 2 ^ 32 → decode_of w ≡ Some i → Fits w i
decoded w i small e =
    subst (λ o. IfSome o (Fits w)) e (found_fits w (find (is_of_row w) mnemonics) small (found_passes (is_of_row w) mnemonics (find (is_of_row w) mnemonics) refl))

pub encodes_back : (w : ℕ) (i : Instr) → w < 2 ^ 32 → decode_of w ≡ Some i → encode_of i ≡ w
encodes_back w i small e = (decoded w i small e).0

-- ---- the row of a word

-- a word of a mnemonic's row has the number of the row
numbered : (w : ℕ) (m : Mnemonic) → is_of_row w m ≡ true → op_field w ≡ (instruction_row m).number
numbered w m h = eqb-true (op_field w) (instruction_row m).number
    (and_parts (op_field w == (instruction_row m).number) (has_no_other (form_of m) (a_field w) (b_field w) (imm_field w)) h).0

-- a word has no row but that of its number
only_row : (w : ℕ) (m x : Mnemonic) → op_field w ≡ (instruction_row m).number → is_of_row w x ≡ true → x ≡ m
only_row w m x op is = same_number x m (sym (numbered w x is) ∙ op)

-- the instruction of a word whose number is that of a row: none if a field that the row does not have is not 0
pub decoded_row : (w : ℕ) (m : Mnemonic) → mnemonic_numbered (op_field w) ≡ Some m
    → decode_of w ≡ (if has_no_other (form_of m) (a_field w) (b_field w) (imm_field w)
    then Some (instr_with m (a_field w) (b_field w) (imm_field w)) else None)
decoded_row w m found = by_fields (has_no_other (form_of m) (a_field w) (b_field w) (imm_field w)) refl
  where
    same : (op_field w == (instruction_row m).number) ≡ true
    same = found_passes (λ m. op_field w == (instruction_row m).number) mnemonics (Some m) found

    op : op_field w ≡ (instruction_row m).number
    op = eqb-true (op_field w) (instruction_row m).number same

    by_fields : (t : Bool) → has_no_other (form_of m) (a_field w) (b_field w) (imm_field w) ≡ t
        → decode_of w ≡ (if t then Some (instr_with m (a_field w) (b_field w) (imm_field w)) else None)
    by_fields true e = ap (option_map (λ m. instr_with m (a_field w) (b_field w) (imm_field w)))
        (find_only (is_of_row w) m (rw (same, e) refl) (λ x is. only_row w m x op is))
    by_fields false e = ap (option_map (λ m. instr_with m (a_field w) (b_field w) (imm_field w)))
        (find_none (is_of_row w) (λ x is. false≢true (sym (rw (same, e) refl) ∙ subst (λ y. is_of_row w y ≡ true) (only_row w m x op is) is)))

-- a word whose number no row has is no instruction
pub decoded_none : (w : ℕ) → mnemonic_numbered (op_field w) ≡ None → decode_of w ≡ None
decoded_none w none = ap (option_map (λ m. instr_with m (a_field w) (b_field w) (imm_field w)))
    (find_none (is_of_row w) (λ x is. none_passes (λ m. op_field w == (instruction_row m).number) none x
    (and_parts (op_field w == (instruction_row x).number) (has_no_other (form_of x) (a_field w) (b_field w) (imm_field w)) is).0))

-- ---- the word of an instruction

no_other : (m : Mnemonic) (x : Form) (a b imm : ℕ)
    → has_no_other x (fields_in m x a b imm).a (fields_in m x a b imm).b (fields_in m x a b imm).imm ≡ true
no_other m form.Bare a b imm = refl
no_other m form.A a b imm = refl
no_other m form.Imm a b imm = refl
no_other m form.AB a b imm = refl
no_other m form.AImm a b imm = refl
no_other m form.ABImm a b imm = refl

-- an instruction has only the operands of its form
of_form : (i : Instr) → fields_of i
    ≡ fields_in (fields_of i).mnemonic (form_of (fields_of i).mnemonic) (fields_of i).a (fields_of i).b (fields_of i).imm
of_form i = ap fields_of (sym (instr_of_fields i)) ∙ fields_back (fields_of i).mnemonic (fields_of i).a (fields_of i).b (fields_of i).imm

-- the fields of a word, back from the word
record AreFields (w op a b imm : ℕ) : Type 0 where
  is_op : op_field w ≡ op
  is_a : a_field w ≡ a
  is_b : b_field w ≡ b
  is_imm : imm_field w ≡ imm

fields_from : (op a b imm : ℕ) → op ≤ 255 → a < 16 → b < 16 → imm < 2 ^ 16 → AreFields (word_of op a b imm) op a b imm
fields_from op a b imm low_op low_a low_b low_imm =
    record { is_op = omega arith; is_a = omega arith; is_b = omega arith; is_imm = omega arith }

-- the word of an instruction decodes to it
pub decodes_back : (i : Instr) → InRange (fields_of i) → decode_of (encode_of i) ≡ Some i
decodes_back i range =
    ap (option_map (λ m. instr_with m (a_field w) (b_field w) (imm_field w))) (find_only (is_of_row w) m of_row (λ x is. only_row w m x parts.is_op is))
    ∙ rw (parts.is_a, parts.is_b, parts.is_imm) (ap Some (instr_of_fields i))
  where
    m : Mnemonic
    m = (fields_of i).mnemonic

    w : ℕ
    w = encode_of i

    low : (instruction_row m).number ≤ 255
    low = leb-true (instruction_row m).number 255 (each (λ m. nat_le (instruction_row m).number 255) refl m)

    parts : AreFields w (instruction_row m).number (fields_of i).a (fields_of i).b (fields_of i).imm
    parts = fields_from (instruction_row m).number (fields_of i).a (fields_of i).b (fields_of i).imm low range.low_a range.low_b range.low_imm

    alone : has_no_other (form_of m) (fields_of i).a (fields_of i).b (fields_of i).imm ≡ true
    alone = subst (λ (f : Fields). has_no_other (form_of m) f.a f.b f.imm ≡ true) (sym (of_form i))
        (no_other m (form_of m) (fields_of i).a (fields_of i).b (fields_of i).imm)

    of_row : is_of_row w m ≡ true
    of_row = rw (parts.is_op, parts.is_a, parts.is_b, parts.is_imm, alone, eq-eqb (instruction_row m).number (instruction_row m).number refl) refl
