-- The registers of a decoded word, and the word of an instruction.
use Rattle.std.proofs.Common.{◌≡◌, ◌≤◌, ◌<◌, ◌^◌, ◌&&◌, ℕ, nat_le, true, Option, Some, None, IfSome, refl, sym, ap, subst, ◌∙◌, arith}
use Rattle.std.specs.Option.{option_map}
use Rattle.std.proofs.lemmas.Bool.{and_parts, leb-true}
use Rattle.std.specs.List.{find}
use Rattle.driver_isa.specs.Fields.{has_registers}
use Rattle.machine_defs.specs.Machine.{a_field, b_field, imm_field, is_of_row, decode_of, word_of}
use Rattle.machine_defs.specs.Mnemonics.{Fields, fields_of, form_of, instr_with, instruction_row, mnemonics}
use Rattle.machine_defs.proofs.Instructions.{fields_back, fields_in}
use Rattle.machine_defs.proofs.Words.{InRange, decodes_back}
use Rattle.nook_data.specs.declared.machine.Form.{Form}
use Rattle.nook_data.specs.declared.machine.Form.TheVariants as form
use Rattle.nook_data.specs.declared.machine.Instr.{Instr}
use Rattle.nook_data.specs.declared.machine.Mnemonic.{Mnemonic}

are_low : (m : Mnemonic) (x : Form) (a b imm : ℕ) → a ≤ 15 → b ≤ 15 → (nat_le (fields_in m x a b imm).a 15 && nat_le (fields_in m x a b imm).b 15) ≡ true
are_low m form.Bare a b imm low small = refl
are_low m form.A a b imm low small = grind arith
are_low m form.Imm a b imm low small = refl
are_low m form.AB a b imm low small = grind arith
are_low m form.AImm a b imm low small = grind arith
are_low m form.ABImm a b imm low small = grind arith

row_registers : (w : ℕ) (m : Mnemonic) → has_registers (instr_with m (a_field w) (b_field w) (imm_field w)) ≡ true
row_registers w m =
    ap (λ (f : Fields). nat_le f.a 15 && nat_le f.b 15) (fields_back m (a_field w) (b_field w) (imm_field w))
    ∙ are_low m (form_of m) (a_field w) (b_field w) (imm_field w) (omega arith) (omega arith)

found_registers : (w : ℕ) (found : Option Mnemonic)
    → IfSome (option_map (λ m. instr_with m (a_field w) (b_field w) (imm_field w)) found) (λ i. has_registers i ≡ true)
found_registers w None = tt
found_registers w (Some m) = row_registers w m

-- the register numbers of a decoded word's instruction are at most 15
pub decoded_registers : (w : ℕ) → IfSome (decode_of w) (λ i. has_registers i ≡ true)
decoded_registers w = found_registers w (find (is_of_row w) mnemonics)

-- the word of an instruction's fields decodes to it, if they are in range
pub encoded : (i : Instr) (f : Fields) (number w : ℕ) → has_registers i ≡ true → f ≡ fields_of i
    → number ≡ (instruction_row f.mnemonic).number → w ≡ word_of number f.a f.b f.imm → imm_field w ≡ f.imm
    → decode_of w ≡ Some i
encoded i f number w low is row word imm =
    ap decode_of (word ∙ (ap (λ n. word_of n f.a f.b f.imm) row ∙ ap (λ (f : Fields). word_of (instruction_row f.mnemonic).number f.a f.b f.imm) is))
    ∙ decodes_back i (subst InRange is (record { low_a = omega (arith, low_a); low_b = omega (arith, low_b); low_imm = subst (λ n. n < 2 ^ 16) imm small }))
  where
    both : (nat_le (fields_of i).a 15 ≡ true) × (nat_le (fields_of i).b 15 ≡ true)
    both = and_parts (nat_le (fields_of i).a 15) (nat_le (fields_of i).b 15) low

    low_a : f.a ≤ 15
    low_a = subst (λ (f : Fields). f.a ≤ 15) (sym is) (leb-true (fields_of i).a 15 both.0)

    low_b : f.b ≤ 15
    low_b = subst (λ (f : Fields). f.b ≤ 15) (sym is) (leb-true (fields_of i).b 15 both.1)

    small : imm_field w < 2 ^ 16
    small = omega arith
