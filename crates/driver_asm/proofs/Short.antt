-- Lists of two and three tokens.
use Rattle.std.proofs.Common.{◌≡◌, ℕ, ◌<◌, ◌≤◌, List, [], ◌∷◌, length, get_or, arith, Some}
use Rattle.asm_defs.specs.AsmLines.{Labels, operands_of, operands_with, value_of}
use Rattle.asm_defs.specs.AsmTokens.{register_named}
use Rattle.nook_data.specs.declared.machine.Form.TheVariants as form

two : (tokens : List (List ℕ)) (a b : List ℕ) → 2 ≤ length tokens → length tokens < 3 → a ≡ get_or tokens 0 a → b ≡ get_or tokens 1 b → tokens ≡ a ∷ b ∷ []
two [] a b low high p q = absurd (omega (arith, low))
two (x ∷ []) a b low high p q = absurd (omega (arith, low))
two (x ∷ y ∷ []) a b low high p q = cc
two (x ∷ y ∷ z ∷ more) a b low high p q = absurd (omega (arith, high))

three : (tokens : List (List ℕ)) (a b d : List ℕ) → 3 ≤ length tokens → length tokens < 4 → a ≡ get_or tokens 0 a → b ≡ get_or tokens 1 b → d ≡ get_or tokens 2 d → tokens ≡ a ∷ b ∷ d ∷ []
three [] a b d low high p q r = absurd (omega (arith, low))
three (x ∷ []) a b d low high p q r = absurd (omega (arith, low))
three (x ∷ y ∷ []) a b d low high p q r = absurd (omega (arith, low))
three (x ∷ y ∷ z ∷ []) a b d low high p q r = cc
three (x ∷ y ∷ z ∷ w ∷ more) a b d low high p q r = absurd (omega (arith, high))

pub register_and_value : (labels : Labels) (tokens : List (List ℕ)) (a imm : List ℕ) → 2 ≤ length tokens → length tokens < 3 → a ≡ get_or tokens 0 a → imm ≡ get_or tokens 1 imm
    → operands_of labels form.AImm tokens ≡ operands_with (register_named a) (Some 0) (value_of labels imm)
unfolding operands_of
register_and_value labels tokens a imm low high p q = rw (two tokens a imm low high p q)

pub registers_and_value : (labels : Labels) (tokens : List (List ℕ)) (a b imm : List ℕ) → 3 ≤ length tokens → length tokens < 4 → a ≡ get_or tokens 0 a → b ≡ get_or tokens 1 b → imm ≡ get_or tokens 2 imm
    → operands_of labels form.ABImm tokens ≡ operands_with (register_named a) (register_named b) (value_of labels imm)
unfolding operands_of
registers_and_value labels tokens a b imm low high p q r = rw (three tokens a b imm low high p q r)
