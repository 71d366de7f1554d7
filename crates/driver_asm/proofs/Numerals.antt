-- Digits are read one after another, and the number is capped at 2^32.
use Rattle.std.proofs.Common.{◌≡◌, ℕ, ◌+◌, ◌*◌, ◌<◌, ◌≤◌, List, length, take, get_or, min, arith, ◌⊎◌, inl, inr, ap, ◌∙◌, sym}
use Rattle.std.specs.Char.{digit_value}
use Rattle.std.specs.Str.Parse.{digits_value}
use Rattle.std.proofs.lemmas.Int.Digits.{digits_value_more}
use Rattle.std.proofs.Math.Nat.{mul-le-mul_left, min-eq_left, min-eq_right}
use Rattle.std.proofs.lemmas.Bool.{cases_lt}
use Rattle.asm_defs.specs.AsmTokens.{numeral_value}

-- a number that is too large stays so when multiplied
too_large : (v base : ℕ) → 1 ≤ base → 4294967296 ≤ v → 4294967296 ≤ v * base
too_large v base low h = omega (arith, mul-le-mul_left {m = 1} {n = base} v low)

-- one more digit, whether the number has passed 2^32 or not
capped : (v base d : ℕ) → 1 ≤ base → (4294967296 < v) ⊎ (v ≤ 4294967296) → min (min v 4294967296 * base + d) 4294967296 ≡ min (v * base + d) 4294967296
capped v base d low (inr h) = rw (min-eq_left h)
capped v base d low (inl over) =
    let h : 4294967296 ≤ v = omega arith in
    let whole : 4294967296 ≤ v * base = too_large v base low h in
    let cut : 4294967296 ≤ 4294967296 * base = too_large 4294967296 base low (omega arith) in
    rw (min-eq_right {n = 4294967296} {m = v} h) (omega arith)

pub digit_more : (base : ℕ) (bytes : List ℕ) (i n : ℕ) → 1 ≤ base → i < length bytes → n ≡ numeral_value base (take i bytes)
    → numeral_value base (take (i + 1) bytes) ≡ min (n * base + digit_value (get_or bytes i 0)) 4294967296
digit_more base bytes i n low inside e =
    ap (λ v. min v 4294967296) (digits_value_more base bytes i inside)
    ∙ sym (capped (digits_value base (take i bytes)) base (digit_value (get_or bytes i 0)) low (cases_lt 4294967296 (digits_value base (take i bytes))))
    ∙ ap (λ m. min (m * base + digit_value (get_or bytes i 0)) 4294967296) (sym e)
