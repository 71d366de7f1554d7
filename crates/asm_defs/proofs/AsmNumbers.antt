-- Registers and numbers as tokens.
use Rattle.std.specs.Prelude.{◌≡◌, refl, ℕ, zero, suc, ◌+◌, ◌-◌, ◌^◌, ◌<◌, ◌==◌, ◌&&◌, nat_le, Bool, true, false, List, [], ◌∷◌, length, slice_index, decimal, Some}
use Rattle.std.specs.List.{list_all}
use Rattle.std.specs.Char.{is_digit, digit_value}
use Rattle.std.specs.Fmt.{digits}
use Rattle.std.specs.Str.Parse.{AllDigits, digits_value}
use Rattle.std.proofs.Common.{inl, inr}
use Rattle.std.proofs.lemmas.Bool.{le-leb}
use Rattle.std.proofs.Math.Dec.{eqb-suc-zero}
use Rattle.std.proofs.lemmas.List.{get_or-take}
use Rattle.std.proofs.lemmas.Fmt.{decimal_is_IsNumeral}
use Rattle.std.proofs.lemmas.Str.Parse.{digit_from_value}
use Rattle.std.proofs.Math.Nat.{min-eq_left, eq-or-lt_of_le, suc-le-suc_iff}
use native.Mathlib.Omega.{arith}
use mathlib.Core.Path.{ap, subst, sym}
use Rattle.asm_defs.specs.AsmTokens.{is_letter, is_label_name, is_numeral, but_last, kind_of, register_named}
use Rattle.asm_defs.specs.AsmTokens.{register_text, is_not_empty}
use Rattle.asm_defs.specs.declared.assembler.TokenKind.TheVariants as kind
use Rattle.asm_defs.proofs.AsmText.{is_plain, IsPlainToken}

-- a fact holds of each number below this one, listed from the greatest down
abbrev pub Below : (ℕ → Type 0) → ℕ → Type 0
Below P zero = Unit {0}
Below P (suc n) = P n × Below P n

pub at_below : (P : ℕ → Type 0) (n : ℕ) → Below P n → (k : ℕ) → k < n → P k
at_below P zero each k lt = absurd (search (arith, lt))
at_below P (suc n) each k lt = elim (eq-or-lt_of_le (suc-le-suc_iff.0 lt)) [ inl same ↦ subst P (sym same) each.0 | inr less ↦ at_below P n each.1 k less ]

-- a digit is plain, no letter, a decimal digit and no dot
abbrev DigitFacts : ℕ → Type 0
DigitFacts d = (is_plain (48 + d) ≡ true) × (is_letter (48 + d) ≡ false) × (is_digit (48 + d) 10 ≡ true) × ((48 + d == 46) ≡ false)

digit_facts : (d : ℕ) → d < 10 → DigitFacts d
digit_facts = at_below DigitFacts 10 ((refl, refl, refl, refl), ((refl, refl, refl, refl), ((refl, refl, refl, refl), ((refl, refl, refl, refl), ((refl, refl, refl, refl), ((refl, refl, refl, refl), ((refl, refl, refl, refl), ((refl, refl, refl, refl), ((refl, refl, refl, refl), ((refl, refl, refl, refl), tt))))))))))

digit_of : (c : ℕ) → digit_value c < 10 → DigitFacts (c - 48)
digit_of c h = let range = digit_from_value c h in digit_facts (c - 48) (omega arith)

same_char : (c : ℕ) → digit_value c < 10 → 48 + (c - 48) ≡ c
same_char c h = let range = digit_from_value c h in omega arith

-- digits are plain, and form a numeral
all_digits : (ds : List ℕ) → AllDigits 10 ds → (list_all is_plain ds ≡ true) × (list_all (λ b. is_digit b 10) ds ≡ true)
all_digits [] h = (refl, refl)
all_digits (c ∷ cs) h =
    let facts : DigitFacts (c - 48) = digit_of c h.0 in
    let rest = all_digits cs h.1 in
    let same = same_char c h.0 in
    let plain : is_plain c ≡ true = subst (λ x. is_plain x ≡ true) same facts.0 in
    let digit : is_digit c 10 ≡ true = subst (λ x. is_digit x 10 ≡ true) same facts.2 in
    (rw plain rest.0, rw digit rest.1)

-- the first digit is no letter
no_letter : (ds : List ℕ) → AllDigits 10 ds → is_letter (slice_index ds 0) ≡ false
no_letter [] h = refl
no_letter (c ∷ cs) h = subst (λ x. is_letter x ≡ false) (same_char c h.0) (digit_of c h.0).1

-- the first digit is no dot
no_dot : (ds : List ℕ) → AllDigits 10 ds → (slice_index ds 0 == 46) ≡ false
no_dot [] h = refl
no_dot (c ∷ cs) h = subst (λ x. (x == 46) ≡ false) (same_char c h.0) (digit_of c h.0).3

first_but_last : (ds : List ℕ) → AllDigits 10 ds → is_letter (slice_index (but_last ds) 0) ≡ false
first_but_last [] h = refl
first_but_last (c ∷ []) h = refl
first_but_last (c ∷ d ∷ cs) h =
    rw (get_or-take (suc (suc (length cs)) - 1) (c ∷ d ∷ cs) 0 0 (omega arith)) (no_letter (c ∷ d ∷ cs) h)

and_false : (before after : Bool) → (before && false && after) ≡ false
and_false true after = refl
and_false false after = refl

no_name : (bytes : List ℕ) → is_letter (slice_index bytes 0) ≡ false → is_label_name bytes ≡ false
unfolding is_label_name
no_name bytes h = rw h (and_false (nat_le 1 (length bytes) && nat_le (length bytes) 32) _)

digits_kind : (ds : List ℕ) (n : ℕ) → AllDigits 10 ds → 0 < length ds → digits_value 10 ds ≡ n → n < 2 ^ 32 → kind_of ds ≡ kind.Number n
unfolding kind_of is_numeral
digits_kind ds n all some value small =
    rw (no_name ds (no_letter ds all), no_name (but_last ds) (first_but_last ds all), no_dot ds all, le-leb 1 (length ds) some, (all_digits ds all).1, value)
    (ap kind.Number (min-eq_left (omega arith)))

-- the token of a number
pub number_kind : (n : ℕ) → n < 2 ^ 32 → kind_of (decimal n) ≡ kind.Number n
number_kind n small = let numeral = decimal_is_IsNumeral n (omega arith) in digits_kind (decimal n) n numeral.0.1 numeral.0.0 numeral.1 small

some_bytes : (ds : List ℕ) → 0 < length ds → is_not_empty ds ≡ true
some_bytes [] h = absurd (search (arith, h))
some_bytes (c ∷ cs) h = rw (eqb-suc-zero (length cs)) refl

pub number_token : (n : ℕ) → n < 2 ^ 32 → IsPlainToken (decimal n)
number_token n small = let numeral = decimal_is_IsNumeral n (omega arith) in
    record { bytes = (all_digits (decimal n) numeral.0.1).0; some = some_bytes (decimal n) numeral.0.0 }

pub register_token : (r : ℕ) → r < 16 → register_named (register_text r) ≡ Some r
unfolding register_named digits
register_token = at_below (λ r. register_named (register_text r) ≡ Some r) 16 (refl, (refl, (refl, (refl, (refl, (refl, (refl, (refl, (refl, (refl, (refl, (refl, (refl, (refl, (refl, (refl, tt))))))))))))))))

pub register_kind : (r : ℕ) → r < 16 → kind_of (register_text r) ≡ kind.Name
unfolding kind_of is_label_name digits
register_kind = at_below (λ r. kind_of (register_text r) ≡ kind.Name) 16 (refl, (refl, (refl, (refl, (refl, (refl, (refl, (refl, (refl, (refl, (refl, (refl, (refl, (refl, (refl, (refl, tt))))))))))))))))

pub register_plain : (r : ℕ) → r < 16 → IsPlainToken (register_text r)
unfolding digits
register_plain = at_below (λ r. IsPlainToken (register_text r)) 16 (record { bytes = refl; some = refl }, (record { bytes = refl; some = refl }, (record { bytes = refl; some = refl }, (record { bytes = refl; some = refl }, (record { bytes = refl; some = refl }, (record { bytes = refl; some = refl }, (record { bytes = refl; some = refl }, (record { bytes = refl; some = refl }, (record { bytes = refl; some = refl }, (record { bytes = refl; some = refl }, (record { bytes = refl; some = refl }, (record { bytes = refl; some = refl }, (record { bytes = refl; some = refl }, (record { bytes = refl; some = refl }, (record { bytes = refl; some = refl }, (record { bytes = refl; some = refl }, tt))))))))))))))))
