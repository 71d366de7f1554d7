-- Eight hexadecimal digits are read as their word.
use Rattle.std.proofs.Common.{◌≡◌, ℕ, ◌<◌, ◌^◌, Bool, true, false, cond, ◌&&◌, List, [], ◌∷◌, length, drop, refl, subst, arith, ◌==◌}
use Rattle.std.specs.Prelude.{Result, Ok}
use Rattle.std.specs.Char.{digit_value}
use Rattle.std.specs.List.{list_all}
use Rattle.std.specs.Str.Parse.{AllDigits, IsNumeral, ParsesUnsigned, digits_value, without_leading_plus}
use Rattle.std.proofs.lemmas.Bool.{ltb-true, eqb-true}
use Rattle.std.proofs.lemmas.Int.Digits.{digits_value-lt}
use Rattle.std.proofs.lemmas.Result.{Ok-from_Ok_iff}
use Rattle.input_defs.specs.Views.Readings.{is_hex_digit}

and_true : (a b : Bool) → (a && b) ≡ true → (a ≡ true) × (b ≡ true)
and_true true b h = (refl, h)
and_true false b h = absurd (cc h)

all_digits : (digits : List ℕ) → list_all is_hex_digit digits ≡ true → AllDigits 16 digits
all_digits [] h = tt
all_digits (c ∷ cs) h = (
  ltb-true (digit_value c) 16 (and_true (is_hex_digit c) (list_all is_hex_digit cs) h).0,
  all_digits cs (and_true (is_hex_digit c) (list_all is_hex_digit cs) h).1,
)

-- a plus sign is no digit
no_plus_digit : is_hex_digit 43 ≡ true → ⊥
no_plus_digit h = cc h

no_plus_by : (c : ℕ) (cs : List ℕ) (test : Bool) → (c == 43) ≡ test → is_hex_digit c ≡ true → drop (cond test 1 0) (c ∷ cs) ≡ c ∷ cs
no_plus_by c cs false e h = refl
no_plus_by c cs true e h = absurd (no_plus_digit (subst (λ n. is_hex_digit n ≡ true) (eqb-true c 43 e) h))

no_plus : (digits : List ℕ) → length digits ≡ 8 → list_all is_hex_digit digits ≡ true → without_leading_plus digits ≡ digits
no_plus [] e h = refl
no_plus (c ∷ cs) e h = no_plus_by c cs (c == 43) refl (and_true (is_hex_digit c) (list_all is_hex_digit cs) h).0

is_numeral : (digits : List ℕ) → length digits ≡ 8 → list_all is_hex_digit digits ≡ true
    → IsNumeral 16 (without_leading_plus digits) × (digits_value 16 (without_leading_plus digits) < 2 ^ 32)
is_numeral digits e h =
    rw (no_plus digits e h)
    ((omega (arith, e), all_digits digits h), subst (λ n. digits_value 16 digits < 16 ^ n) e (digits_value-lt 16 digits (all_digits digits h)))

pub parsed : {E : Type 0} (digits : List ℕ) (r : Result ℕ E) → length digits ≡ 8 → list_all is_hex_digit digits ≡ true
    → ParsesUnsigned 32 16 digits r → r ≡ Ok (digits_value 16 digits)
parsed digits r e h p =
    rw (Ok-from_Ok_iff r _ _ p (is_numeral digits e h), no_plus digits e h) refl
