-- A number among the arguments, and its text.
use Rattle.std.proofs.Common.{◌≡◌, ℕ, zero, suc, ◌^◌, ◌<◌, ◌≤◌, ◌==◌, ◌&&◌, nat_le, not, if◌then◌else◌, Bool, true, false, Option, Some, None, Result, Ok, Err, List, [], ◌∷◌, IfNone, IfSome, get_or, refl, sym, ap, ◌∙◌, arith, true≢false, codes, decimal}
use Rattle.std.proofs.lemmas.Bool.{and_parts, le-leb, leb-true}
use Rattle.std.proofs.lemmas.Fmt.{decimal-digits_value, first_decimal, parse-decimal}
use Rattle.std.proofs.lemmas.Str.Parse.{numerals_by_value, tells_digits}
use Rattle.std.specs.Fmt.{digits}
use Rattle.std.specs.Str.Parse.{ParsesUnsigned, IsNumeral, digits_value}
use Rattle.command_forms.specs.Forms.{is_plain, within}

-- a plain text that was parsed is its number in decimal

not_equal : (a b : ℕ) → not (a == b) ≡ true → (a == b) ≡ false
not_equal a b h = by_test (a == b) h
  where
    by_test : (t : Bool) → not t ≡ true → t ≡ false
    by_test true k = absurd (true≢false (sym k))
    by_test false k = refl

spelled : (b : ℕ) (bs : List ℕ) (n : ℕ) → (b == 48) ≡ false → IsNumeral 10 (b ∷ bs) → digits_value 10 (b ∷ bs) < 2 ^ 32 → n ≡ digits_value 10 (b ∷ bs)
    → (b ∷ bs) ≡ decimal n
spelled b bs n nonzero numeral small e =
    let few : digits_value 10 (b ∷ bs) < 2 ^ 64 = omega (arith, small) in
    let text : decimal (digits_value 10 (b ∷ bs)) ≡ b ∷ bs =
    decimal-digits_value (numerals_by_value _ tells_digits) (b ∷ bs) numeral.1 numeral.0 (λ z. absurd (grind (arith, z, nonzero))) few in
    sym (ap decimal e ∙ text)

plain_is_decimal : (E : Type 0) (bs : List ℕ) (n : ℕ) → ParsesUnsigned {E = E} 32 10 bs (Ok n) → is_plain bs ≡ true → bs ≡ decimal n
plain_is_decimal E [] n h p = absurd (true≢false (sym p))
plain_is_decimal E (b ∷ bs) n h p =
    let parts = and_parts (not (b == 43)) (not (b == 48)) p in
    let plus : (b == 43) ≡ false = not_equal b 43 parts.0 in
    let read : (IsNumeral 10 (b ∷ bs) × (digits_value 10 (b ∷ bs) < 2 ^ 32)) × (n ≡ digits_value 10 (b ∷ bs)) = rw plus at h in
    spelled b bs n (not_equal b 48 parts.1) read.0.0 read.0.1 read.1

-- the text of a number is plain

different : (a b : ℕ) → b < a → not (a == b) ≡ true
different a b low = by_test (a == b) (λ e. absurd (grind (arith, e, low)))
  where
    by_test : (t : Bool) → (t ≡ true → not t ≡ true) → not t ≡ true
    by_test true k = k refl
    by_test false k = refl

head_is_plain : (ds : List ℕ) → 48 < get_or ds 0 0 → is_plain ds ≡ true
head_is_plain [] h = absurd (omega (arith, h))
head_is_plain (b ∷ ds) h =
    let low : 48 < b = h in
    let plus : 43 < b = omega (arith, low) in
    let first : not (b == 43) ≡ true = different b 43 plus in
    let second : not (b == 48) ≡ true = different b 48 low in
    ap (λ x. x && not (b == 48)) first ∙ second

decimal_is_plain : (n : ℕ) → 1 ≤ n → n < 2 ^ 32 → is_plain (decimal n) ≡ true
decimal_is_plain n low high = head_is_plain (decimal n) (first_decimal n (omega (arith, low)) (omega (arith, high)))

is_within : (most n : ℕ) → 1 ≤ n → n ≤ most → within most n true ≡ Some n
is_within most n low high =
    let first : nat_le 1 n ≡ true = le-leb 1 n low in
    let second : nat_le n most ≡ true = le-leb n most high in
    rw (first, second) refl

-- what the function returns

found_by : (bs : List ℕ) (most n : ℕ) (low high plain : Bool) → low ≡ nat_le 1 n → high ≡ nat_le n most → (plain ≡ true → bs ≡ decimal n)
    → IfSome (if low && high && plain then Some n else None) (λ m. (bs ≡ decimal m) × (1 ≤ m) × (m ≤ most))
found_by bs most n true true true a b p = (p refl, leb-true 1 n (sym a), leb-true n most (sym b))
found_by bs most n true true false a b p = tt
found_by bs most n true false plain a b p = tt
found_by bs most n false high plain a b p = tt

pub number_found : (E : Type 0) (most : ℕ) (bs : List ℕ) (r : Result ℕ E) (n : ℕ) (x : Option ℕ) → ParsesUnsigned 32 10 bs r → r ≡ Ok n → x ≡ within most n (is_plain bs)
    → IfSome x (λ m. (bs ≡ decimal m) × (1 ≤ m) × (m ≤ most))
number_found E most bs r n x h e w =
    let read : ParsesUnsigned {E = E} 32 10 bs (Ok n) = rw e at h in
    rw w (found_by bs most n (nat_le 1 n) (nat_le n most) (is_plain bs) refl refl (λ p. plain_is_decimal E bs n read p))

pub number_none : (E : Type 0) (most : ℕ) (bs : List ℕ) (r : Result ℕ E) (m : ℕ) (x : Option ℕ) → most < 2 ^ 32 → ParsesUnsigned 32 10 bs r → r ≡ Ok m → x ≡ within most m (is_plain bs)
    → IfNone x ((n : ℕ) → bs ≡ decimal n → 1 ≤ n → n ≤ most → ⊥)
number_none E most bs r m (Some y) small h e w = tt
number_none E most bs r m None small h e w = λ n text low high.
    let parsed : r ≡ Ok n = parse-decimal 32 n bs r (omega (arith, high, small)) (omega (arith, high, small)) text h in
    let same : m ≡ n = cc in
    let plain : is_plain bs ≡ true = ap is_plain text ∙ decimal_is_plain n low (omega (arith, high, small)) in
    let some : within most m (is_plain bs) ≡ Some n = rw (same, plain) (is_within most n low high) in
    let none : None ≡ Some n = w ∙ some in
    absurd (cc)

pub number_failed : (E : Type 0) (most : ℕ) (bs : List ℕ) (r : Result ℕ E) (x : E) → most < 2 ^ 32 → ParsesUnsigned 32 10 bs r → r ≡ Err x
    → (n : ℕ) → bs ≡ decimal n → 1 ≤ n → n ≤ most → ⊥
number_failed E most bs r x small h e n text low high =
    let parsed : r ≡ Ok n = parse-decimal 32 n bs r (omega (arith, high, small)) (omega (arith, high, small)) text h in
    absurd (cc)

-- the number of a part

zero_text : decimal 0 ≡ codes "0"
unfolding digits
zero_text = refl

pub part_zero : (bs : List ℕ) → bs ≡ codes "0" → (bs ≡ decimal 0) × (0 ≤ 7)
part_zero bs e = (e ∙ sym zero_text, omega arith)

pub part_none : (bs : List ℕ) (x : Option ℕ) → (bs ≡ codes "0" → ⊥) → IfNone x ((n : ℕ) → bs ≡ decimal n → 1 ≤ n → n ≤ 7 → ⊥)
    → IfNone x ((n : ℕ) → bs ≡ decimal n → n ≤ 7 → ⊥)
part_none bs (Some y) other h = tt
part_none bs None other h = λ n e l. by_number n e l
  where
    by_number : (n : ℕ) → bs ≡ decimal n → n ≤ 7 → ⊥
    by_number zero e l = other (e ∙ zero_text)
    by_number (suc n) e l = h (suc n) e (omega arith) l
