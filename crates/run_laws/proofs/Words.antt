-- The words of a line, and the numbers among them.
use Rattle.std.proofs.Common.{◌≡◌, ℕ, zero, suc, ◌+◌, ◌%◌, ◌/◌, ◌<◌, ◌≤◌, ◌^◌, ◌==◌, nat_le, Bool, true, false, ◌&&◌, not, Some, Option, List, [], ◌∷◌, ◌++◌, refl, sym, ap, ◌∙◌, arith, true≢false, bytes_eq, decimal, le-leb}
use Rattle.std.proofs.lemmas.Bool.{and_from, ne_eqb, not_from_false}
use Rattle.std.proofs.lemmas.Bool.Decides.{nat_tests}
use Rattle.std.proofs.lemmas.Fmt.{decimal_injective}
use Rattle.std.proofs.lemmas.Slice.Eq.{bytes_eq-Decides}
use Rattle.std.specs.Fmt.{digit_glyph, digits, digits_onto}
use Rattle.part_laws.proofs.Indices.{split}
use Rattle.run_laws.proofs.Lines.{has_no_feed}
use Rattle.run_laws.specs.Audit.{context_among, context_in, is_numbered, with_byte, words_of}

-- ---- the bytes of a number

abbrev IsDigit : ℕ → Type 0
IsDigit byte = (48 ≤ byte) × (byte ≤ 57)

abbrev AreDigits : List ℕ → Type 0
AreDigits [] = Unit {0}
AreDigits (byte ∷ bytes) = IsDigit byte × AreDigits bytes

-- one digit or more
abbrev AreSomeDigits : List ℕ → Type 0
AreSomeDigits [] = ⊥
AreSomeDigits (byte ∷ bytes) = IsDigit byte × AreDigits bytes

glyph_is_digit : (n : ℕ) → IsDigit (digit_glyph false (n % 10))
glyph_is_digit n = grind (arith, nat_tests)

onto_digits : (k n byte : ℕ) (bytes : List ℕ) → AreSomeDigits (byte ∷ bytes) → AreSomeDigits (digits_onto k 10 false n (byte ∷ bytes))
onto_digits zero n byte bytes h = h
onto_digits (suc k) n byte bytes h = split (n / 10 == 0)
    (λ e. rw e (glyph_is_digit n, h))
    (λ e. rw e (onto_digits k (n / 10) (digit_glyph false (n % 10)) (byte ∷ bytes) (glyph_is_digit n, h)))

onto_none : (k n : ℕ) → AreSomeDigits (digits_onto (suc k) 10 false n [])
onto_none k n = split (n / 10 == 0)
    (λ e. rw e (glyph_is_digit n, tt))
    (λ e. rw e (onto_digits k (n / 10) (digit_glyph false (n % 10)) [] (glyph_is_digit n, tt)))

decimal_digits : (n : ℕ) → AreSomeDigits (decimal n)
unfolding digits
decimal_digits n = onto_none 63 n

some_are : (bytes : List ℕ) → AreSomeDigits bytes → AreDigits bytes
some_are [] h = absurd h
some_are (byte ∷ bytes) h = h

-- no byte is a blank
abbrev pub has_no_blank : List ℕ → Bool
has_no_blank [] = true
has_no_blank (byte ∷ bytes) = not (byte == 32) && has_no_blank bytes

digits_no_blank : (bytes : List ℕ) → AreDigits bytes → has_no_blank bytes ≡ true
digits_no_blank [] h = refl
digits_no_blank (byte ∷ bytes) h =
    and_from (not (byte == 32)) (has_no_blank bytes) (not_from_false (byte == 32) (ne_eqb byte 32 (λ e. omega arith))) (digits_no_blank bytes h.1)

digits_no_feed : (bytes : List ℕ) → AreDigits bytes → has_no_feed bytes ≡ true
digits_no_feed [] h = refl
digits_no_feed (byte ∷ bytes) h =
    and_from (not (byte == 10)) (has_no_feed bytes) (not_from_false (byte == 10) (ne_eqb byte 10 (λ e. omega arith))) (digits_no_feed bytes h.1)

pub decimal_no_blank : (n : ℕ) → has_no_blank (decimal n) ≡ true
decimal_no_blank n = digits_no_blank (decimal n) (some_are (decimal n) (decimal_digits n))

pub decimal_no_feed : (n : ℕ) → has_no_feed (decimal n) ≡ true
decimal_no_feed n = digits_no_feed (decimal n) (some_are (decimal n) (decimal_digits n))

digits_numbered : (bytes rest : List ℕ) → AreSomeDigits bytes → is_numbered (bytes ++ rest) ≡ true
digits_numbered [] rest h = absurd h
digits_numbered (byte ∷ bytes) rest h = and_from (nat_le 48 byte) (nat_le byte 57) (le-leb 48 byte h.0.0) (le-leb byte 57 h.0.1)

-- what begins with a number is numbered
pub decimal_numbered : (n : ℕ) (rest : List ℕ) → is_numbered (decimal n ++ rest) ≡ true
decimal_numbered n rest = digits_numbered (decimal n) rest (decimal_digits n)

-- ---- words

-- the first word, if a blank ends it
pub first_word : (word rest : List ℕ) → has_no_blank word ≡ true → words_of (word ++ 32 ∷ rest) ≡ word ∷ words_of rest
first_word [] rest h = refl
first_word (byte ∷ word) rest h = split (byte == 32)
    (λ e. absurd (true≢false (sym (rw e at h))))
    (λ e. rw e (ap (with_byte byte) (first_word word rest (rw e at h))))

-- words, each followed by a blank
abbrev pub joined : List (List ℕ) → List ℕ → List ℕ
joined [] rest = rest
joined (word ∷ words) rest = word ++ 32 ∷ joined words rest

abbrev pub HaveNoBlank : List (List ℕ) → Type 0
HaveNoBlank [] = Unit {0}
HaveNoBlank (word ∷ words) = (has_no_blank word ≡ true) × HaveNoBlank words

pub words_of_joined : (words : List (List ℕ)) (rest : List ℕ) → HaveNoBlank words → words_of (joined words rest) ≡ words ++ words_of rest
words_of_joined [] rest h = refl
words_of_joined (word ∷ words) rest h =
    first_word word (joined words rest) h.0 ∙ ap {B = List (List ℕ)} (λ more. word ∷ more) (words_of_joined words rest h.1)

-- ---- the context that a word names

same_number : (letter c k : ℕ) → c < 2 ^ 64 → k < 2 ^ 64 → letter ∷ decimal c ≡ letter ∷ decimal k → c ≡ k
same_number letter c k hc hk e = let same : decimal c ≡ decimal k = cc in decimal_injective c k hc hk same

named_among : (more k c letter : ℕ) → k ≤ c → c < k + more → c < 2 ^ 64 → context_among more (letter ∷ []) (letter ∷ decimal c) k ≡ Some c
named_among zero k c letter low high small = absurd (omega arith)
named_among (suc more) k c letter low high small = split (bytes_eq (letter ∷ decimal c) (letter ∷ decimal k))
    (λ e. rw e (ap {B = Option ℕ} (λ (n : ℕ). Some n) (sym (same_number letter c k small (omega arith)
    ((bytes_eq-Decides (letter ∷ decimal c) (letter ∷ decimal k)).0 e)))))
    (λ e. rw e (named_among more (suc k) c letter (other e) (omega arith) small))
  where
    other : bytes_eq (letter ∷ decimal c) (letter ∷ decimal k) ≡ false → suc k ≤ c
    other e =
        let apart : k ≡ c → ⊥ = λ same. true≢false (sym ((bytes_eq-Decides (letter ∷ decimal c) (letter ∷ decimal k)).1
        (ap {B = List ℕ} (λ (n : ℕ). letter ∷ decimal n) (sym same))) ∙ e) in
        omega arith

-- a letter and a number below 17 name that context
pub context_named : (letter c : ℕ) → c < 17 → context_in (letter ∷ []) (letter ∷ decimal c) ≡ Some c
context_named letter c h = named_among 17 0 c letter (omega arith) (omega arith) (omega arith)
