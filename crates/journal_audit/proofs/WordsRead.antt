-- The words of a line, and the contexts that they name, as they are read.
use Rattle.std.proofs.Common.{◌≡◌, ℕ, zero, suc, ◌+◌, ◌-◌, ◌/◌, ◌%◌, ◌^◌, ◌<◌, ◌≤◌, ◌==◌, nat_lt, not, true, false, Some, None, Option, List, [], ◌∷◌, ◌++◌, length, take, drop, bytes_eq, decimal, refl, sym, ap, ◌∙◌, arith, true≢false, one-add, add-one}
use Rattle.std.proofs.lemmas.Bool.Decides.{nat_tests}
use Rattle.std.proofs.lemmas.Fmt.{decimal_digit, decimal_step}
use Rattle.std.specs.List.{position, prefix_len}
use Rattle.part_laws.proofs.Indices.{some_same, split}
use Rattle.run_laws.specs.Audit.{context_among, with_byte, word_at, words_of}

-- ---- words

-- how many bytes are before the first blank
abbrev in_front : List ℕ → ℕ
in_front line = prefix_len (λ x. not (x == 32)) line

cut_word : (line : List ℕ) → nat_lt (in_front line) (length line) ≡ true
    → words_of line ≡ take (in_front line) line ∷ words_of (drop (suc (in_front line)) line)
cut_word [] h = absurd (true≢false (sym h))
cut_word (byte ∷ line) h = split (byte == 32)
    (λ e. rw e refl)
    (λ e. let less : nat_lt (1 + in_front line) (suc (length line)) ≡ true = rw e at h in
    let within : nat_lt (in_front line) (length line) ≡ true = grind (arith, nat_tests) in
    rw (e, one-add) (ap (with_byte byte) (cut_word line within)))

uncut_word : (line : List ℕ) → nat_lt (in_front line) (length line) ≡ false → words_of line ≡ line ∷ []
uncut_word [] h = refl
uncut_word (byte ∷ line) h = split (byte == 32)
    (λ e. let all : nat_lt 0 (suc (length line)) ≡ false = rw e at h in absurd (grind (arith, nat_tests)))
    (λ e. let more : nat_lt (1 + in_front line) (suc (length line)) ≡ false = rw e at h in
    let past : nat_lt (in_front line) (length line) ≡ false = grind (arith, nat_tests) in
    rw e (ap (with_byte byte) (uncut_word line past)))

abbrev blank_in : List ℕ → Option ℕ
blank_in line = position (λ x. x == 32) line

first_cut : (line : List ℕ) (at : ℕ) → blank_in line ≡ Some at → words_of line ≡ take at line ∷ words_of (drop (at + 1) line)
first_cut line at h = split (nat_lt (in_front line) (length line))
    (λ e. let same : in_front line ≡ at = some_same _ _ (rw e at h) in rw (← same, add-one) (cut_word line e))
    (λ e. let none : None ≡ Some at = rw e at h in absurd cc)

never_cut : (line : List ℕ) → blank_in line ≡ None → words_of line ≡ line ∷ []
never_cut line h = split (nat_lt (in_front line) (length line))
    (λ e. let some : Some (in_front line) ≡ None = rw e at h in absurd cc)
    (λ e. uncut_word line e)

-- the word before the first blank
pub word_first : (index : ℕ) (line : List ℕ) (at : ℕ) → index ≡ 0 → blank_in line ≡ Some at → take at line ≡ word_at index line
word_first index line at z h = rw (z, first_cut line at h) refl

-- a word after the first blank
pub word_later : (index : ℕ) (line rest word : List ℕ) (at : ℕ) → 0 < index → blank_in line ≡ Some at → rest ≡ drop (at + 1) line
    → word ≡ word_at (index - 1) rest → word ≡ word_at index line
word_later zero line rest word at z h r w = absurd (omega arith)
word_later (suc k) line rest word at z h r w =
    let less : suc k - 1 ≡ k = omega arith in
    w ∙ rw (less, first_cut line at h, r) refl

-- the only word
pub word_only : (index : ℕ) (line : List ℕ) → index ≡ 0 → blank_in line ≡ None → line ≡ word_at index line
word_only index line z h = rw (z, never_cut line h) refl

-- after the last word there is none
pub word_none : (index : ℕ) (line : List ℕ) → 0 < index → blank_in line ≡ None → [] ≡ word_at index line
word_none zero line z h = absurd (omega arith)
word_none (suc k) line z h = rw (never_cut line h) refl

-- ---- contexts

-- a number of two digits below 20
pub decimal_teen : (n : ℕ) → 10 ≤ n → n < 20 → decimal n ≡ 49 ∷ (48 + (n - 10)) ∷ []
decimal_teen n low high =
    let fits : n < 2 ^ 64 = omega arith in
    let one : n / 10 ≡ 1 = omega arith in
    let left : n % 10 ≡ n - 10 = omega arith in
    let small : 1 < 10 = omega arith in
    rw (decimal_step n low fits, one, decimal_digit 1 small, left) refl

-- the context is not this one, and is looked for among the later ones
pub not_this : (letter word : List ℕ) (k : ℕ) → k < 17 → bytes_eq word (letter ++ decimal k) ≡ false
    → context_among (17 - k) letter word k ≡ context_among (17 - (k + 1)) letter word (k + 1)
not_this letter word k h other =
    let less : 17 - k ≡ suc (17 - (k + 1)) = omega arith in
    rw (less, add-one, other) refl

-- the context is this one
pub this_one : (letter word : List ℕ) (k : ℕ) → k < 17 → bytes_eq word (letter ++ decimal k) ≡ true
    → context_among (17 - k) letter word k ≡ Some k
this_one letter word k h same =
    let less : 17 - k ≡ suc (16 - k) = omega arith in
    rw (less, same) refl

-- no context is left
pub none_left : (letter word : List ℕ) (k : ℕ) → 17 ≤ k → context_among (17 - k) letter word k ≡ None
none_left letter word k h = let none : 17 - k ≡ 0 = omega arith in rw none refl
