-- Which picks come first.
use Rattle.std.proofs.Common.{◌≡◌, ℕ, ◌+◌, ◌<◌, ◌==◌, nat_lt, true, false, List, [], ◌∷◌}
use Rattle.std.proofs.Common.{◌++◌, length, refl, arith, eq-eqb, le-ltb, lt-ltb, length-append}
use Rattle.explore_defs.specs.Orders.{comes_before, is_lower}
use Rattle.part_laws.proofs.Indices.{split}

pub before_shorter : (a b : List ℕ) → length a < length b → comes_before a b ≡ true
before_shorter a b h = rw (lt-ltb (length a) (length b) h) refl

-- ---- of the same length

lower_before : (a b : List ℕ) → length a ≡ length b → is_lower a b ≡ true → comes_before a b ≡ true
lower_before a b l h =
    let no : nat_lt (length a) (length b) ≡ false = le-ltb (length a) (length b) (omega arith) in
    let same : (length a == length b) ≡ true = eq-eqb (length a) (length b) l in
    rw (no, same) h

before_lower : (a b : List ℕ) → length a ≡ length b → comes_before a b ≡ true → is_lower a b ≡ true
before_lower a b l h =
    let no : nat_lt (length a) (length b) ≡ false = le-ltb (length a) (length b) (omega arith) in
    let same : (length a == length b) ≡ true = eq-eqb (length a) (length b) l in
    (rw (no, same) at h)

lower_actor : (p : List ℕ) (x y : ℕ) → x < y → is_lower (p ++ x ∷ []) (p ++ y ∷ []) ≡ true
unfolding is_lower
lower_actor [] x y h = rw (lt-ltb x y h) refl
lower_actor (q ∷ p) x y h =
    let no : nat_lt q q ≡ false = le-ltb q q (omega arith) in
    let same : (q == q) ≡ true = eq-eqb q q refl in
    rw (no, same) (lower_actor p x y h)

same_longer : (a b : List ℕ) (x y : ℕ) → length a ≡ length b → length (a ++ x ∷ []) ≡ length (b ++ y ∷ [])
same_longer a b x y l =
    let la : length (a ++ x ∷ []) ≡ length a + 1 = length-append a (x ∷ []) in
    let lb : length (b ++ y ∷ []) ≡ length b + 1 = length-append b (y ∷ []) in omega arith

-- of two continuations of a state, the one with the smaller actor comes first
pub before_actor : (p : List ℕ) (x y : ℕ) → x < y → comes_before (p ++ x ∷ []) (p ++ y ∷ []) ≡ true
before_actor p x y h =
    lower_before (p ++ x ∷ []) (p ++ y ∷ []) (same_longer p p x y refl) (lower_actor p x y h)

lower_longer : (a b : List ℕ) (x y : ℕ) → length a ≡ length b → is_lower a b ≡ true
    → is_lower (a ++ x ∷ []) (b ++ y ∷ []) ≡ true
unfolding is_lower
lower_longer [] b x y l h = absurd (cc)
lower_longer (p ∷ a) [] x y l h = absurd (cc)
lower_longer (p ∷ a) (q ∷ b) x y l h =
    let la : length a ≡ length b = omega arith in split (nat_lt p q)
    (λ less. rw less refl)
    (λ no. split (p == q)
    (λ same. rw (no, same) (lower_longer a b x y la (rw (no, same) at h)))
    (λ other. absurd (falsehood (rw (no, other) at h))))
  where
    falsehood : false ≡ true → ⊥
    falsehood e = cc

-- of continuations of two states, those of the first state come first
pub before_longer : (a b : List ℕ) (x y : ℕ) → length a ≡ length b → comes_before a b ≡ true
    → comes_before (a ++ x ∷ []) (b ++ y ∷ []) ≡ true
before_longer a b x y l h =
    lower_before (a ++ x ∷ []) (b ++ y ∷ []) (same_longer a b x y l) (lower_longer a b x y l (before_lower a b l h))
