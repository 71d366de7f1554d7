-- What changes if the calls of one block change.
use Rattle.std.proofs.Common.{◌≡◌, ℕ, zero, suc, ◌==◌, ◌<◌, ◌≤◌, ◌+◌, ◌&&◌, nat_le, nat_lt, Bool, true, false, cond, Some, List, [], ◌∷◌, length, get_or, refl, sym, ap, ◌∙◌, inl, inr, arith, if◌then◌else◌}
use Rattle.std.specs.Prelude.{Vec, slice_get, slice_set}
use Rattle.std.proofs.lemmas.Bool.{cases_eq, cases_lt, eq-eqb, ne_eqb, le-leb, lt-ltb, le-ltb}
use Rattle.std.proofs.lemmas.Option.{slice_get_past, slice_get_read}
use Rattle.claim_index.specs.Indexed.{is_within, numbers_in}

and_true : (b : Bool) → (b && true) ≡ b
and_true true = refl
and_true false = refl

and_false : (b : Bool) → (b && false) ≡ false
and_false true = refl
and_false false = refl

get_set_here : {X : Type 0} (xs : List X) (i : ℕ) (x : X) → i < length xs → slice_get (slice_set xs i x) i ≡ Some x
get_set_here [] i x less = absurd (omega (arith, less))
get_set_here (y ∷ xs) zero x less = refl
get_set_here (y ∷ xs) (suc i) x less = get_set_here xs i x (omega (arith, less))

get_set_other : {X : Type 0} (xs : List X) (i q : ℕ) (x : X) → (q ≡ i → ⊥) → slice_get (slice_set xs i x) q ≡ slice_get xs q
get_set_other [] i q x d = refl
get_set_other (y ∷ xs) zero zero x d = absurd (d refl)
get_set_other (y ∷ xs) zero (suc q) x d = refl
get_set_other (y ∷ xs) (suc i) zero x d = refl
get_set_other (y ∷ xs) (suc i) (suc q) x d = get_set_other xs i q x (λ e. d (ap suc e))

-- the lists of a table after one of them changes
pub set_at : {A : Type 0} (vs : List (Vec ℕ A)) (block : ℕ) (v w : Vec ℕ A) (f : List ℕ → List ℕ) → block < length vs
    → v ≡ get_or vs block v → w.items ≡ f v.items
    → (q : ℕ) → numbers_in (slice_get (slice_set vs block w) q) ≡ (if q == block then f (numbers_in (slice_get vs q)) else numbers_in (slice_get vs q))
set_at vs block v w f less is e q = elim (cases_eq q block) [
  | inl s ↦
      let was : slice_get vs block ≡ Some v = slice_get_read vs (length vs) block v refl less is in
      rw (s, get_set_here vs block w less, was, eq-eqb block block refl) e
  | inr d ↦ rw (get_set_other vs block q w d, ne_eqb q block d) refl
]

pub past_at : {A : Type 0} (vs : List (Vec ℕ A)) (block : ℕ) (f : List ℕ → List ℕ) → length vs ≤ block → [] ≡ f []
    → (q : ℕ) → numbers_in (slice_get vs q) ≡ (if q == block then f (numbers_in (slice_get vs q)) else numbers_in (slice_get vs q))
past_at vs block f past e q = elim (cases_eq q block) [
  | inl s ↦ rw (s, slice_get_past vs block past, eq-eqb block block refl) e
  | inr d ↦ rw (ne_eqb q block d) refl
]

-- the blocks of a range that come before one

pub within_more : (f : List ℕ → List ℕ) (first end i q : ℕ) (w y z : List ℕ) → first ≤ i → i < end
    → y ≡ (if is_within first end q && nat_lt q i then f z else z) → w ≡ (if q == i then f y else y)
    → w ≡ (if is_within first end q && nat_lt q (i + 1) then f z else z)
within_more f first end i q w y z l m ey ew = elim (cases_eq q i) [
  | inl s ↦
      let t : is_within first end i ≡ true = rw (le-leb first i l, lt-ltb i end m) refl in
      let n : nat_lt i i ≡ false = le-ltb i i (omega arith) in
      let p : nat_lt i (i + 1) ≡ true = lt-ltb i (i + 1) (omega arith) in
      let a : y ≡ (if is_within first end i && nat_lt i i then f z else z) = rw s at ey in
      let b : w ≡ (if i == i then f y else y) = rw s at ew in
      let same : y ≡ z = a ∙ rw (t, n) refl in
      let new : w ≡ f y = b ∙ rw (eq-eqb i i refl) refl in
      rw (s, t, p) (new ∙ ap f same)
  | inr d ↦
      let new : w ≡ y = ew ∙ rw (ne_eqb q i d) refl in
      let k : nat_lt q (i + 1) ≡ nat_lt q i = elim (cases_lt q i) [
        | inl u ↦ rw (lt-ltb q i u, lt-ltb q (i + 1) (omega (arith, u))) refl
        | inr u ↦ rw (le-ltb q i u, le-ltb q (i + 1) (omega (arith, u, d))) refl
      ] in
      rw k (new ∙ ey)
]

pub within_all : (f : List ℕ → List ℕ) (first end i q : ℕ) (w z : List ℕ) → end ≤ i
    → w ≡ (if is_within first end q && nat_lt q i then f z else z) → w ≡ (if is_within first end q then f z else z)
within_all f first end i q w z l e = elim (cases_lt q end) [
  | inl u ↦ let p : nat_lt q i ≡ true = lt-ltb q i (omega (arith, l, u)) in e ∙ ap (λ b. if b then f z else z) (rw p (and_true (is_within first end q)))
  | inr u ↦
      let n : is_within first end q ≡ false = rw (le-ltb q end u) (and_false (nat_le first q)) in
      e ∙ rw n refl
]
