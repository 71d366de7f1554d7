-- A list of faults sorted by `after` is the one that the definition gives.
use Rattle.std.proofs.Common.{◌≡◌, ℕ, suc, ◌≤◌, ◌<◌, ◌==◌, Bool, true, false, cond, nat_le, not, ◌&&◌, List, [], ◌∷◌, filter, length, slice_index_or, refl, sym, ap, ◌∙◌, inl, inr, arith}
use Rattle.std.specs.List.Sorted.{IsNonDecreasingBy}
use Rattle.std.proofs.lemmas.Bool.{cases_Bool, cases_order, eq-eqb, ne_eqb, leb-true, leb-false, le-leb}
use Rattle.std.proofs.lemmas.Bool.Decides.{nat_tests}
use Rattle.nook_data.specs.declared.scenario.Fault.{Fault}
use Rattle.std.proofs.lemmas.List.Elements.{filter_agree}
use Rattle.std.proofs.lemmas.List.Kept.{IsNonDecreasingBy-filter}
use Rattle.std.specs.List.Sorted.{IsStableByKey, ties}
use Rattle.std.specs.Ordering.{is_lt, nat_cmp}
use Rattle.nook_data.specs.declared.scenario.FaultKind.TheVariants as kind
use Rattle.machine_defs.specs.BurstFaults.{insert_fault, in_order, is_of_burst, faults_of_burst}
use Rattle.fault_script.specs.Order.{IsOrdered}

-- the fault strikes after this many instructions
abbrev pub is_at : ℕ → Fault → Bool
is_at point f = f.after == point

-- no fault strikes after fewer instructions
abbrev pub IsFrom : ℕ → List Fault → Type 0
IsFrom point [] = Unit {0}
IsFrom point (f ∷ faults) = (point ≤ f.after) × IsFrom point faults

-- the values of `after` do not fall
abbrev pub Rises : List Fault → Type 0
Rises [] = Unit {0}
Rises (f ∷ faults) = IsFrom f.after faults × Rises faults

from_all : (point : ℕ) (faults : List Fault) → ((k : ℕ) (d : Fault) → k < length faults → point ≤ (slice_index_or faults k d).after) → IsFrom point faults
from_all point [] h = tt
from_all point (f ∷ faults) h = (h 0 f (omega arith), from_all point faults (λ k d l. h (suc k) d (omega arith)))

pub rises_from : (faults : List Fault) → IsNonDecreasingBy (λ f. f.after) faults → Rises faults
rises_from [] h = tt
rises_from (f ∷ faults) h =
    (from_all f.after faults (λ k d l. h 0 (suc k) d (omega arith) (omega arith)), rises_from faults (λ i j d l m. h (suc i) (suc j) d (omega arith) (omega arith)))

lower : (low high : ℕ) (faults : List Fault) → low ≤ high → IsFrom high faults → IsFrom low faults
lower low high [] l h = tt
lower low high (f ∷ faults) l h = (omega (arith, h.0), lower low high faults l h.1)

-- a choice by a test of two numbers
by_le : {A : Type 0} (P : A → Type 0) (m n : ℕ) (x y : A) → (m ≤ n → P x) → (n < m → P y) → P (cond (nat_le m n) x y)
by_le P m n x y f g = elim (cases_Bool (nat_le m n)) [
  | inl e ↦ rw e (f (leb-true m n e))
  | inr e ↦ rw e (g (leb-false m n e))
]

kept_from : (point : ℕ) (f : Fault) (faults : List Fault) → point ≤ f.after → IsFrom point faults → IsFrom point (insert_fault f faults)
kept_from point f [] l h = (l, tt)
kept_from point f (g ∷ faults) l h =
    by_le (IsFrom point) f.after g.after _ _ (λ _. (l, h)) (λ _. (h.0, kept_from point f faults l h.1))

with_rises : (f : Fault) (faults : List Fault) → Rises faults → Rises (insert_fault f faults)
with_rises f [] h = (tt, tt)
with_rises f (g ∷ faults) h =
    by_le Rises f.after g.after _ _
    (λ l. ((l, lower f.after g.after faults l h.0), h))
    (λ l. (kept_from g.after f faults (omega (arith, l)) h.0, with_rises f faults h.1))

order_rises : (faults : List Fault) → Rises (in_order faults)
order_rises [] = tt
order_rises (f ∷ faults) = with_rises f (in_order faults) (order_rises faults)

with_first : (f : Fault) (faults : List Fault) → IsFrom f.after faults → insert_fault f faults ≡ f ∷ faults
with_first f [] h = refl
with_first f (g ∷ faults) h = rw (le-leb f.after g.after h.0) refl

-- what is in order stays unchanged
pub order_same : (faults : List Fault) → Rises faults → in_order faults ≡ faults
order_same [] h = refl
order_same (f ∷ faults) h = rw (order_same faults h.1) (with_first f faults h.0)

two_tests : {A : Type 0} (a b : Bool) (x y : A) (rest : List A) → (a ≡ true → b ≡ true → ⊥)
    → cond b (y ∷ cond a (x ∷ rest) rest) (cond a (x ∷ rest) rest) ≡ cond a (x ∷ cond b (y ∷ rest) rest) (cond b (y ∷ rest) rest)
two_tests true true x y rest h = absurd (h refl refl)
two_tests true false x y rest h = refl
two_tests false true x y rest h = refl
two_tests false false x y rest h = refl

not_both : (point m n : ℕ) → n < m → (m == point) ≡ true → (n == point) ≡ true → ⊥
not_both point m n l e f = grind (arith, nat_tests)

-- sorting keeps the order of faults with the same `after`
with_ties : (point : ℕ) (f : Fault) (faults : List Fault) → filter (is_at point) (insert_fault f faults) ≡ filter (is_at point) (f ∷ faults)
with_ties point f [] = refl
with_ties point f (g ∷ faults) =
    by_le (λ z. filter (is_at point) z ≡ filter (is_at point) (f ∷ g ∷ faults)) f.after g.after _ _ (λ _. refl)
    (λ l. rw (with_ties point f faults)
    (two_tests (is_at point f) (is_at point g) f g (filter (is_at point) faults) (not_both point f.after g.after l)))

order_ties : (point : ℕ) (faults : List Fault) → filter (is_at point) (in_order faults) ≡ filter (is_at point) faults
order_ties point [] = refl
order_ties point (f ∷ faults) =
    with_ties point f (in_order faults) ∙ ap (λ rest. cond (is_at point f) (f ∷ rest) rest) (order_ties point faults)

-- two sorted lists with the same faults for each `after` are the same

no_more : (f : Fault) (faults more : List Fault) → more ≡ f ∷ faults → more ≡ [] → ⊥
no_more f faults more e h = let k : f ∷ faults ≡ [] = sym e ∙ h in absurd (cc)

none_at : (point high : ℕ) (faults : List Fault) → point < high → IsFrom high faults → filter (is_at point) faults ≡ []
none_at point high [] l h = refl
none_at point high (f ∷ faults) l h =
    rw (ne_eqb f.after point (λ e. omega (arith, e, l, h.0))) (none_at point high faults l h.1)

first_at : (point : ℕ) (f : Fault) (faults : List Fault) → f.after ≡ point → filter (is_at point) (f ∷ faults) ≡ f ∷ filter (is_at point) faults
first_at point f faults e = rw (eq-eqb f.after point e) refl

same_number : (f g : Fault) (a b : List Fault) → IsFrom f.after a → IsFrom g.after b
    → ((point : ℕ) → filter (is_at point) (f ∷ a) ≡ filter (is_at point) (g ∷ b)) → f.after ≡ g.after
same_number f g a b r s h = elim (cases_order f.after g.after) [
  | inl e ↦ e
  | inr (inl l) ↦ absurd (no_more f (filter (is_at f.after) a) (filter (is_at f.after) (g ∷ b))
      (sym (h f.after) ∙ first_at f.after f a refl) (none_at f.after g.after (g ∷ b) l (omega arith, s)))
  | inr (inr l) ↦ absurd (no_more g (filter (is_at g.after) b) (filter (is_at g.after) (f ∷ a))
      (h g.after ∙ first_at g.after g b refl) (none_at g.after f.after (f ∷ a) l (omega arith, r)))
]

cancel : (t : Bool) (f : Fault) (x y : List Fault) → cond t (f ∷ x) x ≡ cond t (f ∷ y) y → x ≡ y
cancel true f x y h = let e : f ∷ x ≡ f ∷ y = h in cc
cancel false f x y h = h

heads : (f g : Fault) (x y : List Fault) → f ∷ x ≡ g ∷ y → f ≡ g
heads f g x y h = cc

joined : (f g : Fault) (x y : List Fault) → f ≡ g → x ≡ y → f ∷ x ≡ g ∷ y
joined f g x y e h = cc

unique : (a b : List Fault) → Rises a → Rises b → ((point : ℕ) → filter (is_at point) a ≡ filter (is_at point) b) → a ≡ b
unique [] [] r s h = refl
unique [] (g ∷ b) r s h = absurd (no_more g (filter (is_at g.after) b) [] (h g.after ∙ first_at g.after g b refl) refl)
unique (f ∷ a) [] r s h = absurd (no_more f (filter (is_at f.after) a) [] (sym (h f.after) ∙ first_at f.after f a refl) refl)
unique (f ∷ a) (g ∷ b) r s h =
    let p = same_number f g a b r.0 s.0 h in
    let e = heads f g (filter (is_at f.after) a) (filter (is_at f.after) b) (sym (first_at f.after f a refl) ∙ (h f.after ∙ first_at f.after g b (sym p))) in
    joined f g a b e (unique a b r.1 s.1 (λ point. cancel (is_at point f) f (filter (is_at point) a) (filter (is_at point) b)
    (h point ∙ sym (ap (λ z. cond (is_at point z) (z ∷ filter (is_at point) b) (filter (is_at point) b)) e))))

-- a stable sort keeps the faults with one key

tie_same : (n : ℕ) → (not (is_lt (nat_cmp n n)) && not (is_lt (nat_cmp n n))) ≡ (n == n)
tie_same n = grind (arith, nat_tests)

tie_below : (m n : ℕ) → m < n → (not (is_lt (nat_cmp m n)) && not (is_lt (nat_cmp n m))) ≡ (n == m)
tie_below m n l = grind (arith, nat_tests)

tie_above : (m n : ℕ) → n < m → (not (is_lt (nat_cmp m n)) && not (is_lt (nat_cmp n m))) ≡ (n == m)
tie_above m n l = grind (arith, nat_tests)

tie_is : (m n : ℕ) → (not (is_lt (nat_cmp m n)) && not (is_lt (nat_cmp n m))) ≡ (n == m)
tie_is m n = elim (cases_order m n) [
  | inl e ↦ rw e (tie_same n)
  | inr (inl l) ↦ tie_below m n l
  | inr (inr l) ↦ tie_above m n l
]

kept_ties : (key : Fault → ℕ) (xs ys : List Fault) (x : Fault) → IsStableByKey key nat_cmp xs ys
    → filter (λ f. key f == key x) ys ≡ filter (λ f. key f == key x) xs
kept_ties key xs ys x h =
    let same : (f : Fault) → ties (λ a b. is_lt (nat_cmp (key a) (key b))) x f ≡ (key f == key x) = λ f. tie_is (key x) (key f) in
    sym (filter_agree _ _ same ys) ∙ (h x ∙ filter_agree _ _ same xs)

swap_both : (p q : Fault → Bool) (f : Fault) (a b : Bool) (x y : List Fault) → p f ≡ a → q f ≡ b → filter p x ≡ filter q y
    → filter p (cond b (f ∷ x) x) ≡ filter q (cond a (f ∷ y) y)
swap_both p q f true true x y e g h = rw (e, g) (ap (λ z. f ∷ z) h)
swap_both p q f true false x y e g h = rw g h
swap_both p q f false true x y e g h = rw e h
swap_both p q f false false x y e g h = h

filter_swap : (p q : Fault → Bool) (xs : List Fault) → filter p (filter q xs) ≡ filter q (filter p xs)
filter_swap p q [] = refl
filter_swap p q (f ∷ xs) = swap_both p q f (p f) (q f) (filter q xs) (filter p xs) refl refl (filter_swap p q xs)

-- some fault with this burst and this `after`
abbrev some_fault : ℕ → ℕ → Fault
some_fault burst point = record { burst = burst; after = point; kind = kind.Trap }

-- a list sorted by `after` has the faults that pass a test in the order of the definition
sorted_by_position : (p : Fault → Bool) (xs zs : List Fault) → IsNonDecreasingBy (λ f. f.after) zs → IsStableByKey (λ f. f.after) nat_cmp xs zs
    → in_order (filter p xs) ≡ filter p zs
sorted_by_position p xs zs r h =
    unique (in_order (filter p xs)) (filter p zs) (order_rises (filter p xs)) (rises_from (filter p zs) (IsNonDecreasingBy-filter (λ f. f.after) p zs r))
    (λ point. order_ties point (filter p xs) ∙ (filter_swap (is_at point) p xs
    ∙ (ap (λ z. filter p z) (sym (kept_ties (λ f. f.after) xs zs (some_fault 0 point) h)) ∙ filter_swap p (is_at point) zs)))

-- two stable sorts, by `after` and then by burst
pub record Sorted (xs ys : List Fault) : Type 0 where
  pub ordered : IsOrdered ys
  pub same : (burst : ℕ) → in_order (filter (is_of_burst burst) ys) ≡ in_order (filter (is_of_burst burst) xs)

pub sorted_twice : (xs zs ys : List Fault)
    → IsNonDecreasingBy (λ f. f.after) zs → IsStableByKey (λ f. f.after) nat_cmp xs zs
    → IsNonDecreasingBy (λ f. f.burst) ys → IsStableByKey (λ f. f.burst) nat_cmp zs ys
    → Sorted xs ys
sorted_twice xs zs ys r h s k =
    let of : (burst : ℕ) → filter (is_of_burst burst) ys ≡ filter (is_of_burst burst) zs =
    λ burst. kept_ties (λ f. f.burst) zs ys (some_fault burst 0) k in
    let rises : (burst : ℕ) → IsNonDecreasingBy (λ f. f.after) (filter (is_of_burst burst) ys) =
    λ burst. rw (of burst) (IsNonDecreasingBy-filter (λ f. f.after) (is_of_burst burst) zs r) in
    record {
      ordered = record { bursts = s; points = rises };
      same = λ burst. order_same (filter (is_of_burst burst) ys) (rises_from _ (rises burst))
          ∙ (of burst ∙ sym (sorted_by_position (is_of_burst burst) xs zs r h));
    }

pub same_faults : (xs ys : List Fault) → Sorted xs ys → (burst : ℕ) → faults_of_burst burst ys ≡ faults_of_burst burst xs
unfolding faults_of_burst
same_faults xs ys h burst = h.same burst

-- in an ordered list the faults of a burst are already in the order in which they strike
pub as_they_are : (faults : List Fault) → IsOrdered faults → (burst : ℕ) → faults_of_burst burst faults ≡ filter (is_of_burst burst) faults
unfolding faults_of_burst
as_they_are faults h burst = order_same (filter (is_of_burst burst) faults) (rises_from _ (h.points burst))
