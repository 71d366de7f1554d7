-- Prefixes of lists, and the longer of two lists.
use Rattle.std.proofs.Common.{◌≡◌, ℕ, ◌≤◌, ◌<◌, Bool, true, false, cond, nat_lt, List, [], ◌∷◌, ◌++◌, length, sym, refl, ap, ◌∙◌, append_assoc, append-nil, length-append, arith}
use Rattle.std.proofs.lemmas.Bool.Decides.{nat_tests}
use mathlib.Core.List.{IsPrefix}
use Rattle.turn_lock.specs.Views.{longer, shorter}

less : (m n : ℕ) → nat_lt m n ≡ true → m < n
less m n e = grind (arith, nat_tests)

not_less : (m n : ℕ) → nat_lt m n ≡ false → n ≤ m
not_less m n e = grind (arith, nat_tests)

module _ {E : Type 0} where
  pub prefix_refl : (a : List E) → IsPrefix a a
  prefix_refl a = ([], append-nil a)

  pub prefix_nil : (a : List E) → IsPrefix [] a
  prefix_nil a = (a, refl)

  pub prefix_trans : (a b c : List E) → IsPrefix a b → IsPrefix b c → IsPrefix a c
  prefix_trans a b c p q = (p.0 ++ q.0, sym (append_assoc a p.0 q.0) ∙ (ap (λ (z : List E). z ++ q.0) p.1 ∙ q.1))

  pub prefix_snoc : (a b : List E) (x : E) → b ≡ a ++ x ∷ [] → IsPrefix a b
  prefix_snoc a b x e = (x ∷ [], sym e)

  pub prefix_length : (a b : List E) → IsPrefix a b → length a ≤ length b
  prefix_length a b p = omega (arith, length-append a p.0, ap length p.1)

  -- of two prefixes of one list, the shorter is a prefix of the longer
  pub prefix_among : (a b all : List E) → IsPrefix a all → IsPrefix b all → length a ≤ length b → IsPrefix a b
  prefix_among [] b all p q h = prefix_nil b
  prefix_among (x ∷ xs) [] all p q h = absurd (omega arith)
  prefix_among (x ∷ xs) (y ∷ ys) [] p q h = let e : x ∷ (xs ++ p.0) ≡ [] = p.1 in absurd (cc)
  prefix_among (x ∷ xs) (y ∷ ys) (z ∷ zs) p q h =
      let e : x ∷ (xs ++ p.0) ≡ z ∷ zs = p.1 in
      let f : y ∷ (ys ++ q.0) ≡ z ∷ zs = q.1 in
      let r = prefix_among xs ys zs (p.0, cc) (q.0, cc) (omega arith) in
      let g : xs ++ r.0 ≡ ys = r.1 in
      (r.0, cc)

  chosen : (P : List E → List E → Type 0) (a b : List E) (t : Bool) → (t ≡ true → P b a) → (t ≡ false → P a b) → P (cond t b a) (cond t a b)
  chosen P a b true f g = f refl
  chosen P a b false f g = g refl

  pub by_length : (P : List E → List E → Type 0) (a b : List E) → (length a < length b → P b a) → (length b ≤ length a → P a b) → P (longer a b) (shorter a b)
  by_length P a b f g = chosen P a b (nat_lt (length a) (length b)) (λ e. f (less (length a) (length b) e)) (λ e. g (not_less (length a) (length b) e))

  pub longer_begins : (a b all : List E) → IsPrefix a all → IsPrefix b all → IsPrefix (longer a b) all
  longer_begins a b all p q = by_length (λ l s. IsPrefix l all) a b (λ _. q) (λ _. p)

  pub shorter_begins : (a b all : List E) → IsPrefix a all → IsPrefix b all → IsPrefix (shorter a b) (longer a b)
  shorter_begins a b all p q = by_length (λ l s. IsPrefix s l) a b (λ h. prefix_among a b all p q (omega arith)) (λ h. prefix_among b a all q p h)

  pub longer_long : (a b : List E) → (length a ≤ length (longer a b)) × (length b ≤ length (longer a b))
  longer_long a b = by_length (λ l s. (length a ≤ length l) × (length b ≤ length l)) a b (λ h. (omega arith, omega arith)) (λ h. (omega arith, omega arith))

  -- if the shorter list is a prefix of the longer, both lists are
  pub both_begin : (a b : List E) → IsPrefix (shorter a b) (longer a b) → IsPrefix a (longer a b) × IsPrefix b (longer a b)
  both_begin a b = by_length (λ l s. IsPrefix s l → IsPrefix a l × IsPrefix b l) a b (λ _ p. (p, prefix_refl b)) (λ _ p. (prefix_refl a, p))
