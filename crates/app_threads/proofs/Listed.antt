-- Lists: items by their indices, filters that agree, and prefixes.
use Rattle.std.proofs.Common.{◌≡◌, ◌⊎◌, ℕ, zero, suc, ◌+◌, ◌<◌, ◌≤◌, Bool, false, cond, Option, Some, None, List, [], ◌∷◌, ◌++◌, map, length, set, slice_get, take, drop, subst, sym, refl, ap, ◌∙◌, inl, inr, arith, append_assoc, append-nil, length-append}
use Rattle.std.specs.Prelude.{◌==◌, if◌then◌else◌, All}
use Rattle.std.specs.List.{filter, filter_map, cons_option}
use Rattle.std.proofs.lemmas.Bool.Decides.{nat_tests}
use Rattle.std.proofs.lemmas.List.Elements.{All-head, All-tail}
use Rattle.std.proofs.lemmas.List.{drop_more, take_more}
use Rattle.std.proofs.lemmas.Option.{get_or_from_slice_get, slice_get_within, slice_get-map}
use Rattle.std.specs.Option.{option_map}
use mathlib.Core.List.{IsPrefix}
use Rattle.app_threads.specs.Hired.{Each}

pub if_same : {X : Type 0} (n : ℕ) (x y : X) → (if n == n then x else y) ≡ x
if_same n x y = grind (arith, nat_tests)

pub if_other : {X : Type 0} (n m : ℕ) (x y : X) → (n ≡ m → ⊥) → (if n == m then x else y) ≡ y
if_other n m x y h = grind (arith, nat_tests)

-- two numbers are equal or not
pub same_or_other : (n m : ℕ) → (n ≡ m) ⊎ (n ≡ m → ⊥)
same_or_other zero zero = inl refl
same_or_other zero (suc m) = inr (λ e. absurd (omega arith))
same_or_other (suc n) zero = inr (λ e. absurd (omega arith))
same_or_other (suc n) (suc m) = after (same_or_other n m)
  where
    after : (n ≡ m) ⊎ (n ≡ m → ⊥) → (suc n ≡ suc m) ⊎ (suc n ≡ suc m → ⊥)
    after (inl e) = inl (ap suc e)
    after (inr f) = inr (λ e. f (omega arith))

module _ {X : Type 0} where
  abbrev or_first : X → Option X → X
  or_first x None = x
  or_first x (Some y) = y

  pub some_same : (x y : X) → Some x ≡ Some y → x ≡ y
  some_same x y e = ap (or_first x) e

  pub same_at : (xs : List X) (k : ℕ) (x y : X) → slice_get xs k ≡ Some x → slice_get xs k ≡ Some y → x ≡ y
  same_at xs k x y h i = some_same x y (sym h ∙ i)

  pub get_set_same : (xs : List X) (k : ℕ) (x y : X) → slice_get xs k ≡ Some x → slice_get (set xs k y) k ≡ Some y
  get_set_same [] k x y h = absurd cc
  get_set_same (x ∷ xs) zero z y h = refl
  get_set_same (x ∷ xs) (suc k) z y h = get_set_same xs k z y h

  pub get_set_other : (xs : List X) (j k : ℕ) (y : X) → (j ≡ k → ⊥) → slice_get (set xs k y) j ≡ slice_get xs j
  get_set_other [] j k y n = refl
  get_set_other (x ∷ xs) zero zero y n = absurd (n refl)
  get_set_other (x ∷ xs) (suc j) zero y n = refl
  get_set_other (x ∷ xs) zero (suc k) y n = refl
  get_set_other (x ∷ xs) (suc j) (suc k) y n = get_set_other xs j k y (λ e. n (ap suc e))

  pub get_append : (xs ys : List X) (i : ℕ) (x : X) → slice_get xs i ≡ Some x → slice_get (xs ++ ys) i ≡ Some x
  get_append [] ys i x h = absurd cc
  get_append (y ∷ xs) ys zero x h = h
  get_append (y ∷ xs) ys (suc i) x h = get_append xs ys i x h

  pub some_at : (xs : List X) (i : ℕ) → i < length xs → (x : X) × (slice_get xs i ≡ Some x)
  some_at [] i h = absurd (omega arith)
  some_at (x ∷ xs) zero h = (x, refl)
  some_at (x ∷ xs) (suc i) h = some_at xs i (omega arith)

  pub all_at : (P : X → Type 0) → (xs : List X) → All P xs → (i : ℕ) (x : X) → slice_get xs i ≡ Some x → P x
  all_at P [] h i x e = absurd cc
  all_at P (y ∷ xs) h zero x e = subst P (some_same y x e) (All-head P y xs h)
  all_at P (y ∷ xs) h (suc i) x e = all_at P xs (All-tail P y xs h) i x e

  pub filter_same : (f g : X → Bool) (xs : List X) → All (λ x. f x ≡ g x) xs → filter f xs ≡ filter g xs
  filter_same f g [] h = refl
  filter_same f g (x ∷ xs) h =
      let e : f x ≡ g x = All-head (λ y. f y ≡ g y) x xs h in
      let r : filter f xs ≡ filter g xs = filter_same f g xs (All-tail (λ y. f y ≡ g y) x xs h) in
      ap (λ b. cond b (x ∷ filter f xs) (filter f xs)) e ∙ ap (λ ys. cond (g x) (x ∷ ys) ys) r

  pub filter_map_same : {Y : Type 0} (f g : X → Option Y) (xs : List X) → All (λ x. f x ≡ g x) xs → filter_map f xs ≡ filter_map g xs
  filter_map_same f g [] h = refl
  filter_map_same f g (x ∷ xs) h =
      let e : f x ≡ g x = All-head (λ y. f y ≡ g y) x xs h in
      let r : filter_map f xs ≡ filter_map g xs = filter_map_same f g xs (All-tail (λ y. f y ≡ g y) x xs h) in
      ap (λ o. cons_option o (filter_map f xs)) e ∙ ap (λ ys. cons_option (g x) ys) r

  pub filter_none : (f : X → Bool) (xs : List X) → All (λ x. f x ≡ false) xs → filter f xs ≡ []
  filter_none f [] h = refl
  filter_none f (x ∷ xs) h =
      ap (λ b. cond b (x ∷ filter f xs) (filter f xs)) (All-head (λ y. f y ≡ false) x xs h) ∙ filter_none f xs (All-tail (λ y. f y ≡ false) x xs h)

  pub filter_map_none : {Y : Type 0} (f : X → Option Y) (xs : List X) → All (λ x. f x ≡ None) xs → filter_map f xs ≡ []
  filter_map_none f [] h = refl
  filter_map_none f (x ∷ xs) h =
      ap (λ o. cons_option o (filter_map f xs)) (All-head (λ y. f y ≡ None) x xs h) ∙ filter_map_none f xs (All-tail (λ y. f y ≡ None) x xs h)

  pub prefix_refl : (a : List X) → IsPrefix a a
  prefix_refl a = ([], append-nil a)

  pub prefix_trans : (a b c : List X) → IsPrefix a b → IsPrefix b c → IsPrefix a c
  prefix_trans a b c p q = (p.0 ++ q.0, sym (append_assoc a p.0 q.0) ∙ (ap (λ (z : List X). z ++ q.0) p.1 ∙ q.1))

  pub prefix_length : (a b : List X) → IsPrefix a b → length a ≤ length b
  prefix_length a b p = omega (arith, length-append a p.0, ap length p.1)

  pub take_next : (xs : List X) (i : ℕ) (x : X) → slice_get xs i ≡ Some x → take (i + 1) xs ≡ take i xs ++ x ∷ []
  take_next xs i x h = take_more xs i x (slice_get_within xs i x h) ∙ ap (λ z. take i xs ++ z ∷ []) (get_or_from_slice_get xs i x x h)

  pub drop_next : (xs : List X) (i : ℕ) (x : X) → slice_get xs i ≡ Some x → drop i xs ≡ x ∷ drop (i + 1) xs
  drop_next xs i x h = drop_more xs i x (slice_get_within xs i x h) ∙ ap (λ z. z ∷ drop (i + 1) xs) (get_or_from_slice_get xs i x x h)

  pub take_few : (xs : List X) (n : ℕ) → length (take n xs) ≤ length xs
  take_few xs zero = omega arith
  take_few [] (suc n) = omega arith
  take_few (x ∷ xs) (suc n) = let k = take_few xs n in omega arith

  -- an item of a prefix is an item of the list
  pub take_get : (xs : List X) (i n : ℕ) (x : X) → slice_get (take n xs) i ≡ Some x → slice_get xs i ≡ Some x
  take_get xs i zero x h = absurd cc
  take_get [] i (suc n) x h = absurd cc
  take_get (y ∷ xs) zero (suc n) x h = h
  take_get (y ∷ xs) (suc i) (suc n) x h = take_get xs i n x h

  pub get_map : {Y : Type 0} (f : X → Y) (xs : List X) (i : ℕ) (x : X) → slice_get xs i ≡ Some x → slice_get (map f xs) i ≡ Some (f x)
  get_map f xs i x h = slice_get-map f xs i ∙ ap (option_map f) h

-- an item of a mapped list is the image of one of the list
pub map_get : {X Y : Type 0} (f : X → Y) (xs : List X) (i : ℕ) (y : Y) → slice_get (map f xs) i ≡ Some y → (x : X) × (slice_get xs i ≡ Some x) × (y ≡ f x)
map_get f [] i y h = absurd cc
map_get f (x ∷ xs) zero y h = (x, refl, sym (some_same (f x) y h))
map_get f (x ∷ xs) (suc i) y h = map_get f xs i y h

-- ---- lists item by item

pub get_push : {X : Type 0} (xs : List X) (x y : X) (i : ℕ) → slice_get (xs ++ x ∷ []) i ≡ Some y → (slice_get xs i ≡ Some y) ⊎ ((i ≡ length xs) × (x ≡ y))
get_push [] x y zero h = inr (refl, some_same x y h)
get_push [] x y (suc i) h = absurd cc
get_push (z ∷ xs) x y zero h = inl h
get_push (z ∷ xs) x y (suc i) h = after (get_push xs x y i h)
  where
    after : (slice_get xs i ≡ Some y) ⊎ ((i ≡ length xs) × (x ≡ y)) → (slice_get xs i ≡ Some y) ⊎ ((suc i ≡ suc (length xs)) × (x ≡ y))
    after (inl k) = inl k
    after (inr k) = inr (ap suc k.0, k.1)

pub each_push : {X Y : Type 0} (R : X → Y → Type 0) (xs : List X) (ys : List Y) (x : X) (y : Y) → Each R xs ys → R x y → Each R (xs ++ x ∷ []) (ys ++ y ∷ [])
each_push {X} {Y} R xs ys x y h k = (let n = h.0 in omega (arith, length-append xs (x ∷ []), length-append ys (y ∷ [])), λ i a b p q. by_position i a b (get_push xs x a i p) (get_push ys y b i q))
  where
    by_position : (i : ℕ) (a : X) (b : Y) → (slice_get xs i ≡ Some a) ⊎ ((i ≡ length xs) × (x ≡ a)) → (slice_get ys i ≡ Some b) ⊎ ((i ≡ length ys) × (y ≡ b)) → R a b
    by_position i a b (inl p) (inl q) = h.1 i a b p q
    by_position i a b (inl p) (inr q) = absurd (let n = h.0 in let l = slice_get_within xs i a p in let m = q.0 in omega arith)
    by_position i a b (inr p) (inl q) = absurd (let n = h.0 in let l = slice_get_within ys i b q in let m = p.0 in omega arith)
    by_position i a b (inr p) (inr q) = subst (λ z. R z b) p.1 (subst (R x) q.1 k)
