use Rattle.std.proofs.Common.{◌≡◌, ◌⊎◌, ℕ, zero, suc, Bool, true, false, Option, Some, None, List, [], ◌∷◌, ◌++◌, map, length, set, slice_get, sym, refl, ap, ◌∙◌, inl, inr, arith}
use Rattle.nook_data.specs.Numbered.{change_number}
use Rattle.part_laws.specs.Facts.{At}

-- Lists in which each item keeps its index.

-- a proof by the two values of a test
pub split : {G : Type 0} (b : Bool) → (b ≡ true → G) → (b ≡ false → G) → G
split true f g = f refl
split false f g = g refl

abbrev or_first : {X : Type 0} → X → Option X → X
or_first x None = x
or_first x (Some y) = y

pub some_same : {X : Type 0} (x y : X) → Some x ≡ Some y → x ≡ y
some_same x y e = ap (or_first x) e

-- two items at one index are equal
pub same_at : {X : Type 0} (xs : List X) (k : ℕ) (x y : X) → At xs k x → At xs k y → x ≡ y
same_at xs k x y h i = some_same x y (sym h ∙ i)

pub get_set_same : {X : Type 0} (xs : List X) (k : ℕ) (x y : X) → At xs k x → At (set xs k y) k y
get_set_same [] k x y h = absurd cc
get_set_same (x ∷ xs) zero z y h = refl
get_set_same (x ∷ xs) (suc k) z y h = get_set_same xs k z y h

pub get_set_other : {X : Type 0} (xs : List X) (j k : ℕ) (y : X) → (j ≡ k → ⊥) → slice_get (set xs k y) j ≡ slice_get xs j
get_set_other [] j k y n = refl
get_set_other (x ∷ xs) zero zero y n = absurd (n refl)
get_set_other (x ∷ xs) (suc j) zero y n = refl
get_set_other (x ∷ xs) zero (suc k) y n = refl
get_set_other (x ∷ xs) (suc j) (suc k) y n = get_set_other xs j k y (λ e. n (ap suc e))

-- an item of a changed list is the new one at its index, or was there before
pub get_set : {X : Type 0} (xs : List X) (j k : ℕ) (y z : X) → At (set xs k y) j z
    → ((j ≡ k) × (z ≡ y)) ⊎ ((j ≡ k → ⊥) × At xs j z)
get_set [] j k y z h = absurd cc
get_set (x ∷ xs) zero zero y z h = inl (refl, sym (some_same y z h))
get_set (x ∷ xs) (suc j) zero y z h = inr (omega arith, h)
get_set (x ∷ xs) zero (suc k) y z h = inr (omega arith, h)
get_set (x ∷ xs) (suc j) (suc k) y z h = further (get_set xs j k y z h)
  where
    further : ((j ≡ k) × (z ≡ y)) ⊎ ((j ≡ k → ⊥) × At xs j z)
        → ((suc j ≡ suc k) × (z ≡ y)) ⊎ ((suc j ≡ suc k → ⊥) × At xs j z)
    further (inl e) = inl (ap suc e.0, e.1)
    further (inr n) = inr ((λ e. n.0 (omega arith)), n.1)

pub get_push : {X : Type 0} (xs : List X) (j : ℕ) (y z : X) → At (xs ++ y ∷ []) j z → At xs j z ⊎ ((j ≡ length xs) × (z ≡ y))
get_push [] zero y z h = inr (refl, sym (some_same y z h))
get_push [] (suc j) y z h = absurd cc
get_push (x ∷ xs) zero y z h = inl h
get_push (x ∷ xs) (suc j) y z h = further (get_push xs j y z h)
  where
    further : At xs j z ⊎ ((j ≡ length xs) × (z ≡ y)) → At xs j z ⊎ ((suc j ≡ suc (length xs)) × (z ≡ y))
    further (inl e) = inl e
    further (inr e) = inr (ap suc e.0, e.1)

pub get_keep : {X : Type 0} (xs ys : List X) (j : ℕ) (z : X) → At xs j z → At (xs ++ ys) j z
get_keep [] ys j z h = absurd cc
get_keep (x ∷ xs) ys zero z h = h
get_keep (x ∷ xs) ys (suc j) z h = get_keep xs ys j z h

pub get_mid : {X : Type 0} (xs ys : List X) (y : X) → At (xs ++ y ∷ ys) (length xs) y
get_mid [] ys y = refl
get_mid (x ∷ xs) ys y = get_mid xs ys y

pub set_mid : {X : Type 0} (xs ys : List X) (y z : X) → set (xs ++ y ∷ ys) (length xs) z ≡ xs ++ z ∷ ys
set_mid [] ys y z = refl
set_mid (x ∷ xs) ys y z = ap (λ l. x ∷ l) (set_mid xs ys y z)

pub get_map : {X Y : Type 0} (f : X → Y) (xs : List X) (k : ℕ) (x : X) → At xs k x → At (map f xs) k (f x)
get_map f [] k x h = absurd cc
get_map f (y ∷ xs) zero x h = ap (λ z. Some (f z)) (some_same y x h)
get_map f (y ∷ xs) (suc k) x h = get_map f xs k x h

pub from_map : {X Y : Type 0} (f : X → Y) (xs : List X) (k : ℕ) (y : Y) → At (map f xs) k y → (x : X) × At xs k x × (y ≡ f x)
from_map f [] k y h = absurd cc
from_map f (x ∷ xs) zero y h = (x, refl, sym (some_same (f x) y h))
from_map f (x ∷ xs) (suc k) y h = from_map f xs k y h

pub map_join : {X Y Z : Type 0} (f : Y → Z) (g : X → Y) (h : X → Z) → ((x : X) → f (g x) ≡ h x)
    → (xs : List X) → map f (map g xs) ≡ map h xs
map_join f g h e [] = refl
map_join f g h e (x ∷ xs) = ap (λ y. y ∷ map f (map g xs)) (e x) ∙ ap (λ l. h x ∷ l) (map_join f g h e xs)

pub map_swap : {X Y Z W : Type 0} (f : Y → Z) (g : X → Y) (f' : W → Z) (g' : X → W) → ((x : X) → f (g x) ≡ f' (g' x))
    → (xs : List X) → map f (map g xs) ≡ map f' (map g' xs)
map_swap f g f' g' e [] = refl
map_swap f g f' g' e (x ∷ xs) = ap (λ y. y ∷ map f (map g xs)) (e x) ∙ ap (λ l. f' (g' x) ∷ l) (map_swap f g f' g' e xs)

pub map_push : {X Y : Type 0} (f : X → Y) (xs : List X) (x : X) → map f (xs ++ x ∷ []) ≡ map f xs ++ f x ∷ []
map_push f [] x = refl
map_push f (y ∷ xs) x = ap (λ l. f y ∷ l) (map_push f xs x)

pub map_set : {X Y : Type 0} (f : X → Y) (xs : List X) (k : ℕ) (x : X) → map f (set xs k x) ≡ set (map f xs) k (f x)
map_set f [] k x = refl
map_set f (y ∷ xs) zero x = refl
map_set f (y ∷ xs) (suc k) x = ap (λ l. f y ∷ l) (map_set f xs k x)

pub set_get : {X : Type 0} (xs : List X) (k : ℕ) (x : X) → At xs k x → set xs k x ≡ xs
set_get [] k x h = refl
set_get (y ∷ xs) zero x h = ap (λ z. z ∷ xs) (sym (some_same y x h))
set_get (y ∷ xs) (suc k) x h = ap (λ l. y ∷ l) (set_get xs k x h)

pub length_map : {X Y : Type 0} (f : X → Y) (xs : List X) → length (map f xs) ≡ length xs
length_map f [] = refl
length_map f (x ∷ xs) = ap suc (length_map f xs)

-- the list, with a change of the item that was found by number
abbrev pub change_found : {X : Type 0} → (X → X) → ℕ → List X → Option X → List X
change_found f zero xs o = xs
change_found f (suc index) xs None = xs
change_found f (suc index) xs (Some x) = set xs index (f x)

-- a number's item is changed at its index
pub change_at : {X : Type 0} (f : X → X) (k : ℕ) (xs : List X) (x : X) → At xs k x → change_number f (suc k) xs ≡ set xs k (f x)
change_at f k xs x h = ap (change_found f (suc k) xs) h

-- a change of a number's item, seen through a map
pub change_map : {X Y : Type 0} (g : X → Y) (f : X → X) (f' : Y → Y) → ((x : X) → g (f x) ≡ f' (g x))
    → (n : ℕ) (xs : List X) → map g (change_number f n xs) ≡ change_number f' n (map g xs)
change_map g f f' e zero xs = refl
change_map g f f' e (suc k) xs = by_item (slice_get xs k) refl
  where
    by_item : (o : Option _) → slice_get xs k ≡ o → map g (change_number f (suc k) xs) ≡ change_number f' (suc k) (map g xs)
    by_item None h = ap (λ o. map g (change_found f (suc k) xs o)) h ∙ sym (ap (change_found f' (suc k) (map g xs)) (none_map g xs k h))
      where
        none_map : {X Y : Type 0} (g : X → Y) (xs : List X) (k : ℕ) → slice_get xs k ≡ None → slice_get (map g xs) k ≡ None
        none_map g [] k h = refl
        none_map g (x ∷ xs) zero h = absurd cc
        none_map g (x ∷ xs) (suc k) h = none_map g xs k h
    by_item (Some x) h =
        ap (map g) (change_at f k xs x h) ∙ map_set g xs k (f x) ∙ ap (set (map g xs) k) (e x)
        ∙ sym (change_at f' k (map g xs) (g x) (get_map g xs k x h))

-- a change that a map does not see
pub change_unseen : {X Y : Type 0} (g : X → Y) (f : X → X) → ((x : X) → g (f x) ≡ g x)
    → (n : ℕ) (xs : List X) → map g (change_number f n xs) ≡ map g xs
change_unseen g f e zero xs = refl
change_unseen g f e (suc k) xs = by_item (slice_get xs k) refl
  where
    by_item : (o : Option _) → slice_get xs k ≡ o → map g (change_number f (suc k) xs) ≡ map g xs
    by_item None h = ap (λ o. map g (change_found f (suc k) xs o)) h
    by_item (Some x) h =
        ap (map g) (change_at f k xs x h) ∙ map_set g xs k (f x) ∙ ap (set (map g xs) k) (e x)
        ∙ set_get (map g xs) k (g x) (get_map g xs k x h)
