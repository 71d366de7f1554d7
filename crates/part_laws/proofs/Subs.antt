use Rattle.std.proofs.Common.{◌≡◌, ℕ, true, false, Some, List, [], ◌∷◌, ◌++◌, sym, refl, ap, subst, ◌∙◌, inl, inr, bytes_eq, drop}
use Rattle.std.proofs.lemmas.Bool.{cond-true, cond-false, and_parts}
use Rattle.std.proofs.lemmas.Slice.Eq.{bytes_eq-Decides}
use Rattle.promise_defs.specs.Ideal.{after_frame}
use Rattle.promise_defs.specs.Contract.{is_front}
use Rattle.part_laws.specs.Facts.{Sub}
use Rattle.part_laws.proofs.Indices.{split}

-- Frames that are among others in the same order.

pub same_bytes : (xs ys : List ℕ) → bytes_eq xs ys ≡ true → xs ≡ ys
same_bytes xs ys h = (bytes_eq-Decides xs ys).0 h

pub bytes_same : (xs ys : List ℕ) → xs ≡ ys → bytes_eq xs ys ≡ true
bytes_same xs ys h = (bytes_eq-Decides xs ys).1 h

pub sub_none : (ys : List (List ℕ)) → Sub [] ys
sub_none [] = refl
sub_none (y ∷ ys) = inl (sub_none ys)

pub sub_all : (ys : List (List ℕ)) → Sub ys ys
sub_all [] = refl
sub_all (y ∷ ys) = inr (ys, refl, sub_all ys)

-- frames among frames that are among others
pub sub_after : (xs ys zs : List (List ℕ)) → Sub xs ys → Sub ys zs → Sub xs zs
sub_after xs ys [] h i = subst (λ l. Sub xs l) i h
sub_after xs ys (z ∷ zs) h (inl i) = inl (sub_after xs ys zs h i)
sub_after xs ys (z ∷ zs) h (inr (more, e, i)) = by_head (subst (λ l. Sub xs l) e h) (λ k. sub_after xs more zs k i) (λ l k. sub_after l more zs k i)
  where
    by_head : Sub xs (z ∷ more) → (Sub xs more → Sub xs zs) → ((l : List (List ℕ)) → Sub l more → Sub l zs) → Sub xs (z ∷ zs)
    by_head (inl k) f g = inl (f k)
    by_head (inr (l, d, k)) f g = inr (l, d, g l k)

pub sub_keep : (front xs ys : List (List ℕ)) → Sub xs ys → Sub (front ++ xs) (front ++ ys)
sub_keep [] xs ys h = h
sub_keep (x ∷ front) xs ys h = inr (front ++ xs, refl, sub_keep front xs ys h)

-- the first frame left out
pub sub_tail : (x : List ℕ) (xs ys : List (List ℕ)) → Sub (x ∷ xs) ys → Sub xs ys
sub_tail x xs ys h = sub_after xs (x ∷ xs) ys (inl (sub_all xs)) h

-- one frame left out
pub sub_mid : (front : List (List ℕ)) (x : List ℕ) (back ys : List (List ℕ)) → Sub (front ++ (x ∷ back)) ys → Sub (front ++ back) ys
sub_mid front x back ys h = sub_after (front ++ back) (front ++ (x ∷ back)) ys (sub_keep front back (x ∷ back) (inl (sub_all back))) h

sub_prefix : (xs ys : List (List ℕ)) → Sub xs (xs ++ ys)
sub_prefix [] ys = sub_none ys
sub_prefix (x ∷ xs) ys = inr (xs, refl, sub_prefix xs ys)

sub_suffix : (xs ys : List (List ℕ)) → Sub ys (xs ++ ys)
sub_suffix [] ys = sub_all ys
sub_suffix (x ∷ xs) ys = inl (sub_suffix xs ys)

-- the last part left out
pub sub_without_end : (front mid back ys : List (List ℕ)) → Sub (front ++ (mid ++ back)) ys → Sub (front ++ (mid ++ [])) ys
sub_without_end front mid back ys h =
    sub_after (front ++ (mid ++ [])) (front ++ (mid ++ back)) ys
    (sub_keep front (mid ++ []) (mid ++ back) (sub_keep mid [] back (sub_none back))) h

-- the middle part left out
pub sub_without_mid : (front mid back ys : List (List ℕ)) → Sub (front ++ (mid ++ back)) ys → Sub (front ++ back) ys
sub_without_mid front mid back ys h =
    sub_after (front ++ back) (front ++ (mid ++ back)) ys (sub_keep front back (mid ++ back) (sub_suffix mid back)) h

-- a frame that is appended
pub sub_lost : (xs ys : List (List ℕ)) (f : List ℕ) → Sub xs ys → Sub xs (ys ++ f ∷ [])
sub_lost xs ys f h = sub_after xs ys (ys ++ f ∷ []) h (sub_prefix ys (f ∷ []))

pub sub_push : (xs ys : List (List ℕ)) (f : List ℕ) → Sub xs ys → Sub (xs ++ f ∷ []) (ys ++ f ∷ [])
sub_push xs [] f h = subst (λ l. Sub (l ++ f ∷ []) (f ∷ [])) (sym h) (inr ([], refl, refl))
sub_push xs (y ∷ ys) f (inl h) = inl (sub_push xs ys f h)
sub_push xs (y ∷ ys) f (inr (more, e, h)) = inr (more ++ f ∷ [], ap (λ l. l ++ f ∷ []) e, sub_push more ys f h)

abbrev head_or : List ℕ → List (List ℕ) → List ℕ
head_or d [] = d
head_or d (x ∷ xs) = x

-- what the link loses if a frame is the first of the chain
pub record Taken (f : List ℕ) (xs ys : List (List ℕ)) : Type 0 where
  pub rest : List (List ℕ)
  pub after : after_frame f ys ≡ Some rest
  pub chain : Sub xs rest

pub sub_front : (f : List ℕ) (xs ys : List (List ℕ)) → Sub (f ∷ xs) ys → Taken f xs ys
sub_front f xs [] h = absurd cc
sub_front f xs (y ∷ ys) h = split (bytes_eq y f)
    (λ e. record { rest = ys; after = cond-true (bytes_eq y f) (Some ys) (after_frame f ys) e; chain = found h })
    (λ e. later e h (sub_front f xs ys))
  where
    found : Sub (f ∷ xs) (y ∷ ys) → Sub xs ys
    found (inl i) = sub_tail f xs ys i
    found (inr (more, e, i)) = subst (λ l. Sub l ys) (sym (ap (drop 1) e)) i

    later : bytes_eq y f ≡ false → Sub (f ∷ xs) (y ∷ ys) → (Sub (f ∷ xs) ys → Taken f xs ys) → Taken f xs (y ∷ ys)
    later e (inl i) go = record
        { rest = (go i).rest; after = cond-false (bytes_eq y f) (Some ys) (after_frame f ys) e ∙ (go i).after; chain = (go i).chain }
    later e (inr (more, d, i)) go = absurd cc (e, bytes_same y f (sym (ap (head_or f) d)))

-- the frame handed up is the first that was popped and not yet handed up
pub prefix_next : (handed rest : List (List ℕ)) (f : List ℕ) → is_front (handed ++ f ∷ []) (handed ++ rest) ≡ true
    → (more : List (List ℕ)) × (rest ≡ f ∷ more)
prefix_next [] [] f h = absurd cc
prefix_next [] (x ∷ rest) f h = (rest, ap (λ y. y ∷ rest) (sym (same_bytes f x (and_parts (bytes_eq f x) true h).0)))
prefix_next (y ∷ handed) rest f h =
    prefix_next handed rest f (and_parts (bytes_eq y y) (is_front (handed ++ f ∷ []) (handed ++ rest)) h).1
