use Rattle.std.proofs.Common.{◌≡◌, ℕ, List, [], ◌∷◌, refl}
use Rattle.std.specs.List.{AllZip}

-- lists that are equal word for word are the same list
pub same_words : (xs ys : List ℕ) → AllZip (λ x y. y ≡ x) xs ys → ys ≡ xs
same_words [] [] h = refl
same_words [] (y ∷ ys) h = absurd h
same_words (x ∷ xs) [] h = absurd h
same_words (x ∷ xs) (y ∷ ys) h = let more = same_words xs ys h.1 in let first = h.0 in cc
