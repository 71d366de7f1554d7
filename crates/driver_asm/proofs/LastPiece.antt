-- The last piece of a text.
use Rattle.std.proofs.Common.{◌≡◌, ℕ, true, false, List, [], ◌∷◌, ◌++◌, map, length, refl, ap, ◌==◌, append-nil}
use Rattle.std.specs.Prelude.{filter}
use Rattle.std.specs.Borrow.{Bor}
use Rattle.std.proofs.lemmas.List.{map-append}
use Rattle.asm_defs.specs.AsmTokens.{is_not_empty, without_empty_last}

last_of : (front : List (List ℕ)) (last : List ℕ) → without_empty_last (front ++ last ∷ []) ≡ front ++ filter is_not_empty (last ∷ [])
last_of [] last = refl
last_of (x ∷ []) last = refl
last_of (x ∷ y ∷ more) last = ap (x ∷◌) (last_of (y ∷ more) last)

abbrev bytes_of : List (Bor (List ℕ)) → List (List ℕ)
bytes_of pieces = map (λ piece. piece.now) pieces

parts : (old front : List (Bor (List ℕ))) (last : Bor (List ℕ)) → old ≡ front ++ last ∷ []
    → without_empty_last (bytes_of old) ≡ bytes_of front ++ filter is_not_empty (last.now ∷ [])
parts old front last e = rw (e, map-append (λ (piece : Bor (List ℕ)). piece.now) front (last ∷ [])) (last_of (bytes_of front) last.now)

pub stays : (old front : List (Bor (List ℕ))) (last : Bor (List ℕ)) → old ≡ front ++ last ∷ [] → (length last.now == 0) ≡ false → bytes_of (front ++ last ∷ []) ≡ without_empty_last (bytes_of old)
stays old front last e some = rw (parts old front last e, some, map-append (λ (piece : Bor (List ℕ)). piece.now) front (last ∷ []))

pub leaves : (old front : List (Bor (List ℕ))) (last : Bor (List ℕ)) → old ≡ front ++ last ∷ [] → (length last.now == 0) ≡ true → bytes_of front ≡ without_empty_last (bytes_of old)
leaves old front last e none = rw (parts old front last e, none, append-nil (bytes_of front))
