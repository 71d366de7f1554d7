-- If names are distinct, each differs from the earlier ones.
use Rattle.std.proofs.Common.{◌≡◌, refl, ℕ, true, false, not, List, [], ◌∷◌, ◌++◌}
use Rattle.std.specs.Prelude.{bytes_eq}
use Rattle.std.proofs.lemmas.Bool.{and_parts}
use Rattle.nook_data.specs.Names.{is_among}
use Rattle.nook_data.specs.Valid.{are_distinct}
use Rattle.reading_laws.proofs.Names.{neither, not_true, or_false, other}

differs : (front : List (List ℕ)) (name : List ℕ) (back : List (List ℕ)) (a : List ℕ) → is_among (front ++ name ∷ back) a ≡ false → bytes_eq a name ≡ false
differs [] name back a h = (or_false (bytes_eq a name) (is_among back a) h).0
differs (first ∷ front) name back a h = differs front name back a (or_false (bytes_eq a first) (is_among (front ++ name ∷ back) a) h).1

pub apart : (front : List (List ℕ)) (name : List ℕ) (back : List (List ℕ)) → are_distinct (front ++ name ∷ back) ≡ true → is_among front name ≡ false
apart [] name back h = refl
apart (first ∷ front) name back h =
    let parts = and_parts (not (is_among (front ++ name ∷ back) first)) (are_distinct (front ++ name ∷ back)) h in
    neither (bytes_eq name first) (is_among front name)
    (other first name (differs front name back first (not_true (is_among (front ++ name ∷ back) first) parts.0)))
    (apart front name back parts.1)
