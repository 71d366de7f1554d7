-- Lists of taps, viewed as what their listeners hear and have heard.
use Rattle.std.proofs.Common.{◌≡◌, ◌∙◌, ap, sym, refl, ℕ, zero, suc, ◌+◌, ◌<◌, List, [], ◌∷◌, ◌++◌, length, map, take, drop, get_or, slice_index_or, slice_set, arith}
use Rattle.std.specs.Prelude.{Result, Ok, Err, IfOk}
use Rattle.std.proofs.lemmas.Simd.{map-map}
use Rattle.std.proofs.lemmas.List.{get_or_default, length-append, length-map, map-set, take-append-drop}
use Rattle.std.proofs.lemmas.List.Edits.{map_over_more}

-- reading a list of views
pub view_read : {X Y : Type 0} (F : X → Y) (xs : List X) (i : ℕ) (x : X) (d : Y) → i < length xs → x ≡ get_or xs i x → get_or (map F xs) i d ≡ F x
view_read F [] i x d lt is = let none : ⊥ = omega arith in absurd none
view_read F (y ∷ ys) zero x d lt is = ap F (sym is)
view_read F (y ∷ ys) (suc i) x d lt is = view_read F ys i x d (omega arith) is

-- the lists have the same length
over_length : {Y : Type 0} (T : Y → Y) (i : ℕ) (items xs : List Y) → items ≡ map T (take i xs) ++ drop i xs → length items ≡ length xs
over_length T i items xs e =
    ap length e ∙ length-append (map T (take i xs)) (drop i xs)
    ∙ ap (λ (n : ℕ). n + length (drop i xs)) (length-map (take i xs) T)
    ∙ sym (length-append (take i xs) (drop i xs)) ∙ ap length (take-append-drop i xs)

-- one more item of a list is changed, as its view shows
pub view_over_more : {X Y : Type 0} (F : X → Y) (T : Y → Y) (xs items : List X) (i : ℕ) (x y : X)
    → i < length items
    → map F items ≡ map T (take i (map F xs)) ++ drop i (map F xs)
    → F y ≡ T (F (get_or items i x))
    → map F (slice_set items i y) ≡ map T (take (i + 1) (map F xs)) ++ drop (i + 1) (map F xs)
view_over_more {X = X} F T xs items i x y lt inv e =
    let same : length (map F items) ≡ length (map F xs) = over_length T i (map F items) (map F xs) inv in
    let old : X = get_or items i x in
    let at : F old ≡ get_or (map F items) i (F old) =
    sym (view_read F items i old (F old) lt (get_or_default items i x old lt)) in
    rw (map-set F items i y, e)
    (map_over_more T (map F xs) (map F items) i (F old) (omega (arith, same, length-map items F)) inv at)

-- an item replaces another, as its view shows
pub view_set : {X Y : Type 0} (F : X → Y) (T : Y → Y) (xs : List X) (i : ℕ) (x y : X) (d : Y)
    → i < length xs
    → x ≡ get_or xs i x
    → F y ≡ T (F x)
    → map F (slice_set xs i y) ≡ slice_set (map F xs) i (T (slice_index_or (map F xs) i d))
view_set F T xs i x y d lt is e = rw (view_read F xs i x d lt is, map-set F xs i y, e) refl

-- three maps as one
pub fused : {A B C D : Type 0} (f : A → B) (g : B → C) (h : C → D) (k : A → D)
    → ((a : A) → h (g (f a)) ≡ k a)
    → (xs : List A)
    → map h (map g (map f xs)) ≡ map k xs
fused f g h k e [] = refl
fused f g h k e (x ∷ xs) = rw (e x, fused f g h k e xs) refl

-- a property of a list in a result holds of the list that it was made from
pub made_of : {X Y Z B E : Type 0} (r : Result B E) (V : B → List Z) (f : X → Y) (g : Y → Z) (ys : List Y) (xs : List X)
    → ys ≡ map f xs
    → IfOk r (λ b. V b ≡ map g ys)
    → IfOk r (λ b. V b ≡ map (λ x. g (f x)) xs)
made_of (Ok b) V f g ys xs e h = h ∙ (ap (λ z. map g z) e ∙ map-map g f xs)
made_of (Err b) V f g ys xs e h = h
