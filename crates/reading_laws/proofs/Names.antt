-- Names stay distinct if one is added that is not among them.
use Rattle.std.proofs.Common.{◌≡◌, ◌∙◌, refl, sym, ap, ℕ, Bool, true, false, not, ◌||◌, ◌&&◌, List, [], ◌∷◌, ◌++◌, if◌then◌else◌}
use Rattle.std.specs.Prelude.{Result, Ok, Err, IfOk, bytes_eq}
use Rattle.std.proofs.lemmas.Bool.{and_parts}
use Rattle.std.proofs.lemmas.Slice.Eq.{bytes_eq-Decides}
use Rattle.serde_json.specs.Data.{Data}
use Rattle.nook_data.specs.Names.{is_name}
use Rattle.nook_data.specs.Names.{is_among}
use Rattle.input_defs.specs.PartReading.{name_of, new_name}
use Rattle.input_defs.specs.Reading.{bad, text_of}
use Rattle.nook_data.specs.Valid.{are_distinct}
use Rattle.input_defs.specs.declared.input.InputFault.TheVariants as fault
use Rattle.input_defs.specs.declared.input.Refusal.{Refusal}
use Rattle.reading_laws.proofs.Readings.{passed}

pub or_false : (a b : Bool) → (a || b) ≡ false → (a ≡ false) × (b ≡ false)
or_false true b h = absurd (cc h)
or_false false b h = (refl, h)

pub not_true : (a : Bool) → not a ≡ true → a ≡ false
not_true true h = absurd (cc h)
not_true false h = refl

other_by : (a b : List ℕ) (test : Bool) → bytes_eq b a ≡ test → bytes_eq a b ≡ false → bytes_eq b a ≡ false
other_by a b false e h = e
other_by a b true e h = let same : bytes_eq a b ≡ true = (bytes_eq-Decides a b).1 (sym ((bytes_eq-Decides b a).0 e)) in absurd (cc (same, h))

pub other : (a b : List ℕ) → bytes_eq a b ≡ false → bytes_eq b a ≡ false
other a b h = other_by a b (bytes_eq b a) refl h

pub neither : (a b : Bool) → a ≡ false → b ≡ false → (a || b) ≡ false
neither a b h k = rw (h, k) refl

among_push : (names : List (List ℕ)) (last name : List ℕ) → is_among names name ≡ false → bytes_eq name last ≡ false → is_among (names ++ last ∷ []) name ≡ false
among_push [] last name h k = neither (bytes_eq name last) false k refl
among_push (first ∷ more) last name h k = let parts = or_false (bytes_eq name first) (is_among more name) h in
    neither (bytes_eq name first) (is_among (more ++ last ∷ []) name) parts.0 (among_push more last name parts.1 k)

all_of : (a b : Bool) → a ≡ false → b ≡ true → (not a && b) ≡ true
all_of a b h k = rw (h, k) refl

pub distinct_push : (names : List (List ℕ)) (name : List ℕ) → are_distinct names ≡ true → is_among names name ≡ false → are_distinct (names ++ name ∷ []) ≡ true
distinct_push [] name h k = refl
distinct_push (first ∷ more) name h k =
    let parts = and_parts (not (is_among more first)) (are_distinct more) h in
    let apart = or_false (bytes_eq name first) (is_among more name) k in
    all_of (is_among (more ++ name ∷ []) first) (are_distinct (more ++ name ∷ []))
    (among_push more name first (not_true (is_among more first) parts.0) (other name first apart.0))
    (distinct_push more name parts.1 apart.1)

-- a valid name that differs from all earlier ones
abbrev pub IsNewName : List (List ℕ) → List ℕ → Type 0
IsNewName earlier name = (is_name name ≡ true) × (is_among earlier name ≡ false)

new_by : (earlier : List (List ℕ)) (name : List ℕ) (right taken : Bool) → is_name name ≡ right → is_among earlier name ≡ taken
    → let read : Result (List ℕ) Refusal = if right then (if taken then bad fault.DoubleName else Ok name) else bad fault.WrongKind in IfOk read (IsNewName earlier)
new_by earlier name false taken e f = tt
new_by earlier name true true e f = tt
new_by earlier name true false e f = (e, f)

new_holds : (earlier : List (List ℕ)) (name : List ℕ) → IfOk (new_name earlier name) (IsNewName earlier)
unfolding new_name
new_holds earlier name = new_by earlier name (is_name name) (is_among earlier name) refl refl

pub name_holds : (earlier : List (List ℕ)) (d : Data) → IfOk (name_of earlier d) (IsNewName earlier)
name_holds earlier d = passed (IsNewName earlier) (text_of d) (new_name earlier) (λ name. new_holds earlier name)
