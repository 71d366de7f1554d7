-- The kernel objects of a part, one by one.
use Rattle.std.proofs.Common.{◌≡◌, ℕ, suc, ◌+◌, ◌-◌, ◌<◌, List, [], ◌∷◌, ◌++◌, refl, sym, ap, ◌∙◌, arith, add-one, append-nil, append_assoc}
use Rattle.machine_defs.specs.Pages.{object_words}
use Rattle.run_results.specs.Reports.{objects_from}
use Rattle.run_ends.specs.Ends.{objects_in}

next_object : (object left : ℕ) (memory : List ℕ) → left ≡ suc (12 - object) → objects_from object left memory
    ≡ object_words object memory ∷ objects_from (object + 1) (12 - object) memory
next_object object left memory e = rw (e, add-one object) refl

pub first_objects : (objects : List (List ℕ)) (memory : List ℕ) → objects ≡ [] → objects ++ objects_from 1 (13 - 1) memory ≡ objects_in memory
unfolding objects_in
first_objects objects memory e = rw e refl

pub more_objects : (objects more : List (List ℕ)) (object : ℕ) (words : List ℕ) (memory : List ℕ) → object < 13
    → words ≡ object_words object memory → more ≡ objects ++ words ∷ []
    → objects ++ objects_from object (13 - object) memory ≡ objects_in memory
    → more ++ objects_from (object + 1) (13 - (object + 1)) memory ≡ objects_in memory
more_objects objects more object words memory low w m before =
    let left : 13 - object ≡ suc (12 - object) = omega arith in
    let same : 13 - (object + 1) ≡ 12 - object = omega arith in
    let next = next_object object (13 - object) memory left in
    ap (λ x. x ++ objects_from (object + 1) (13 - (object + 1)) memory) m
    ∙ (append_assoc objects (words ∷ []) (objects_from (object + 1) (13 - (object + 1)) memory)
    ∙ (ap (λ x. objects ++ words ∷ objects_from (object + 1) x memory) same
    ∙ (ap (λ x. objects ++ x ∷ objects_from (object + 1) (12 - object) memory) w
    ∙ (ap (λ x. objects ++ x) (sym next) ∙ before))))

pub all_objects : (objects : List (List ℕ)) (object : ℕ) (memory : List ℕ) → object ≡ 13
    → objects ++ objects_from object (13 - object) memory ≡ objects_in memory → objects ≡ objects_in memory
all_objects objects object memory e before =
    let none : 13 - object ≡ 0 = omega arith in
    sym (append-nil objects) ∙ (ap (λ x. objects ++ objects_from object x memory) (sym none) ∙ before)
