-- How many entries of a kind a list has after a change.
use Rattle.std.proofs.Common.{◌≡◌, ℕ, suc, ◌+◌, ◌≤◌, Bool, true, false, cond, if◌then◌else◌, List, [], ◌∷◌, length, filter, count_by, arith, refl, sym, ap, ◌∙◌}
use Rattle.std.specs.List.{list_any}
use Rattle.std.proofs.lemmas.List.Sums.{sum_by-cons}
use Rattle.nook_data.specs.declared.entries.Entry.{Entry}
use Rattle.machine_defs.specs.Entries.{comes_before, with_entry, with_live, registered}

pub one_more : (p : Entry → Bool) (e : Entry) (es : List Entry) → count_by p (e ∷ es) ≡ cond {A = ℕ} (p e) 1 0 + count_by p es
one_more p e es = sum_by-cons (λ x. cond {A = ℕ} (p x) 1 0) e es

with_case : (p : Entry → Bool) (e x : Entry) (es : List Entry) (before : Bool) → count_by p (with_entry e es) ≡ cond {A = ℕ} (p e) 1 0 + count_by p es → count_by p (if before then e ∷ x ∷ es else x ∷ with_entry e es) ≡ cond {A = ℕ} (p e) 1 0 + count_by p (x ∷ es)
with_case p e x es true ih = one_more p e (x ∷ es)
with_case p e x es false ih = omega (arith, one_more p x (with_entry e es), one_more p x es, ih)

-- with one more entry
pub count_with : (p : Entry → Bool) (e : Entry) (es : List Entry) → count_by p (with_entry e es) ≡ cond {A = ℕ} (p e) 1 0 + count_by p es
count_with p e [] = one_more p e []
count_with p e (x ∷ es) = with_case p e x es (comes_before e x) (count_with p e es)

pub count_one : (p : Entry → Bool) (e : Entry) (es : List Entry) → p e ≡ true → count_by p (with_entry e es) ≡ 1 + count_by p es
count_one p e es here = let z : cond {A = ℕ} (p e) 1 0 ≡ 1 = rw here refl in omega (arith, count_with p e es, z)

pub count_other : (p : Entry → Bool) (e : Entry) (es : List Entry) → p e ≡ false → count_by p (with_entry e es) ≡ count_by p es
count_other p e es other = let z : cond {A = ℕ} (p e) 1 0 ≡ 0 = rw other refl in omega (arith, count_with p e es, z)

filter_case : (p q : Entry → Bool) (x : Entry) (es : List Entry) (kept : Bool) → q x ≡ kept → count_by p (filter q es) ≤ count_by p es → count_by p (filter q (x ∷ es)) ≤ count_by p (x ∷ es)
filter_case p q x es true same ih = rw same (omega (arith, one_more p x (filter q es), one_more p x es, ih))
filter_case p q x es false same ih = rw same (omega (arith, one_more p x es, ih))

-- with some entries left out
pub count_filter : (p q : Entry → Bool) (es : List Entry) → count_by p (filter q es) ≤ count_by p es
count_filter p q [] = omega arith
count_filter p q (x ∷ es) = filter_case p q x es (q x) refl (count_filter p q es)

all_case : (p q : Entry → Bool) (x : Entry) (es : List Entry) (kept : Bool) → q x ≡ kept → (p x ≡ true → q x ≡ true) → count_by p (filter q es) ≡ count_by p es → count_by p (filter q (x ∷ es)) ≡ count_by p (x ∷ es)
all_case p q x es true same all ih = rw same (omega (arith, one_more p x (filter q es), one_more p x es, ih))
all_case p q x es false same all ih = rw same (ih ∙ sym (none (p x) refl))
  where
    none : (b : Bool) → p x ≡ b → count_by p (x ∷ es) ≡ count_by p es
    none true hit = grind (arith, all)
    none false miss = let z : cond {A = ℕ} (p x) 1 0 ≡ 0 = rw miss refl in omega (arith, one_more p x es, z)

-- with none of the kind left out
pub count_filter_all : (p q : Entry → Bool) (es : List Entry) → ((e : Entry) → p e ≡ true → q e ≡ true) → count_by p (filter q es) ≡ count_by p es
count_filter_all p q [] all = refl
count_filter_all p q (x ∷ es) all = all_case p q x es (q x) refl (all x) (count_filter_all p q es all)

-- with the registration live or not
pub count_registered : (p : Entry → Bool) (live : Bool) (es : List Entry) → ((e : Entry) → p (with_live live e) ≡ p e) → count_by p (registered live es) ≡ count_by p es
count_registered p live [] same = refl
count_registered p live (x ∷ es) same =
    one_more p (with_live live x) (registered live es)
    ∙ rw (same x, count_registered p live es same) (sym (one_more p x es))

-- if there is none of the kind
pub count_none : (p : Entry → Bool) (es : List Entry) → list_any p es ≡ false → count_by p es ≡ 0
count_none p [] none = refl
count_none p (x ∷ es) none = grind (arith, one_more p x es, count_none p es)

length_case : (e x : Entry) (es : List Entry) (before : Bool) → length (with_entry e es) ≡ suc (length es) → length (if before then e ∷ x ∷ es else x ∷ with_entry e es) ≡ suc (length (x ∷ es))
length_case e x es true ih = refl
length_case e x es false ih = ap (λ n. suc n) ih

pub length_with : (e : Entry) (es : List Entry) → length (with_entry e es) ≡ suc (length es)
length_with e [] = refl
length_with e (x ∷ es) = length_case e x es (comes_before e x) (length_with e es)
