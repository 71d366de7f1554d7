-- One call of a list changes, or each call does; and answered calls are removed.
use Rattle.std.proofs.Common.{◌≡◌, ◌≤◌, ◌<◌, ◌+◌, ◌==◌, ◌||◌, ℕ, zero, suc, Bool, true, false, cond, if◌then◌else◌, List, [], ◌∷◌, length, map, take, slice_set, get_or, Result, Ok, Err, OnOk, IfOk, refl, sym, ap, ap₂, ◌∙◌, subst, arith}
use Rattle.std.specs.List.{filter, list_any}
use Rattle.std.proofs.lemmas.List.{length-map}
use Rattle.std.proofs.Math.Seq.{map-set_same}
use Rattle.promise_defs.specs.Contract.{OpenCall, change_first}
use Rattle.promise_defs.specs.Losses.{CallEffects}
use Rattle.contract_monitor.specs.declared.calls.Call.{Call}
use Rattle.contract_monitor.specs.declared.calls.Change.{Change}
use Rattle.contract_monitor.specs.declared.calls.Change.TheVariants as changed
use Rattle.contract_monitor.specs.Calls.{change_to, open_calls, open_change, open_of, effects_calls, effects_change}

-- ---- the first n items

to_end : {X : Type 0} (f : X → X) (n : ℕ) (xs : List X) → length xs ≤ n → change_to n f xs ≡ map f xs
to_end f zero [] l = refl
to_end f zero (x ∷ xs) l = absurd (omega (arith, l))
to_end f (suc n) [] l = refl
to_end f (suc n) (x ∷ xs) l = ap (λ more. f x ∷ more) (to_end f n xs (omega (arith, l)))

changed_next : {A X : Type 0} (g : A → X) (f : X → X) (i : ℕ) (ys : List A) (xs : List X) (old new : A)
    → i < length ys → map g ys ≡ change_to i f xs → old ≡ get_or ys i old → g new ≡ f (g old)
    → map g (slice_set ys i new) ≡ change_to (suc i) f xs
changed_next g f i [] xs old new l h is e = absurd (omega (arith, l))
changed_next g f zero (y ∷ ys) [] old new l h is e = absurd cc
changed_next g f zero (y ∷ ys) (x ∷ xs) old new l h is e = cc
changed_next g f (suc i) (y ∷ ys) [] old new l h is e = absurd cc
changed_next g f (suc i) (y ∷ ys) (x ∷ xs) old new l h is e =
    let rest : map g ys ≡ change_to i f xs = cc in
    let same : g y ≡ f x = cc in
    ap₂ (λ a more. a ∷ more) same (changed_next g f i ys xs old new (omega (arith, l)) rest is e)

-- the next item is changed
pub changed_more : {A X : Type 0} (g : A → X) (f : X → X) (i j : ℕ) (ys : List A) (xs : List X) (old new : A)
    → j ≡ i + 1 → i < length ys → map g ys ≡ change_to i f xs → old ≡ get_or ys i old → g new ≡ f (g old)
    → map g (slice_set ys i new) ≡ change_to j f xs
changed_more g f i j ys xs old new n l h is e =
    let m : suc i ≡ j = omega (arith, n) in
    changed_next g f i ys xs old new l h is e ∙ ap (λ k. change_to k f xs) m

length_to : {X : Type 0} (f : X → X) (n : ℕ) (xs : List X) → length (change_to n f xs) ≡ length xs
length_to f zero xs = refl
length_to f (suc n) [] = refl
length_to f (suc n) (x ∷ xs) = ap suc (length_to f n xs)

pub within_to : {A X : Type 0} (g : A → X) (f : X → X) (i n : ℕ) (ys xs : List A) → map g ys ≡ change_to i f (map g xs) → i < n
    → n ≡ length xs → i < length ys
within_to g f i n ys xs h l e =
    let same : length ys ≡ length xs =
    sym (length-map ys g) ∙ (ap length h ∙ (length_to f i (map g xs) ∙ length-map xs g)) in
    omega (arith, l, e, same)

pub length_seen : {A X : Type 0} (g : A → X) (i n : ℕ) (xs : List A) → n ≤ i → n ≡ length xs → length (map g xs) ≤ i
length_seen g i n xs l e = omega (arith, l, e, length-map xs g)

-- an item that is seen as before
pub same_at : {A X : Type 0} (g : A → X) (index : ℕ) (xs : List A) (old new : A) → old ≡ get_or xs index old → g new ≡ g old
    → map g (slice_set xs index new) ≡ map g xs
same_at g index xs old new is h = map-set_same g xs index new old (h ∙ ap g is)

-- ---- the call with a number

same_if : {X : Type 0} (b : Bool) (x : X) → (if b then x else x) ≡ x
same_if true x = refl
same_if false x = refl

pub unchanged : {X : Type 0} (test : X → Bool) (xs : List X) → map (λ x. if test x then x else x) xs ≡ xs
unchanged test [] = refl
unchanged test (x ∷ xs) = ap₂ (λ a more. a ∷ more) (same_if (test x) x) (unchanged test xs)

pub opened_all : (change : Change) (number n : ℕ) (calls : List OpenCall) → length calls ≤ n
    → change_to n (λ (c : OpenCall). if c.number == number then open_change change c else c) calls ≡ open_calls change number calls
opened_all changed.Entered number n calls l = to_end _ n calls l
opened_all changed.Sent number n calls l = to_end _ n calls l
opened_all changed.Handed number n calls l = to_end _ n calls l
opened_all (changed.Failed block) number n calls l = to_end _ n calls l
opened_all changed.OwnPlayed number n calls l = to_end _ n calls l ∙ unchanged (λ (c : OpenCall). c.number == number) calls

pub tallied_all : (change : Change) (number n : ℕ) (ts : List CallEffects) → length ts ≤ n
    → change_to n (λ (t : CallEffects). if t.number == number then effects_change change t else t) ts ≡ effects_calls change number ts
tallied_all changed.Sent number n ts l = to_end _ n ts l
tallied_all changed.OwnPlayed number n ts l = to_end _ n ts l
tallied_all changed.Entered number n ts l = to_end _ n ts l ∙ unchanged (λ (t : CallEffects). t.number == number) ts
tallied_all changed.Handed number n ts l = to_end _ n ts l ∙ unchanged (λ (t : CallEffects). t.number == number) ts
tallied_all (changed.Failed block) number n ts l = to_end _ n ts l ∙ unchanged (λ (t : CallEffects). t.number == number) ts

pub all_changed : {X : Type 0} (f : X → X) (n : ℕ) (xs : List X) → length xs ≤ n → change_to n f xs ≡ map f xs
all_changed f n xs l = to_end f n xs l

pub on_ok : {U E : Type 0} {P Q : Type 0} (r : Result U E) → (P → Q) → OnOk r P → OnOk r Q
on_ok (Ok v) f p = f p
on_ok (Err e) f p = tt

pub if_ok : {U E : Type 0} {P Q : U → Type 0} (r : Result U E) → ((v : U) → P v → Q v) → IfOk r P → IfOk r Q
if_ok (Ok v) f p = f v p
if_ok (Err e) f p = tt

-- an item of a list, however it is read
pub same_item : {A : Type 0} (i : ℕ) (ys : List A) (a b : A) → i < length ys → a ≡ get_or ys i a → b ≡ get_or ys i b → a ≡ b
same_item i [] a b l e f = absurd (omega (arith, l))
same_item zero (y ∷ ys) a b l e f = e ∙ sym f
same_item (suc i) (y ∷ ys) a b l e f = same_item i ys a b (omega (arith, l)) e f

-- ---- the first call that passes a test

left_false : (a b : Bool) → a || b ≡ false → a ≡ false
left_false true b h = h
left_false false b h = refl

right_false : (a b : Bool) → a || b ≡ false → b ≡ false
right_false true b h = absurd cc
right_false false b h = h

-- none passes it
pub none_first : (test : OpenCall → Bool) (f : OpenCall → OpenCall) (n : ℕ) (calls : List OpenCall) → length calls ≤ n
    → list_any test (take n calls) ≡ false → change_first test f calls ≡ calls
none_first test f n [] l h = refl
none_first test f zero (c ∷ calls) l h = absurd (omega (arith, l))
none_first test f (suc n) (c ∷ calls) l h =
    rw (left_false (test c) (list_any test (take n calls)) h)
    (ap (λ more. c ∷ more) (none_first test f n calls (omega (arith, l)) (right_false (test c) (list_any test (take n calls)) h)))

-- the one at an index is the first that does
pub first_at : (test : OpenCall → Bool) (f : OpenCall → OpenCall) (i : ℕ) (ys : List Call) (old new : Call) → i < length ys
    → list_any test (take i (map open_of ys)) ≡ false → old ≡ get_or ys i old → test (open_of old) ≡ true
    → open_of new ≡ f (open_of old) → map open_of (slice_set ys i new) ≡ change_first test f (map open_of ys)
first_at test f i [] old new l h is t e = absurd (omega (arith, l))
first_at test f zero (y ∷ ys) old new l h is t e =
    let passes : test (open_of y) ≡ true = subst (λ z. test (open_of z) ≡ true) is t in
    let becomes : open_of new ≡ f (open_of y) = subst (λ z. open_of new ≡ f (open_of z)) is e in
    rw passes (ap (λ c. c ∷ map open_of ys) becomes)
first_at test f (suc i) (y ∷ ys) old new l h is t e =
    rw (left_false (test (open_of y)) (list_any test (take i (map open_of ys))) h)
    (ap (λ more. open_of y ∷ more) (first_at test f i ys old new (omega (arith, l))
    (right_false (test (open_of y)) (list_any test (take i (map open_of ys))) h) is t e))

none_next : (test : OpenCall → Bool) (i : ℕ) (ys : List Call) (old : Call) → i < length ys
    → list_any test (take i (map open_of ys)) ≡ false → old ≡ get_or ys i old → test (open_of old) ≡ false
    → list_any test (take (suc i) (map open_of ys)) ≡ false
none_next test i [] old l h is t = absurd (omega (arith, l))
none_next test zero (y ∷ ys) old l h is t = rw (subst (λ z. test (open_of z) ≡ false) is t) refl
none_next test (suc i) (y ∷ ys) old l h is t =
    rw (left_false (test (open_of y)) (list_any test (take i (map open_of ys))) h)
    (none_next test i ys old (omega (arith, l)) (right_false (test (open_of y)) (list_any test (take i (map open_of ys))) h) is t)

pub none_more : (test : OpenCall → Bool) (i j : ℕ) (ys : List Call) (old : Call) → j ≡ i + 1 → i < length ys
    → list_any test (take i (map open_of ys)) ≡ false → old ≡ get_or ys i old → test (open_of old) ≡ false
    → list_any test (take j (map open_of ys)) ≡ false
none_more test i j ys old n l h is t =
    let m : suc i ≡ j = omega (arith, n) in
    subst (λ k. list_any test (take k (map open_of ys)) ≡ false) m (none_next test i ys old l h is t)

-- ---- calls that are removed

picked : {A X : Type 0} (g : A → X) (b : Bool) (x : A) (xs : List A) (ys : List X) → map g xs ≡ ys
    → map g (cond b (x ∷ xs) xs) ≡ cond b (g x ∷ ys) ys
picked g true x xs ys h = ap (λ more. g x ∷ more) h
picked g false x xs ys h = h

-- how those that stay are seen
pub filter_seen : {A X : Type 0} (g : A → X) (p : A → Bool) (q : X → Bool) → ((x : A) → p x ≡ q (g x)) → (xs : List A)
    → map g (filter p xs) ≡ filter q (map g xs)
filter_seen g p q same [] = refl
filter_seen g p q same (x ∷ xs) =
    subst (λ b. map g (cond (p x) (x ∷ filter p xs) (filter p xs)) ≡ cond b (g x ∷ filter q (map g xs)) (filter q (map g xs)))
    (same x) (picked g (p x) x (filter p xs) (filter q (map g xs)) (filter_seen g p q same xs))

pub filter_alike : {X : Type 0} (p q : X → Bool) → ((x : X) → p x ≡ q x) → (xs : List X) → filter p xs ≡ filter q xs
filter_alike p q same [] = refl
filter_alike p q same (x ∷ xs) =
    ap₂ (λ b more. cond b (x ∷ more) more) (same x) (filter_alike p q same xs)

pub filter_all : {X : Type 0} (xs : List X) → filter (λ x. true) xs ≡ xs
filter_all [] = refl
filter_all (x ∷ xs) = ap (λ more. x ∷ more) (filter_all xs)

pub or_false : (b : Bool) → b || false ≡ b
or_false true = refl
or_false false = refl
