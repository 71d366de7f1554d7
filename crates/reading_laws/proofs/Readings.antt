-- Facts about the values that readings return.
use Rattle.std.proofs.Common.{◌≡◌, ◌∙◌, refl, sym, subst, ap, ℕ, ◌+◌, ◌<◌, ◌≤◌, Bool, true, false, nat_lt, ◌||◌, List, [], ◌∷◌, ◌++◌, length, Option, Some, None, arith, length-append, if◌then◌else◌}
use Rattle.std.specs.Prelude.{Result, Ok, Err, IfOk, All, option_and_then}
use Rattle.std.proofs.lemmas.Bool.{ltb-false}
use Rattle.std.proofs.lemmas.List.Elements.{All-nil, All-push}
use Rattle.serde_json.specs.Data.{Data, Items, no_items, item}
use Rattle.serde_json.specs.Find.{get, as_array, as_number, as_u64}
use Rattle.asm_defs.specs.Keys.{key_text}
use Rattle.input_defs.specs.Reading.{bad, or_bad, under, refuse_if, whole_number, number_at, required, optional}
use Rattle.input_defs.specs.Reading.{count_of, items_from, list_of, numbers_of}
use Rattle.input_defs.specs.Views.Readings.{number_or}
use Rattle.asm_defs.specs.Results.{◌>>=◌}
use Rattle.input_defs.specs.declared.input.InputFault.TheVariants as fault
use Rattle.asm_defs.specs.declared.keys.Key.{Key}
use Rattle.input_defs.specs.declared.input.PathStep.{PathStep}
use Rattle.input_defs.specs.declared.input.PathStep.TheVariants as step
use Rattle.input_defs.specs.declared.input.Refusal.{Refusal}

-- any reading fulfils the empty condition
pub any : {T E : Type 0} (r : Result T E) → IfOk r (λ _. Unit {0})
any (Ok x) = tt
any (Err e) = tt

-- one reading after another
pub chained : {A B E : Type 0} (P : A → Type 0) (Q : B → Type 0) (r : Result A E) (f : A → Result B E)
    → IfOk r P → ((a : A) → P a → IfOk (f a) Q) → IfOk (r >>= f) Q
chained P Q (Ok a) f h k = k a h
chained P Q (Err e) f h k = tt

-- one reading after another, with no condition on the first
pub passed : {A B E : Type 0} (Q : B → Type 0) (r : Result A E) (f : A → Result B E) → ((a : A) → IfOk (f a) Q) → IfOk (r >>= f) Q
passed Q (Ok a) f k = k a
passed Q (Err e) f k = tt

-- a weaker condition also holds
pub less : {A E : Type 0} (P Q : A → Type 0) (r : Result A E) → IfOk r P → ((a : A) → P a → Q a) → IfOk r Q
less P Q (Ok a) h k = k a h
less P Q (Err e) h k = tt

-- two conditions hold together
pub both : {A E : Type 0} (P Q : A → Type 0) (r : Result A E) → IfOk r P → IfOk r Q → IfOk r (λ a. P a × Q a)
both P Q (Ok a) h k = (h, k)
both P Q (Err e) h k = tt

pub beneath : {T : Type 0} (P : T → Type 0) (at : PathStep) (r : Result T Refusal) → IfOk r P → IfOk (under at r) P
beneath P at (Ok x) h = h
beneath P at (Err e) h = tt

-- a value at a required key
pub required_holds : {T : Type 0} (P : T → Type 0) (key : Key) (of : Data → Result T Refusal) (d : Data)
    → ((d : Data) → IfOk (of d) P) → IfOk (required key of d) P
required_holds P key of d h =
    beneath P (step.At key) (or_bad fault.MissingKey (get (key_text key) d) >>= of) (passed P (or_bad fault.MissingKey (get (key_text key) d)) of h)

-- a value at an optional key
pub optional_holds : {T : Type 0} (P : T → Type 0) (key : Key) (of : Data → Result T Refusal) (default : T) (d : Data)
    → ((d : Data) → IfOk (of d) P) → P default → IfOk (optional key of default d) P
optional_holds {T} P key of default d h k = by_value (get (key_text key) d)
  where
    by_value : (o : Option Data) → IfOk (let read : Result T Refusal = elim o [ None ↦ Ok default | Some value ↦ under (step.At key) (of value) ] in read) P
    by_value None = k
    by_value (Some value) = beneath P (step.At key) (of value) (h value)

-- ---- numbers

abbrev pub IsBetween : ℕ → ℕ → ℕ → Type 0
IsBetween low high n = (low ≤ n) × (n ≤ high)

or_false : (a b : Bool) → (a || b) ≡ false → (a ≡ false) × (b ≡ false)
or_false true b h = absurd (cc h)
or_false false b h = (refl, h)

within_by : (low high n : ℕ) (test : Bool) → (nat_lt n low || nat_lt high n) ≡ test
    → let read : Result ℕ Refusal = if test then bad fault.NumberRange else Ok n in IfOk read (IsBetween low high)
within_by low high n true e = tt
within_by low high n false e = (ltb-false n low (or_false _ _ e).0, ltb-false high n (or_false _ _ e).1)

pub number_holds : (low high : ℕ) (d : Data) → IfOk (whole_number low high d) (IsBetween low high)
number_holds low high d = passed (IsBetween low high) (or_bad fault.WrongKind (option_and_then as_u64 (as_number d))) _
    (λ n. within_by low high n (nat_lt n low || nat_lt high n) refl)

pub number_at_holds : (key : Key) (low high : ℕ) (d : Data) → IfOk (number_at key low high d) (IsBetween low high)
number_at_holds key low high d = required_holds (IsBetween low high) key (whole_number low high) d (number_holds low high)

pub number_or_holds : (key : Key) (low high default : ℕ) (d : Data) → IsBetween low high default → IfOk (number_or key low high default d) (IsBetween low high)
number_or_holds key low high default d h = optional_holds (IsBetween low high) key (whole_number low high) default d (number_holds low high) h

-- ---- lists

-- if each reading of an item preserves a condition on the items so far, all items fulfil it
pub items_hold : {T : Type 0} (P : List T → Type 0) (of : List T → Data → Result T Refusal)
    → ((earlier : List T) (d : Data) → P earlier → IfOk (of earlier d) (λ x. P (earlier ++ x ∷ [])))
    → (earlier : List T) (index : ℕ) (items : Items) → P earlier → IfOk (items_from of earlier index items) P
items_hold P of next earlier index no_items h = h
items_hold P of next earlier index (item d more) h =
    chained (λ x. P (earlier ++ x ∷ [])) P (under (step.Position index) (of earlier d)) (λ read. items_from of (earlier ++ read ∷ []) (index + 1) more)
    (beneath (λ x. P (earlier ++ x ∷ [])) (step.Position index) (of earlier d) (next earlier d h))
    (λ x hx. items_hold P of next (earlier ++ x ∷ []) (index + 1) more hx)

-- the list read has as many items as the array
pub items_length : {T : Type 0} (of : List T → Data → Result T Refusal) (earlier : List T) (index : ℕ) (items : Items)
    → IfOk (items_from of earlier index items) (λ xs. length xs ≡ length earlier + count_of items)
items_length of earlier index no_items = omega arith
items_length of earlier index (item d more) =
    passed (λ xs. length xs ≡ length earlier + (count_of more + 1)) (under (step.Position index) (of earlier d)) (λ read. items_from of (earlier ++ read ∷ []) (index + 1) more)
    (λ x. less (λ xs. length xs ≡ length (earlier ++ x ∷ []) + count_of more) (λ xs. length xs ≡ length earlier + (count_of more + 1))
    (items_from of (earlier ++ x ∷ []) (index + 1) more)
    (items_length of (earlier ++ x ∷ []) (index + 1) more)
    (λ xs h. omega (arith, h, length-append earlier (x ∷ []))))

-- a list of least to most items that fulfils a condition
abbrev pub Listed : {T : Type 0} → (List T → Type 0) → ℕ → ℕ → List T → Type 0
Listed P least most xs = P xs × (least ≤ length xs) × (length xs ≤ most)

list_by : {T : Type 0} (P : List T → Type 0) (of : List T → Data → Result T Refusal) (least most : ℕ)
    → ((earlier : List T) (d : Data) → P earlier → IfOk (of earlier d) (λ x. P (earlier ++ x ∷ [])))
    → P [] → (items : Items) (long short : Bool) → nat_lt most (count_of items) ≡ long → nat_lt (count_of items) least ≡ short
    → IfOk (refuse_if long fault.TooMany >>= λ one. refuse_if short fault.NumberRange >>= λ two. items_from of [] 0 items) (Listed P least most)
list_by P of least most next h items true short e f = tt
list_by P of least most next h items false true e f = tt
list_by P of least most next h items false false e f =
    less (λ xs. P xs × (length xs ≡ 0 + count_of items)) (Listed P least most) (items_from of [] 0 items)
    (both P (λ xs. length xs ≡ 0 + count_of items) (items_from of [] 0 items) (items_hold P of next [] 0 items h) (items_length of [] 0 items))
    (λ xs held. let low = ltb-false (count_of items) least f in let high = ltb-false most (count_of items) e in
    (held.0, (omega (arith, held.1, low, high)), (omega (arith, held.1, low, high))))

pub list_holds : {T : Type 0} (P : List T → Type 0) (of : List T → Data → Result T Refusal) (least most : ℕ)
    → ((earlier : List T) (d : Data) → P earlier → IfOk (of earlier d) (λ x. P (earlier ++ x ∷ [])))
    → P [] → (d : Data) → IfOk (list_of of least most d) (Listed P least most)
list_holds P of least most next h d = passed (Listed P least most) (or_bad fault.WrongKind (as_array d)) _
    (λ items. list_by P of least most next h items (nat_lt most (count_of items)) (nat_lt (count_of items) least) refl refl)

-- a condition on each item separately
pub each_holds : {T : Type 0} (P : T → Type 0) (of : List T → Data → Result T Refusal) (least most : ℕ)
    → ((earlier : List T) (d : Data) → IfOk (of earlier d) P)
    → (d : Data) → IfOk (list_of of least most d) (Listed (All P) least most)
each_holds P of least most one d =
    list_holds (All P) of least most
    (λ earlier d' h. less P (λ x. All P (earlier ++ x ∷ [])) (of earlier d') (one earlier d') (λ x hx. All-push P earlier x h hx))
    (All-nil P) d
