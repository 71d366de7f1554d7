-- Lists and numbers are read back.
use Rattle.std.proofs.Common.{◌≡◌, ℕ, ◌+◌, ◌≤◌, Ok, List, [], ◌∷◌, ◌++◌, length, refl, ap, ◌∙◌, arith, append-nil, append_assoc}
use Rattle.std.specs.Prelude.{⊤, Result, nat_lt, false, All}
use Rattle.std.proofs.lemmas.Bool.{le-ltb}
use Rattle.std.proofs.lemmas.List.Elements.{All-head, All-tail}
use Rattle.serde_json.specs.Data.{Data}
use Rattle.input_defs.specs.Reading.{count_of, items_from, list_of, whole_number, numbers_of}
use Rattle.nook_data.specs.Valid.{AreWords, IsWord}
use Rattle.input_defs.specs.declared.input.Refusal.{Refusal}
use Rattle.scenario_write.specs.ScenarioText.{items_with, list_data, number_data, numbers_data}
use Rattle.scenario_write.proofs.Sorted.{sorted, sorted_items}

pub no_less : (n : ℕ) → nat_lt n 0 ≡ false
no_less n = le-ltb n 0 (omega arith)

pub number_back : (low high n : ℕ) → low ≤ n → n ≤ high → whole_number low high (number_data n) ≡ Ok n
number_back low high n p q = rw (le-ltb n low p, le-ltb high n q) refl

-- each item is read back after those before it
abbrev pub Reads : {T : Type 0} → (List T → Data → Result T Refusal) → (T → Data) → List T → List T → Type 0
Reads of data_of earlier [] = ⊤
Reads of data_of earlier (x ∷ xs) = (of earlier (sorted (data_of x)) ≡ Ok x) × Reads of data_of (earlier ++ x ∷ []) xs

items_back : {T : Type 0} (of : List T → Data → Result T Refusal) (data_of : T → Data) (earlier : List T) (index : ℕ) (xs : List T) → Reads of data_of earlier xs
    → items_from of earlier index (sorted_items (items_with data_of xs)) ≡ Ok (earlier ++ xs)
items_back of data_of earlier index [] h = rw (append-nil earlier) refl
items_back of data_of earlier index (x ∷ xs) h =
    rw h.0 (items_back of data_of (earlier ++ x ∷ []) (index + 1) xs h.1 ∙ ap Ok (append_assoc earlier (x ∷ []) xs))

counted : {T : Type 0} (data_of : T → Data) (xs : List T) → count_of (sorted_items (items_with data_of xs)) ≡ length xs
counted data_of [] = refl
counted data_of (x ∷ xs) = rw (counted data_of xs) (omega arith)

pub list_back : {T : Type 0} (of : List T → Data → Result T Refusal) (data_of : T → Data) (least most : ℕ) (xs : List T) → least ≤ length xs → length xs ≤ most
    → Reads of data_of [] xs → list_of of least most (sorted (list_data data_of xs)) ≡ Ok xs
list_back of data_of least most xs low high h =
    rw (counted data_of xs, le-ltb most (length xs) high, le-ltb (length xs) least low) (items_back of data_of [] 0 xs h)

pub reads_all : {T : Type 0} (of : Data → Result T Refusal) (data_of : T → Data) (P : T → Type 0) → ((x : T) → P x → of (sorted (data_of x)) ≡ Ok x)
    → (earlier xs : List T) → All P xs → Reads (λ before. of) data_of earlier xs
reads_all of data_of P each earlier [] h = tt
reads_all of data_of P each earlier (x ∷ xs) h = (each x (All-head P x xs h), reads_all of data_of P each (earlier ++ x ∷ []) xs (All-tail P x xs h))

pub numbers_back : (least most high : ℕ) (P : ℕ → Type 0) → ((n : ℕ) → P n → n ≤ high) → (ns : List ℕ) → least ≤ length ns → length ns ≤ most → All P ns
    → numbers_of least most high (sorted (numbers_data ns)) ≡ Ok ns
numbers_back least most high P within ns low room h =
    list_back (λ before. whole_number 0 high) number_data least most ns low room
    (reads_all (whole_number 0 high) number_data P (λ n p. number_back 0 high n (omega arith) (within n p)) [] ns h)

pub word_within : (n : ℕ) → IsWord n → n ≤ 4294967295
word_within n h = omega (arith, h)

pub words_back : (most : ℕ) (ns : List ℕ) → AreWords most ns → numbers_of 0 most 4294967295 (sorted (numbers_data ns)) ≡ Ok ns
words_back most ns h = numbers_back 0 most 4294967295 IsWord word_within ns (omega arith) h.0 h.1
