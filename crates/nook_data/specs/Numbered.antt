use Rattle.std.specs.Prelude.{ℕ, zero, suc, Bool, List, [], ◌∷◌, Option, Some, None, slice_get, slice_set}
use Rattle.std.specs.Prelude.{if◌then◌else◌}

-- Calls are numbered from 1. A list of all calls keeps them in the order of their numbers.

-- the item with a number; number 0 has none
abbrev pub at_number : {X : Type 0} → ℕ → List X → Option X
at_number zero xs = None
at_number (suc index) xs = slice_get xs index

-- the list after the item with a number is changed, if there is one
abbrev pub change_number : {X : Type 0} → (X → X) → ℕ → List X → List X
change_number f zero xs = xs
change_number {X} f (suc index) xs =
    elim (slice_get xs index) as (λ o. List X) [ None ↦ xs | Some x ↦ slice_set xs index (f x) ]

-- a number after one more item is added at the beginning of the list; 0, which represents no item, stays 0
abbrev pub one_later : ℕ → ℕ
one_later zero = zero
one_later (suc number) = suc (suc number)

-- the number of the first item that passes the test, 0 if none does
abbrev pub number_where : {X : Type 0} → (X → Bool) → List X → ℕ
number_where test [] = 0
number_where test (x ∷ xs) = if test x then 1 else one_later (number_where test xs)
