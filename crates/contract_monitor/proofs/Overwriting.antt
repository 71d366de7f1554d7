-- A list that is overwritten item by item.
use Rattle.std.proofs.Common.{◌≡◌, ℕ, zero, suc, ◌+◌, ◌≤◌, List, [], ◌∷◌, ◌++◌, Some, drop, length, take, slice_get, refl, sym, ap, ◌∙◌, arith}
use Rattle.std.specs.Prelude.{slice_set}
use Rattle.nook_data.proofs.Options.{none_is_some, same_inside}

set_at : {A : Type 0} (ws xs : List A) (i : ℕ) (w : A) → length xs ≡ length ws → slice_get ws i ≡ Some w
    → slice_set (take i ws ++ drop i xs) i w ≡ take (suc i) ws ++ drop (suc i) xs
set_at [] xs i w e at = none_is_some at
set_at (v ∷ ws) [] i w e at = absurd (omega (arith, e))
set_at (v ∷ ws) (x ∷ xs) zero w e at = ap (λ u. u ∷ xs) (sym (same_inside at))
set_at (v ∷ ws) (x ∷ xs) (suc i) w e at = ap (λ us. v ∷ us) (set_at ws xs i w (omega (arith, e)) at)

-- one more item
pub one_set : {A : Type 0} (ws xs ys : List A) (i n : ℕ) (w : A) → length xs ≡ length ws → slice_get ws i ≡ Some w → n ≡ suc i
    → ys ≡ take i ws ++ drop i xs → slice_set ys i w ≡ take n ws ++ drop n xs
one_set ws xs ys i n w e at more is = ap (λ us. slice_set us i w) is ∙ rw more (set_at ws xs i w e at)

-- all items
pub all_set : {A : Type 0} (ws xs : List A) (i : ℕ) → length xs ≡ length ws → length ws ≤ i → take i ws ++ drop i xs ≡ ws
all_set [] [] zero e all = refl
all_set [] [] (suc i) e all = refl
all_set [] (x ∷ xs) i e all = absurd (omega (arith, e))
all_set (v ∷ ws) [] i e all = absurd (omega (arith, e))
all_set (v ∷ ws) (x ∷ xs) zero e all = absurd (omega (arith, all))
all_set (v ∷ ws) (x ∷ xs) (suc i) e all = ap (λ us. v ∷ us) (all_set ws xs i (omega (arith, e)) (omega (arith, all)))
