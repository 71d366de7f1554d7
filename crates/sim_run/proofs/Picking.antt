use Rattle.std.proofs.Common.{◌≡◌, ℕ, ◌%◌, ◌<◌, ◌==◌, nat_le, Bool, Option, Some, None, List, [], ◌∷◌, length, unwrap_or, refl, arith}
use Rattle.std.specs.List.{position}
use Rattle.std.proofs.lemmas.List.Quantifiers.{position-Some}
use Rattle.run_defs.specs.Schedules.{Order, round, drawn, listed, picked, round_pick, listed_pick}

-- A pick is an index in the list.

within_by : (p : ℕ → Bool) (xs : List ℕ) (o : Option ℕ) → position p xs ≡ o → 0 < length xs → unwrap_or o 0 < length xs
within_by p xs None e l = l
within_by p xs (Some i) e l = (position-Some p xs i 0 e).0

round_within : (cursor : ℕ) (actors : List ℕ) → 0 < length actors → (round_pick cursor actors).index < length actors
round_within cursor actors l = within_by (λ a. nat_le cursor a) actors (position (λ a. nat_le cursor a) actors) refl l

rest_less : (n m : ℕ) → 0 < m → n % m < m
rest_less n m l = omega arith

listed_within : (picks actors : List ℕ) → 0 < length actors → (listed_pick picks actors).index < length actors
listed_within [] actors l = round_within 0 actors l
listed_within (pick ∷ picks) actors l = by_position (position (λ a. a == pick) actors) refl (listed_within picks actors l)
  where
    by_position : (o : Option ℕ) → position (λ a. a == pick) actors ≡ o → (listed_pick picks actors).index < length actors
        → (listed_pick (pick ∷ picks) actors).index < length actors
    by_position (Some i) e more = rw (e, listed_pick) ((position-Some (λ a. a == pick) actors i 0 e).0)
    by_position None e more = rw (e, listed_pick) more

pub picked_within : (order : Order) (actors : List ℕ) → 0 < length actors → (picked order actors).index < length actors
unfolding picked
picked_within (round cursor) actors l = round_within cursor actors l
picked_within (drawn g) actors l = rest_less _ _ l
picked_within (listed picks) actors l = listed_within picks actors l
