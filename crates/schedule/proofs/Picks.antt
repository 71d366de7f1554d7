-- One pick of a listed schedule.
use Rattle.std.proofs.Common.{◌≡◌, ℕ, ◌+◌, ◌<◌, ◌≤◌, ◌==◌, Option, Some, None, List, drop, length, slice_index, refl, ap}
use Rattle.std.specs.List.{position}
use Rattle.std.proofs.Math.ListN.{drop_of_length-le}
use Rattle.std.proofs.lemmas.List.{drop_more}
use Rattle.run_defs.specs.Schedules.{Picked, listed, listed_pick, round_pick}

-- the result of one pick, by the index of its actor among the enabled ones
listed_at : List ℕ → List ℕ → Option ℕ → Picked
listed_at picks actors (Some index) = record { index = index; order = listed picks }
listed_at picks actors None = listed_pick picks actors

-- a pick that is not enabled is skipped
pub past_pick : (picks actors : List ℕ) (i : ℕ) → i < length picks → position (λ a. a == slice_index picks i) actors ≡ None
    → listed_pick (drop i picks) actors ≡ listed_pick (drop (i + 1) picks) actors
unfolding listed_at
past_pick picks actors i l e = rw (drop_more picks i 0 l) (ap (listed_at (drop (i + 1) picks) actors) e)

-- a pick that is enabled is taken
pub found_pick : (picks actors : List ℕ) (i index : ℕ) → i < length picks
    → position (λ a. a == slice_index picks i) actors ≡ Some index
    → listed_pick (drop i picks) actors ≡ record { index = index; order = listed (drop (i + 1) picks) }
unfolding listed_at
found_pick picks actors i index l e = rw (drop_more picks i 0 l) (ap (listed_at (drop (i + 1) picks) actors) e)

-- after the last pick a round robin takes over
pub no_pick : (picks actors : List ℕ) (i : ℕ) → length picks ≤ i → listed_pick (drop i picks) actors ≡ round_pick 0 actors
no_pick picks actors i l = rw (drop_of_length-le picks l) refl
