use Rattle.std.specs.Prelude.{◌≡◌, ℕ, ◌+◌, nat_le, List, Option, Some, None, drop, position, slice_index, unwrap_or}
use Rattle.run_defs.specs.Schedules.{Order, round, drawn, listed, listed_pick, round_pick}

-- the first enabled actor at or after the cursor, else the first
abbrev pub position_from : ℕ → List ℕ → ℕ
position_from cursor actors = unwrap_or (position (λ a. nat_le cursor a) actors) 0

-- the cursor of an order, if it is a round robin
abbrev pub cursor_of : Order → Option ℕ
cursor_of (round cursor) = Some cursor
cursor_of (drawn g) = None
cursor_of (listed picks) = None

-- the cursor after the actor that a round robin picks
abbrev pub cursor_after : ℕ → List ℕ → ℕ
cursor_after cursor actors = slice_index actors (position_from cursor actors) + 1

-- what the listed picks from an index on select: the index of an actor and the index of the next pick, or None if no
-- pick is enabled any more
abbrev pub IsNext : List ℕ → ℕ → List ℕ → Option (ℕ × ℕ) → Type 0
IsNext picks at actors None = listed_pick (drop at picks) actors ≡ round_pick 0 actors
IsNext picks at actors (Some next) =
    listed_pick (drop at picks) actors ≡ record { index = next.0; order = listed (drop next.1 picks) }
