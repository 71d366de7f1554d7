use Rattle.std.specs.Prelude.{ℕ, ◌+◌, ◌%◌, ◌==◌, nat_le, unwrap_or, Some, None, List, [], ◌∷◌, length, position}
use Rattle.std.specs.Prelude.{slice_index}
use Rattle.rand_core.specs.Pcg32Seed.{pcg32_seed}
use Rattle.rand_pcg.specs.{Lcg.Lcg, Pcg.{pcg32, pcg32_of_seed}}
use Rattle.nook_data.specs.Types.{ScheduleSpec}
use Rattle.nook_data.specs.declared.scenario.ScheduleSpec.TheVariants as schedule

-- the state of a schedule: the cursor of a round robin, the generator, or the remaining picks
pub data Order : Type 0 where
  round : ℕ → Order
  drawn : Lcg → Order
  listed : List ℕ → Order

-- the initial schedule; the start seeds the generator
unfoldable pub opening_order : ScheduleSpec → Order
opening_order schedule.RoundRobin = round 0
opening_order (schedule.Drawn start) = drawn (pcg32_of_seed (pcg32_seed 16 start))
opening_order (schedule.Listed picks) = listed picks

-- the index of the picked actor in the list of enabled actors, and the schedule after the pick
pub record Picked : Type 0 where
  pub index : ℕ
  pub order : Order

-- the first enabled actor at or after the cursor, else the first; the cursor moves to the number after it
abbrev pub round_pick : ℕ → List ℕ → Picked
round_pick cursor actors =
    let index = unwrap_or (position (λ a. nat_le cursor a) actors) 0 in
    record { index = index; order = round (slice_index actors index + 1) }

-- the first pick that is enabled; after the last pick, a round robin from its start
abbrev pub listed_pick : List ℕ → List ℕ → Picked
listed_pick [] actors = round_pick 0 actors
listed_pick (pick ∷ picks) actors =
    elim (position (λ a. a == pick) actors) [
      | Some index ↦ record { index = index; order = listed picks }
      | None ↦ listed_pick picks actors
    ]

-- the pick of a schedule among the enabled actors, which are in rising order and at least one; a drawn pick is the
-- next word of the generator, modulo their number
unfoldable pub picked : Order → List ℕ → Picked
picked (round cursor) actors = round_pick cursor actors
picked (drawn g) actors =
    let word = pcg32 g in record { index = word.0 % length actors; order = drawn word.1 }
picked (listed picks) actors = listed_pick picks actors
