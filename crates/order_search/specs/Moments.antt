use Rattle.std.specs.Prelude.{◌≡◌, ℕ, Some, List, [], map, slice_get}
use Rattle.explore_laws.specs.Held.{Held, choices_in}
use Rattle.explore_laws.specs.Present.{Present, goes_on_by}
use Rattle.run_defs.specs.Simulation.{Choice, actor_of}
use Rattle.order_search.specs.declared.states.HeldState.{HeldState}

-- What a simulation in progress says of its present.

-- the actors that have a step
abbrev pub actors_in : Present → List ℕ
actors_in now = map actor_of (choices_in now)

-- the present one step later, by the choice with this index
pub record IsAfter (now : Present) (index : ℕ) (next : Present) : Type 0 where
  pub by : (c : Choice) → slice_get (choices_in now) index ≡ Some c → next ≡ goes_on_by now c

-- what a state represents, by the present of its simulation
abbrev pub held_as : {M : Type 0} → (M → Present) → HeldState M → Held
held_as now s = record { picks = s.picks; now = now s.moment }

-- before any step
abbrev pub held_at_first : Present → Held
held_at_first now = record { picks = []; now = now }
