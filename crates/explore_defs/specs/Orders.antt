use Rattle.std.specs.Prelude.{◌≡◌, ℕ, ◌==◌, ◌&&◌, ◌||◌, nat_lt, Bool, false, Option, Some, None, List, [], ◌∷◌, ◌++◌}
use Rattle.std.specs.Prelude.{find, length, map, slice_get}
use Rattle.nook_data.specs.Types.{Scenario, ScheduleSpec}
use Rattle.run_defs.specs.Simulation.{Choice, Simulation, begins, choices_of, stepped_by}

-- Every order in which the steps of a scenario may occur, whatever its schedule.

-- a scenario with another schedule
abbrev pub with_schedule : Scenario → ScheduleSpec → Scenario
with_schedule scenario schedule = record scenario { schedule = schedule }

-- a simulation after one choice
abbrev pub follows : Simulation → Choice → Simulation
follows s c = stepped_by s s.order c (slice_get s.parts c.part)

-- the choice of an actor, if it has one
abbrev pub choice_of_actor : ℕ → Simulation → Option Choice
choice_of_actor actor s = find (λ c. c.actor == actor) (choices_of s)

-- a simulation after steps of these actors, in this order; None if one of them has no step
unfoldable pub led : Simulation → List ℕ → Option Simulation
led s [] = Some s
led s (actor ∷ actors) = elim (choice_of_actor actor s) [ None ↦ None | Some c ↦ led (follows s c) actors ]

-- a run of a scenario in some order: the actors of its steps, and the simulation after them
pub record Path : Type 0 where
  pub picks : List ℕ
  pub end : Simulation

-- a run of this many steps, in some order
pub record IsOfLevel (scenario : Scenario) (steps : ℕ) (path : Path) : Type 0 where
  pub led : led (begins scenario) path.picks ≡ Some path.end
  pub count : length path.picks ≡ steps

-- a run in some order, until no actor has a step
pub record IsWholePath (scenario : Scenario) (path : Path) : Type 0 where
  pub led : led (begins scenario) path.picks ≡ Some path.end
  pub ended : choices_of path.end ≡ []

-- a run after one more step
abbrev pub goes_on : Path → Choice → Path
goes_on path c = record { picks = path.picks ++ c.actor ∷ []; end = follows path.end c }

-- a run after each possible next step
abbrev pub ways_on : Path → List Path
ways_on path = map (goes_on path) (choices_of path.end)

-- ---- the order of picks

-- of two lists of equal length, the first is lower: it has the smaller number at their first difference
unfoldable pub is_lower : List ℕ → List ℕ → Bool
is_lower [] ys = false
is_lower (x ∷ xs) [] = false
is_lower (x ∷ xs) (y ∷ ys) = nat_lt x y || (x == y && is_lower xs ys)

-- a shorter list comes first; of two lists of equal length, the lower one does
abbrev pub comes_before : List ℕ → List ℕ → Bool
comes_before xs ys = nat_lt (length xs) (length ys) || (length xs == length ys && is_lower xs ys)

-- the picks are not past a `cut`
abbrev pub IsWithin : Option (List ℕ) → List ℕ → Type 0
IsWithin None picks = Unit {0}
IsWithin (Some last) picks = comes_before last picks ≡ false
