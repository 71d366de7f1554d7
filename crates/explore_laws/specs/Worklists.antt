use Rattle.std.specs.Prelude.{◌≡◌, ℕ, false, All, Contains, Option, List, [], ◌∷◌}
use Rattle.nook_data.specs.Types.{Scenario}
use Rattle.run_defs.specs.Simulation.{begins, choices_of}
use Rattle.explore_defs.specs.Explored.{AreRising, HasOutcome}
use Rattle.explore_defs.specs.Orders.{IsOfLevel, IsWithin, Path, comes_before, ways_on}
use Rattle.explore_defs.specs.Outcomes.{outcome_of}
use Rattle.explore_laws.specs.Present.{present}

-- Runs of the same length that have the same present continue in the same way, so one of them may represent all. A
-- worklist has such runs, level by level; if there is a limit, none of them is past it.

-- one of these runs has the same present as another, and picks that are not later
pub record IsCoveredIn (held : List Path) (path : Path) : Type 0 where
  pub by : Path
  pub is_held : Contains held by
  pub alike : present by.end ≡ present path.end
  pub early : comes_before path.picks by.picks ≡ false

-- these runs represent all runs with this number of steps
pub record Cover (scenario : Scenario) (cut : Option (List ℕ)) (steps : ℕ) (held : List Path) : Type 0 where
  pub reached : All (IsOfLevel scenario steps) held
  pub each : (path : Path) → IsOfLevel scenario steps path → IsWithin cut path.picks → IsCoveredIn held path

-- a run that continues one of these
pub record IsWayOn (held : List Path) (path : Path) : Type 0 where
  pub from : Path
  pub is_held : Contains held from
  pub is_way : Contains (ways_on from) path

-- some of the runs that continue these, at least one for each present among the continuations
pub record AreMerged (cut : Option (List ℕ)) (held next : List Path) : Type 0 where
  pub ways : All (IsWayOn held) next
  pub each : (path : Path) → IsWayOn held path → IsWithin cut path.picks → IsCoveredIn next path

-- level by level, until no run can be continued
unfoldable pub AreLevels : Option (List ℕ) → List Path → List (List Path) → Type 0
AreLevels cut held [] = (path : Path) → IsWayOn held path → IsWithin cut path.picks → ⊥
AreLevels cut held (next ∷ levels) = AreMerged cut held next × AreLevels cut next levels

-- the run without steps
abbrev pub start : Scenario → Path
start scenario = record { picks = []; end = begins scenario }

-- of the runs in the worklists that have ended, the first of each outcome
pub record AreFirstsOf (cut : Option (List ℕ)) (held firsts : List Path) : Type 0 where
  pub is_held : All (Contains held) firsts
  pub ended : All (λ (path : Path). choices_of path.end ≡ []) firsts
  pub within : All (λ (path : Path). IsWithin cut path.picks) firsts
  pub least : (first path : Path) → Contains firsts first → Contains held path → choices_of path.end ≡ []
      → outcome_of path.end ≡ outcome_of first.end → comes_before path.picks first.picks ≡ false
  pub each : (path : Path) → Contains held path → choices_of path.end ≡ [] → IsWithin cut path.picks
      → HasOutcome firsts (outcome_of path.end)
  pub rising : AreRising firsts
