use Rattle.std.specs.Prelude.{◌≡◌, ◌≤◌, ◌++◌, ℕ, suc, Bool, false, true, All, Contains, IfSome, Option, Some, None, List, [], ◌∷◌, flat_map}
use Rattle.std.specs.Prelude.{length, map}
use Rattle.explore_defs.specs.Explored.{AreOutcomes, all_numbers, explored_line, explored_status, outcome_line}
use Rattle.explore_defs.specs.Explored.{outcome_lines}
use Rattle.explore_defs.specs.Orders.{IsWithin, Path, comes_before}
use Rattle.explore_defs.specs.declared.outcome.Outcome.{Outcome}
use Rattle.explore_defs.specs.declared.TheConstants.{MOST_STATES}
use Rattle.explore_laws.specs.Present.{Present, bare_run, goes_on_by, numbers_in, outcome_in, present}
use Rattle.nook_data.specs.Types.{MemberRow, Scenario}
use Rattle.run_defs.specs.Simulation.{Choice, begins, choices_of}

-- A worklist as a program stores it: for each run the actors of its steps and its present, and nothing else.

pub record Held : Type 0 where
  pub picks : List ℕ
  pub now : Present

-- what may be taken, by the present
abbrev pub choices_in : Present → List Choice
choices_in now = choices_of (bare_run now)

-- after one more step
abbrev pub held_after : Held → Choice → Held
held_after h c = record { picks = h.picks ++ c.actor ∷ []; now = goes_on_by h.now c }

-- after each possible next step
abbrev pub ways_from : Held → List Held
ways_from h = map (held_after h) (choices_in h.now)

-- what is stored at first
abbrev pub held_first : Scenario → Held
held_first scenario = record { picks = []; now = present (begins scenario) }

-- one of these has the same present as another, and picks that are not later
pub record IsCoveredAmong (held : List Held) (h : Held) : Type 0 where
  pub by : Held
  pub is_held : Contains held by
  pub alike : by.now ≡ h.now
  pub early : comes_before h.picks by.picks ≡ false

-- a state one step after one of these
pub record IsWayFrom (held : List Held) (h : Held) : Type 0 where
  pub from : Held
  pub is_held : Contains held from
  pub is_way : Contains (ways_from from) h

-- some of the states one step after these, at least one for each present
pub record AreJoined (cut : Option (List ℕ)) (held next : List Held) : Type 0 where
  pub ways : All (IsWayFrom held) next
  pub each : (h : Held) → IsWayFrom held h → IsWithin cut h.picks → IsCoveredAmong next h

-- level by level, until no state can be continued
unfoldable pub AreHeldLevels : Option (List ℕ) → List Held → List (List Held) → Type 0
AreHeldLevels cut held [] = (h : Held) → IsWayFrom held h → IsWithin cut h.picks → ⊥
AreHeldLevels cut held (next ∷ levels) = AreJoined cut held next × AreHeldLevels cut next levels

-- all levels in one list
abbrev pub all_levels : List (List Held) → List Held
all_levels levels = flat_map (λ level. level) levels

-- their picks rise
unfoldable pub DoRise : List Held → Type 0
DoRise [] = Unit {0}
DoRise (h ∷ helds) = All (λ (next : Held). comes_before h.picks next.picks ≡ true) helds × DoRise helds

-- one of these has the outcome
pub record HasHeldOutcome (firsts : List Held) (outcome : Outcome) : Type 0 where
  pub first : Held
  pub listed : Contains firsts first
  pub same : outcome_in first.now ≡ outcome

-- of the stored states that have ended, the first of each outcome
pub record AreFirstHeld (cut : Option (List ℕ)) (held firsts : List Held) : Type 0 where
  pub is_held : All (Contains held) firsts
  pub ended : All (λ (h : Held). choices_in h.now ≡ []) firsts
  pub within : All (λ (h : Held). IsWithin cut h.picks) firsts
  pub least : (first h : Held) → Contains firsts first → Contains held h → choices_in h.now ≡ []
      → outcome_in h.now ≡ outcome_in first.now → comes_before h.picks first.picks ≡ false
  pub each : (h : Held) → Contains held h → choices_in h.now ≡ [] → IsWithin cut h.picks
      → HasHeldOutcome firsts (outcome_in h.now)
  pub rising : DoRise firsts

-- the picks of the last of these
unfoldable pub last_held : List Held → Option (List ℕ)
last_held [] = None
last_held (h ∷ []) = Some h.picks
last_held (h ∷ next ∷ helds) = last_held (next ∷ helds)

-- no more states are stored than allowed, in the order of picks; if there is a limit, it is the picks of the last one
pub record IsFilled (cut : Option (List ℕ)) (held : List Held) : Type 0 where
  pub rising : DoRise held
  pub few : length held ≤ MOST_STATES
  pub full : IfSome cut (λ last. (length held ≡ MOST_STATES) × (last_held held ≡ Some last))

-- the numbers of a row
abbrev pub held_numbers : Held → MemberRow
held_numbers h = numbers_in (length h.picks) h.now

-- the rows, the first of them with this number
abbrev pub held_lines : ℕ → List Held → List ℕ
held_lines index [] = []
held_lines index (h ∷ firsts) = outcome_line index (held_numbers h) h.picks ++ held_lines (suc index) firsts

-- these are the rows of the scenario: the runs of these picks are the first of their outcomes, and have these lines and
-- numbers
pub record AreRowsOf (scenario : Scenario) (cut : Option (List ℕ)) (firsts : List Held) : Type 0 where
  pub paths : List Path
  pub outcomes : AreOutcomes scenario cut paths
  pub lines : outcome_lines 1 scenario paths ≡ held_lines 1 firsts
  pub numbers : all_numbers scenario paths ≡ map held_numbers firsts

-- the rows and the line that counts them
abbrev pub held_text : Bool → ℕ → List Held → List ℕ
held_text is_cut states firsts = held_lines 1 firsts ++ explored_line is_cut states (map held_numbers firsts)

-- the status of these rows
abbrev pub held_status : Bool → List Held → ℕ
held_status is_cut firsts = explored_status is_cut (map held_numbers firsts)
