use Rattle.std.specs.Prelude.{◌≡◌, ◌≤◌, ℕ, suc, ◌+◌, All, Option, List, [], ◌∷◌, ◌++◌, is_some, length, map}
use Rattle.explore_defs.specs.Explored.{explored_line, explored_status, outcome_line}
use Rattle.explore_laws.specs.Held.{AreFirstHeld, AreHeldLevels, AreJoined, AreRowsOf, Held, IsFilled, all_levels}
use Rattle.explore_laws.specs.Held.{held_numbers}
use Rattle.nook_data.specs.Types.{MemberRow, Scenario}
use Rattle.order_search.specs.Ends.{CoverEnds}
use Rattle.order_search.specs.Ways.{Made}
use Rattle.order_search.specs.declared.ends.FirstEnd.{FirstEnd}
use Rattle.order_search.specs.declared.rows.Explored.{Explored}
use Rattle.order_search.specs.declared.rows.OutcomeRow.{OutcomeRow}

-- What a search finds, and how far it has come.

-- the row of a state that has ended
abbrev pub row_from : Held → OutcomeRow
row_from h = record { picks = h.picks; numbers = held_numbers h }

-- the row of a stored end
abbrev pub row_of_end : FirstEnd → OutcomeRow
row_of_end end = record { picks = end.picks; numbers = end.numbers }

-- the levels from the first one on, the number of states in all of them, and the first end of each outcome
pub record IsFound (first : Held) (found : Explored) : Type 0 where
  pub cut : Option (List ℕ)
  pub levels : List (List Held)
  pub firsts : List Held
  pub are_levels : AreHeldLevels cut (first ∷ []) levels
  pub are_firsts : AreFirstHeld cut (all_levels ((first ∷ []) ∷ levels)) firsts
  pub filled : IsFilled cut (all_levels ((first ∷ []) ∷ levels))
  pub states : found.states ≡ length (all_levels ((first ∷ []) ∷ levels))
  pub is_cut : found.is_cut ≡ is_some cut
  pub rows : found.rows ≡ map row_from firsts

-- the rows are the rows of a scenario
pub record HasRows (scenario : Scenario) (found : Explored) : Type 0 where
  pub cut : Option (List ℕ)
  pub firsts : List Held
  pub are_rows : AreRowsOf scenario cut firsts
  pub is_cut : found.is_cut ≡ is_some cut
  pub rows : found.rows ≡ map row_from firsts

-- level by level, up to the last one
unfoldable pub AreLevelsTo : Option (List ℕ) → List Held → List (List Held) → List Held → Type 0
AreLevelsTo cut held [] last = held ≡ last
AreLevelsTo cut held (next ∷ levels) last = AreJoined cut held next × AreLevelsTo cut next levels last

-- a search that has reached a level, and has seen the ends of all levels before it
pub record IsAt (first : Held) (m : Made) (firsts : List FirstEnd) : Type 0 where
  pub cut : Option (List ℕ)
  pub levels : List (List Held)
  pub before : List Held
  pub steps : ℕ
  pub is_cut : m.is_cut ≡ is_some cut
  pub are_levels : AreLevelsTo cut (first ∷ []) levels m.level
  pub all : all_levels ((first ∷ []) ∷ levels) ≡ before ++ m.level
  pub count : m.states ≡ length (before ++ m.level)
  pub filled : IsFilled cut (before ++ m.level)
  pub long : All (λ (h : Held). length h.picks ≡ steps) m.level
  pub short : All (λ (h : Held). length h.picks ≤ steps) before
  pub ends : CoverEnds before firsts

-- a search continues by one level, and stores that level's states in addition
pub record GoesOn (old new : Made) (before after : List FirstEnd) : Type 0 where
  pub at : (first : Held) → IsAt first old before → IsAt first new after
  pub grown : (first : Held) → IsAt first old before → new.states ≡ old.states + length new.level

-- ---- the text

-- the rows, the first of them with this number
abbrev pub row_lines : ℕ → List OutcomeRow → List ℕ
row_lines number [] = []
row_lines number (row ∷ rows) = outcome_line number row.numbers row.picks ++ row_lines (suc number) rows

-- the numbers of a row
abbrev pub numbers_in_row : OutcomeRow → MemberRow
numbers_in_row row = row.numbers

-- the rows and the line that counts them
abbrev pub found_text : Explored → List ℕ
found_text found = row_lines 1 found.rows
    ++ explored_line found.is_cut found.states (map numbers_in_row found.rows)

-- their status
abbrev pub found_status : Explored → ℕ
found_status found = explored_status found.is_cut (map numbers_in_row found.rows)
