-- What is found answers the scenario.
use Rattle.std.proofs.Common.{◌≡◌, ℕ, suc, Bool, List, [], ◌∷◌, ◌++◌, is_some, length, map, refl, sym, ap, ap₂, ◌∙◌}
use Rattle.std.proofs.Common.{subst}
use Rattle.explore_defs.specs.Explored.{IsExplored, explored_line, explored_status, outcome_line}
use Rattle.explore_laws.proofs.HeldRuns.{held_answer, held_rows}
use Rattle.explore_laws.specs.Held.{Held, all_levels, held_first, held_lines, held_numbers, held_status, held_text}
use Rattle.nook_data.specs.Types.{MemberRow, Scenario}
use Rattle.order_search.specs.Found.{HasRows, IsFound, found_status, found_text, numbers_in_row, row_from, row_lines}
use Rattle.order_search.specs.declared.rows.Explored.{Explored}
use Rattle.order_search.specs.declared.rows.OutcomeRow.{OutcomeRow}

pub found_rows : (scenario : Scenario) (found : Explored) → IsFound (held_first scenario) found → HasRows scenario found
found_rows scenario found f = record {
  cut = f.cut;
  firsts = f.firsts;
  are_rows = held_rows scenario f.cut f.levels f.firsts f.are_levels f.are_firsts;
  is_cut = f.is_cut;
  rows = f.rows;
}

same_lines : (number : ℕ) (firsts : List Held) → held_lines number firsts ≡ row_lines number (map row_from firsts)
same_lines number [] = refl
same_lines number (h ∷ firsts) =
    ap (λ xs. outcome_line number (held_numbers h) h.picks ++ xs) (same_lines (suc number) firsts)

same_numbers : (firsts : List Held) → map held_numbers firsts ≡ map numbers_in_row (map row_from firsts)
same_numbers [] = refl
same_numbers (h ∷ firsts) = ap (λ rows. held_numbers h ∷ rows) (same_numbers firsts)

-- the text of these rows
abbrev text_as : Bool → ℕ → List OutcomeRow → List ℕ
text_as is_cut states rows = row_lines 1 rows ++ explored_line is_cut states (map numbers_in_row rows)

-- their status
abbrev status_as : Bool → List OutcomeRow → ℕ
status_as is_cut rows = explored_status is_cut (map numbers_in_row rows)

same_text : (is_cut : Bool) (states : ℕ) (firsts : List Held)
    → held_text is_cut states firsts ≡ text_as is_cut states (map row_from firsts)
same_text is_cut states firsts =
    ap₂ (λ (lines : List ℕ) (rows : List MemberRow). lines ++ explored_line is_cut states rows) (same_lines 1 firsts)
    (same_numbers firsts)

same_answer : (scenario : Scenario) (text other : List ℕ) (status number : ℕ) → text ≡ other → status ≡ number
    → IsExplored scenario text status → IsExplored scenario other number
same_answer scenario text other status number p q h =
    subst (λ (n : ℕ). IsExplored scenario other n) q (subst (λ (xs : List ℕ). IsExplored scenario xs status) p h)

pub found_answer : (scenario : Scenario) (found : Explored) → IsFound (held_first scenario) found
    → IsExplored scenario (found_text found) (found_status found)
found_answer scenario found f =
    let held : List Held = all_levels ((held_first scenario ∷ []) ∷ f.levels) in
    same_answer scenario (held_text (is_some f.cut) (length held) f.firsts) (found_text found)
    (held_status (is_some f.cut) f.firsts) (found_status found)
    (same_text (is_some f.cut) (length held) f.firsts
    ∙ ap (λ is_cut. text_as is_cut (length held) (map row_from f.firsts)) (sym f.is_cut)
    ∙ ap (λ states. text_as found.is_cut states (map row_from f.firsts)) (sym f.states)
    ∙ ap (text_as found.is_cut found.states) (sym f.rows))
    (ap (explored_status (is_some f.cut)) (same_numbers f.firsts)
    ∙ ap (λ is_cut. status_as is_cut (map row_from f.firsts)) (sym f.is_cut) ∙ ap (status_as found.is_cut) (sym f.rows))
    (held_answer scenario f.cut f.levels f.firsts f.are_levels f.are_firsts f.filled)
