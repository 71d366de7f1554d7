-- What an audit finds in a report of several parts: a line that does not fit, or an event that no order of steps reaches.
use Rattle.std.specs.Prelude.{◌≡◌, ℕ, suc, ◌+◌, ◌-◌, ◌==◌, Option, Some, None, List, [], ◌∷◌, count_by, length}
use Rattle.nook_data.specs.declared.scenario.PartSpec.{PartSpec}
use Rattle.nook_data.specs.declared.scenario.Scenario.{Scenario}
use Rattle.nook_data.specs.declared.steps.Event.{Event}
use Rattle.order_defs.specs.Taking.{IsStuck, Leads, Taking, opening_taking}
use Rattle.report_defs.specs.ReportText.{part_text}
use Rattle.run_laws.specs.Audit.{audited}
use Rattle.run_laws.specs.Fitting.{AllFit, fitting_text}

-- how many lines a text has
abbrev pub lines_in : List ℕ → ℕ
lines_in text = count_by (λ b. b == 10) text

-- The line number of the first event left, in the order of the report; none if no event is left. The section of part
-- `part`, the first of these, begins in line `line`, and its event number 1 is in the next line.
abbrev pub first_left : ℕ → ℕ → List PartSpec → List (List Event) → List (List Event) → Option ℕ
first_left line part (spec ∷ specs) (journal ∷ journals) ([] ∷ left) =
    first_left (line + lines_in (part_text part spec journal)) (suc part) specs journals left
first_left line part (spec ∷ specs) (journal ∷ journals) ((event ∷ events) ∷ left) =
    Some (line + suc (length journal - length (event ∷ events)))
first_left line part _ _ _ = None

-- Events are taken in any order as long as one may be taken: this is the line of the first event left then. By a law it
-- is the same for every order.
pub record IsOutOfOrder (scenario : Scenario) (journals : List (List Event)) (line : Option ℕ) : Type 0 where
  pub order : List ℕ
  pub end : Taking
  pub leads : Leads (opening_taking scenario.threads journals) order end
  pub stuck : IsStuck end
  pub line_is : line ≡ first_left 1 0 scenario.parts journals end.left

-- the report is that of these journals, each of which fits the scenario by itself, and this is the line of the first
-- event that no order of steps reaches
pub record FitsByParts (scenario : Scenario) (report : List ℕ) (line : Option ℕ) : Type 0 where
  pub journals : List (List Event)
  pub fit : AllFit scenario.threads 0 scenario.parts journals
  pub text_is : report ≡ fitting_text scenario journals
  pub out_of_order : IsOutOfOrder scenario journals line

-- given the first line that does not fit by itself, the line that an audit names
abbrev pub FindsAfter : Scenario → List ℕ → Option ℕ → Option ℕ → Type 0
FindsAfter scenario report (Some number) line = line ≡ Some number
FindsAfter scenario report None line = FitsByParts scenario report line

-- The number of the first line of a report that does not fit the scenario, from 1; if each line fits by itself, that of
-- the first event that no order of steps reaches; none if there is no such event either.
abbrev pub Finds : Scenario → List ℕ → Option ℕ → Type 0
Finds scenario report line = FindsAfter scenario report (audited scenario report) line
