-- The line of the first event left of several journals.
use Rattle.std.specs.Prelude.{◌≡◌, ℕ, suc, ◌+◌, ◌-◌, Option, Some, None, List, [], ◌∷◌, length}
use Rattle.nook_data.specs.declared.scenario.PartSpec.{PartSpec}
use Rattle.nook_data.specs.declared.scenario.ThreadSpec.{ThreadSpec}
use Rattle.nook_data.specs.declared.steps.Event.{Event}
use Rattle.order_defs.specs.OutOfOrder.{lines_in}
use Rattle.order_defs.specs.Taking.{IsStuck, Leads, Taking, opening_taking}
use Rattle.report_defs.specs.ReportText.{part_text}
use Rattle.journal_audit.specs.PastSections.{Past}

-- The number of the line after each section's events. The section of part `part`, the first of these, begins in line
-- `line`.
abbrev pub event_ends : ℕ → ℕ → List PartSpec → List (List Event) → List ℕ
event_ends line part (spec ∷ specs) (journal ∷ journals) =
    (line + suc (length journal)) ∷ event_ends (line + lines_in (part_text part spec journal)) (suc part) specs journals
event_ends line part _ _ = []

-- the line of the first event left, from the line after each section's events
abbrev pub left_line : List ℕ → List (List Event) → Option ℕ
left_line (end ∷ ends) ([] ∷ left) = left_line ends left
left_line (end ∷ ends) ((event ∷ events) ∷ left) = Some (end - length (event ∷ events))
left_line _ _ = None

-- the events of past sections are taken until none may be taken, and this is the line of the first one left then
pub record FirstLeftIs (threads : List ThreadSpec) (past : Past) (line : Option ℕ) : Type 0 where
  pub order : List ℕ
  pub end : Taking
  pub leads : Leads (opening_taking threads past.journals) order end
  pub stuck : IsStuck end
  pub line_is : line ≡ left_line past.ends end.left
