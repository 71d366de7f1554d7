use Rattle.std.specs.Prelude.{ℕ, List, [], ◌∷◌, Option, Some, None, option_map}
use Rattle.nook_data.specs.Types.{Event, PartSpec}
use Rattle.nook_data.specs.Views.Room.{Kept}
use Rattle.report_text.specs.Whole.{left_rows}
use Rattle.run_results.specs.declared.report.PartEnd.{PartEnd}
use Rattle.run_results.specs.declared.report.PartReport.{PartReport}

-- the final state of each part, by the rows of a report
abbrev pub left_parts : List PartSpec → List (Kept Event) → List PartReport → List PartEnd → List (List ℕ)
left_parts [] journals parts ends = []
left_parts (spec ∷ specs) [] parts ends = []
left_parts (spec ∷ specs) (journal ∷ journals) [] ends = []
left_parts (spec ∷ specs) (journal ∷ journals) (part ∷ parts) [] = []
left_parts (spec ∷ specs) (journal ∷ journals) (part ∷ parts) (end ∷ ends) =
    left_rows spec.class journal.list part.losses end ∷ left_parts specs journals parts ends

-- the number of the clause that a part broke first, if the part exists
abbrev pub clause_in : Option PartReport → Option ℕ
clause_in (Some part) = option_map (λ b. b.clause) part.first_break
clause_in None = None
