-- The journals of a whole run.
use Rattle.std.specs.Prelude.{ℕ, List, [], ◌∷◌}
use Rattle.nook_data.specs.declared.steps.Event.{Event}
use Rattle.nook_data.specs.declared.scenario.PartSpec.{PartSpec}
use Rattle.nook_data.specs.Views.Room.{Kept}
use Rattle.part_defs.specs.Runs.{IsRun}

abbrev pub events_in : Kept Event → List Event
events_in journal = journal.list

-- there is one journal for each spec, and it is a run of that spec
abbrev pub AreRuns : List PartSpec → List (List Event) → Type 0
AreRuns [] [] = Unit {0}
AreRuns [] (journal ∷ journals) = ⊥
AreRuns (spec ∷ specs) [] = ⊥
AreRuns (spec ∷ specs) (journal ∷ journals) = IsRun spec journal × AreRuns specs journals

-- the events of a journal, with their part
abbrev pub with_part : ℕ → List Event → List (ℕ × Event)
with_part part [] = []
with_part part (e ∷ events) = (part, e) ∷ with_part part events
