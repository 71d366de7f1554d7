-- The runs that a report can be of: in each journal the invocations are the scripts' and the arrivals the scenario's.
use Rattle.std.specs.Prelude.{◌≡◌, ℕ, suc, true, Some, List, [], ◌∷◌, ◌++◌}
use Rattle.report_defs.specs.ReportText.{parts_text}
use Rattle.part_defs.specs.Runs.{event_of, step_of}
use Rattle.part_defs.specs.Steps.{enabled}
use Rattle.nook_data.specs.declared.steps.Event.{Event}
use Rattle.nook_data.specs.declared.scenario.PartSpec.{PartSpec}
use Rattle.nook_data.specs.declared.scenario.Scenario.{Scenario}
use Rattle.nook_data.specs.declared.steps.Step.{Step}
use Rattle.nook_data.specs.declared.steps.Step.TheVariants as step
use Rattle.nook_data.specs.declared.scenario.ThreadSpec.{ThreadSpec}
use Rattle.std.specs.Prelude.{slice_get}
use Rattle.run_laws.specs.Audit.{Done, Section, arrival_of, done_of, invocation_by, is_complete, last_lines}
use Rattle.run_laws.specs.Audit.{opening_section, section_after}

-- an invocation is that of the thread's next operation on the part, and an arrival that of the next frame
abbrev pub IsNext : Section → Step → Type 0
IsNext s (step.Invoke thread o) = invocation_by thread (slice_get s.threads thread) ≡ Some (step.Invoke thread o)
IsNext s (step.Arrive frame) = arrival_of s.seat.coming ≡ Some (step.Arrive frame)
IsNext s taken = Unit {0}

-- the section that the events lead to
abbrev pub section_from : Section → List Event → Section
section_from s [] = s
section_from s (e ∷ events) = section_from (section_after s (step_of e)) events

-- each event is made by its step, which may be taken and is the next of its kind
unfoldable pub FitsFrom : Section → List Event → Type 0
FitsFrom s [] = is_complete s ≡ true
FitsFrom s (e ∷ events) =
    (enabled s.seat.run.state (step_of e) ≡ true) × (event_of s.seat.run.state (step_of e) ≡ e)
    × IsNext s (step_of e) × FitsFrom (section_after s (step_of e)) events

-- the journal of the part with an index is a run of exactly what the threads ask of it and what arrives
abbrev pub Fits : List ThreadSpec → ℕ → PartSpec → List Event → Type 0
Fits threads index spec journal = FitsFrom (opening_section threads index spec) journal

-- each journal is such a run, from that of part `index` on
unfoldable pub AllFit : List ThreadSpec → ℕ → List PartSpec → List (List Event) → Type 0
AllFit threads index [] [] = Unit {0}
AllFit threads index [] (journal ∷ journals) = ⊥
AllFit threads index (spec ∷ specs) [] = ⊥
AllFit threads index (spec ∷ specs) (journal ∷ journals) =
    Fits threads index spec journal × AllFit threads (suc index) specs journals

-- what the sections of these journals leave, from that of part `index` on
unfoldable pub sections_of : List ThreadSpec → ℕ → List PartSpec → List (List Event) → List Done
sections_of threads index [] journals = []
sections_of threads index (spec ∷ specs) [] = []
sections_of threads index (spec ∷ specs) (journal ∷ journals) =
    done_of (section_from (opening_section threads index spec) journal) ∷ sections_of threads (suc index) specs journals

-- the report of journals that fit: the parts' lines, and those after them
unfoldable pub fitting_text : Scenario → List (List Event) → List ℕ
fitting_text scenario journals = parts_text 0 scenario.parts journals
    ++ last_lines scenario (sections_of scenario.threads 0 scenario.parts journals)
