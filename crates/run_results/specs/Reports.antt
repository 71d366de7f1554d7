-- What a run leaves: the final states of its parts, and the summary of each.
use Rattle.std.specs.Prelude.{◌≡◌, ℕ, zero, suc, ◌+◌, Bool, false, is_some, nat_lt, ◌||◌, if◌then◌else◌, List, [], ◌∷◌}
use Rattle.std.specs.Prelude.{map}
use Rattle.nook_data.specs.declared.steps.Event.{Event}
use Rattle.nook_data.specs.declared.scenario.PartSpec.{PartSpec}
use Rattle.nook_data.specs.declared.scenario.Scenario.{Scenario}
use Rattle.promise_defs.specs.Contract.{first_break}
use Rattle.machine_defs.specs.Devices.{medium_of}
use Rattle.promise_defs.specs.Losses.{losses}
use Rattle.machine_defs.specs.Pages.{object_words}
use Rattle.report_defs.specs.ReportText.{status_of}
use Rattle.nook_data.specs.Views.Room.{Kept}
use Rattle.part_defs.specs.Runs.{state_of}
use Rattle.part_defs.specs.State.{PartState}
use Rattle.run_results.specs.declared.report.PartEnd.{PartEnd}
use Rattle.run_results.specs.declared.report.PartReport.{PartReport}
use Rattle.run_results.specs.declared.report.Report.{Report}

-- ---- the final state of a part

-- the words of a number of consecutive kernel objects
abbrev pub objects_from : ℕ → ℕ → List ℕ → List (List ℕ)
objects_from object zero memory = []
objects_from object (suc more) memory = object_words object memory ∷ objects_from (suc object) more memory

-- the kernel objects 1 to 12, the medium, the record and the failures of a part of this spec
pub record ShowsState (s : PartSpec) (p : PartState) (e : PartEnd) : Type 0 where
  pub objects : e.objects ≡ objects_from 1 12 p.domain.memory
  pub medium : e.medium ≡ medium_of p.domain.device
  pub config : e.config ≡ p.log.config
  pub failures : e.failures ≡ p.failures
  pub limit : p.spec.limit ≡ s.limit

abbrev pub list_of : Kept Event → List Event
list_of journal = journal.list

abbrev pub lists_of : List (Kept Event) → List (List Event)
lists_of journals = map list_of journals

-- each part ends in the state that its journal leads to
abbrev pub HaveEnds : List PartSpec → List (Kept Event) → List PartEnd → Type 0
HaveEnds [] journals ends = Unit {0}
HaveEnds (s ∷ specs) [] ends = Unit {0}
HaveEnds (s ∷ specs) (journal ∷ journals) [] = ⊥
HaveEnds (s ∷ specs) (journal ∷ journals) (e ∷ ends) =
    ShowsState s (state_of s journal.list) e × HaveEnds specs journals ends

-- ---- summaries

abbrev pub summary : PartSpec → List Event → PartEnd → PartReport
summary s events e = record
    { losses = losses events; first_break = first_break s.class s.blocks events; failures = e.failures }

abbrev pub summaries : List PartSpec → List (Kept Event) → List PartEnd → List PartReport
summaries [] journals ends = []
summaries (s ∷ specs) [] ends = []
summaries (s ∷ specs) (journal ∷ journals) [] = []
summaries (s ∷ specs) (journal ∷ journals) (e ∷ ends) = summary s journal.list e ∷ summaries specs journals ends

-- some part broke its contract
abbrev pub is_broken : List PartReport → Bool
is_broken [] = false
is_broken (r ∷ reports) = is_some r.first_break || is_broken reports

-- some part was given up
abbrev pub is_gone : List PartSpec → List PartReport → Bool
is_gone [] reports = false
is_gone (s ∷ specs) [] = false
is_gone (s ∷ specs) (r ∷ reports) = nat_lt s.limit r.failures || is_gone specs reports

abbrev pub status_in : List PartSpec → List PartReport → ℕ
status_in specs reports = if is_broken reports then 7 else if is_gone specs reports then 1 else 0

-- the failures of some parts
abbrev pub failures_in : List PartReport → ℕ
failures_in [] = 0
failures_in (part ∷ parts) = part.failures + failures_in parts

-- the report of a scenario's run, if its parts end as the report says
pub record IsReport (scenario : Scenario) (r : Report) : Type 0 where
  pub ends : HaveEnds scenario.parts r.run.journals r.ends
  pub parts : r.parts ≡ summaries scenario.parts r.run.journals r.ends
  pub status : r.status ≡ status_of scenario.parts (lists_of r.run.journals)
