-- The row of a report is the row of the run.
use Rattle.std.proofs.Common.{◌≡◌, ◌∙◌, refl, ap, ℕ, List, [], ◌∷◌, map}
use Rattle.run_results.specs.Sums.{lost_in}
use Rattle.report_defs.specs.Campaigns.{gone_count, lost_count, row_of}
use Rattle.run_defs.specs.Simulation.{events_count}
use Rattle.report_defs.specs.ReportText.{failures_count, status_of}
use Rattle.nook_data.specs.Views.Room.{Kept}
use Rattle.nook_data.specs.declared.steps.Event.{Event}
use Rattle.nook_data.specs.declared.campaign.MemberRow.{MemberRow}
use Rattle.nook_data.specs.declared.scenario.PartSpec.{PartSpec}
use Rattle.nook_data.specs.declared.scenario.Scenario.{Scenario}
use Rattle.run_results.specs.Reports.{HaveEnds, IsReport, failures_in, summaries}
use Rattle.run_results.proofs.ResultLemmas.{same_failures}
use Rattle.run_results.specs.declared.report.PartEnd.{PartEnd}
use Rattle.run_results.specs.declared.report.Report.{Report}
use Rattle.run_results.specs.Journals.{AreRuns, events_in}

-- there is one journal for each part, so no journal's losses are left out
pub same_losses : (specs : List PartSpec) (journals : List (Kept Event)) (ends : List PartEnd) → HaveEnds specs journals ends
    → AreRuns specs (map events_in journals) → lost_in (summaries specs journals ends) ≡ lost_count (map events_in journals)
same_losses [] [] ends h runs = refl
same_losses [] (journal ∷ journals) ends h runs = absurd runs
same_losses (s ∷ specs) [] ends h runs = absurd runs
same_losses (s ∷ specs) (journal ∷ journals) [] h runs = absurd h
same_losses (s ∷ specs) (journal ∷ journals) (e ∷ ends) h runs = rw (same_losses specs journals ends h.1 runs.1) refl

abbrev pub row_with : ℕ → ℕ → ℕ → ℕ → ℕ → MemberRow
row_with status events failures gone lost = record { status = status; events = events; failures = failures; gone = gone; lost = lost }

pub row_is : (scenario : Scenario) (report : Report) (events failures gone lost : ℕ) → events ≡ events_count (map events_in report.run.journals)
    → failures ≡ failures_in report.parts → gone ≡ gone_count report.run.answers → lost ≡ lost_in report.parts
    → IsReport scenario report → AreRuns scenario.parts (map events_in report.run.journals)
    → row_with report.status events failures gone lost ≡ row_of scenario.parts (map events_in report.run.journals) report.run.answers
unfolding row_of
row_is scenario report events failures gone lost he hf hg hl whole runs =
    let status : report.status ≡ status_of scenario.parts (map events_in report.run.journals) = whole.status in
    let fails : failures ≡ failures_count scenario.parts (map events_in report.run.journals) =
    hf ∙ ap failures_in whole.parts ∙ same_failures scenario.parts report.run.journals report.ends whole.ends in
    let losses : lost ≡ lost_count (map events_in report.run.journals) =
    hl ∙ ap lost_in whole.parts ∙ same_losses scenario.parts report.run.journals report.ends whole.ends runs in
    cc
