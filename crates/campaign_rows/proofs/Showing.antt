-- The texts of a report are those of the run.
use Rattle.std.proofs.Common.{◌≡◌, ◌∙◌, refl, sym, ap, ap₂, ℕ, List, [], ◌∷◌, map}
use Rattle.campaign_defs.specs.Members.{Ran}
use Rattle.campaign_defs.specs.Rows.{answer_texts, left_texts}
use Rattle.campaign_rows.specs.Reported.{left_parts}
use Rattle.campaign_rows.specs.Shown.{IsShown, Shows}
use Rattle.nook_data.specs.Views.Room.{Kept}
use Rattle.nook_data.specs.declared.scenario.PartSpec.{PartSpec}
use Rattle.nook_data.specs.declared.scenario.Scenario.{Scenario}
use Rattle.nook_data.specs.declared.steps.Event.{Event}
use Rattle.part_defs.specs.Runs.{state_of}
use Rattle.promise_defs.specs.Losses.{losses}
use Rattle.report_text.proofs.WholeLemmas.{left_same}
use Rattle.run_results.specs.Reports.{HaveEnds, summaries}
use Rattle.run_results.specs.declared.report.PartEnd.{PartEnd}
use Rattle.run_results.specs.declared.report.Report.{Report}
use Rattle.run_results.specs.Journals.{events_in}

left_is : (specs : List PartSpec) (journals : List (Kept Event)) (ends : List PartEnd) → HaveEnds specs journals ends
    → left_parts specs journals (summaries specs journals ends) ends ≡ left_texts specs (map events_in journals)
left_is [] journals ends h = refl
left_is (s ∷ specs) [] ends h = refl
left_is (s ∷ specs) (journal ∷ journals) [] h = absurd h
left_is (s ∷ specs) (journal ∷ journals) (e ∷ ends) h =
    ap₂ (λ text more. text ∷ more)
    (left_same s s.class journal.list (losses journal.list) (state_of s journal.list) e h.0) (left_is specs journals ends h.1)

pub is_shown : (ran : Ran) (scenario : Scenario) (report : Report) (answers left : List (List ℕ)) → Shows ran scenario report
    → answers ≡ answer_texts report.run.answers → left ≡ left_parts scenario.parts report.run.journals report.parts report.ends
    → IsShown ran (record { answers = answers; left = left })
is_shown ran scenario report answers left shows ha hl = record {
  answers = ha ∙ ap answer_texts shows.answers;
  left =
      hl ∙ (ap (λ parts. left_parts scenario.parts report.run.journals parts report.ends) shows.whole.parts
      ∙ (left_is scenario.parts report.run.journals report.ends shows.whole.ends
      ∙ (ap (λ (s : Scenario). left_texts s.parts (map events_in report.run.journals)) (sym shows.scenario_is)
      ∙ ap (left_texts ran.scenario.parts) shows.journals)));
}
