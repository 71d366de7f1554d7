-- The status, the summaries and the failures of a report are those of its journals.
use Rattle.std.proofs.Common.{◌≡◌, ℕ, ◌≤◌, ◌∷◌, [], List, Bool, false, if◌then◌else◌, is_some, nat_lt, ◌||◌, drop, length, refl, sym, ap, ◌∙◌}
use Rattle.std.proofs.lemmas.List.{drop_all}
use Rattle.nook_data.specs.declared.steps.Event.{Event}
use Rattle.nook_data.specs.declared.scenario.PartSpec.{PartSpec}
use Rattle.nook_data.specs.declared.scenario.Scenario.{Scenario}
use Rattle.promise_defs.specs.Contract.{first_break}
use Rattle.report_defs.specs.ReportText.{failures_count}
use Rattle.report_defs.specs.ReportText.{has_break, has_given_up}
use Rattle.report_defs.specs.ReportText.{status_of}
use Rattle.nook_data.specs.Views.Room.{Kept}
use Rattle.part_defs.specs.Runs.{state_of}
use Rattle.part_defs.specs.Stages.{is_given_up}
use Rattle.part_defs.specs.State.{PartState}
use Rattle.run_results.specs.declared.run.Run.{Run}
use Rattle.run_results.specs.declared.report.PartEnd.{PartEnd}
use Rattle.run_results.specs.declared.report.PartReport.{PartReport}
use Rattle.run_results.specs.Reports.{HaveEnds, IsReport, ShowsState, failures_in, is_broken, is_gone, lists_of, status_in, summaries, summary}

-- ---- the status

broken_same : (specs : List PartSpec) (journals : List (Kept Event)) (ends : List PartEnd) → HaveEnds specs journals ends
    → is_broken (summaries specs journals ends) ≡ has_break specs (lists_of journals)
unfolding has_break
broken_same [] journals ends h = refl
broken_same (s ∷ specs) [] ends h = refl
broken_same (s ∷ specs) (journal ∷ journals) [] h = absurd h
broken_same (s ∷ specs) (journal ∷ journals) (e ∷ ends) h =
    ap (λ b. is_some (first_break s.class s.blocks journal.list) || b) (broken_same specs journals ends h.1)

gone_one : (s : PartSpec) (p : PartState) (e : PartEnd) → ShowsState s p e → nat_lt s.limit e.failures ≡ is_given_up p
gone_one s p e h = ap (λ n. nat_lt n e.failures) (sym h.limit) ∙ ap (λ n. nat_lt p.spec.limit n) h.failures

gone_same : (specs : List PartSpec) (journals : List (Kept Event)) (ends : List PartEnd) → HaveEnds specs journals ends
    → is_gone specs (summaries specs journals ends) ≡ has_given_up specs (lists_of journals)
unfolding has_given_up
gone_same [] journals ends h = refl
gone_same (s ∷ specs) [] ends h = refl
gone_same (s ∷ specs) (journal ∷ journals) [] h = absurd h
gone_same (s ∷ specs) (journal ∷ journals) (e ∷ ends) h =
    ap (λ b. b || is_gone specs (summaries specs journals ends)) (gone_one s (state_of s journal.list) e h.0)
    ∙ ap (λ b. is_given_up (state_of s journal.list) || b) (gone_same specs journals ends h.1)

status_by : Bool → Bool → ℕ
status_by broken gone = if broken then 7 else if gone then 1 else 0

status_same : (specs : List PartSpec) (journals : List (Kept Event)) (ends : List PartEnd) → HaveEnds specs journals ends
    → status_in specs (summaries specs journals ends) ≡ status_of specs (lists_of journals)
unfolding status_by
status_same specs journals ends h =
    ap (λ b. status_by b (is_gone specs (summaries specs journals ends))) (broken_same specs journals ends h)
    ∙ ap (status_by (has_break specs (lists_of journals))) (gone_same specs journals ends h)

-- ---- the whole report

pub is_report : (scenario : Scenario) (run : Run) (ends : List PartEnd) (parts : List PartReport) (status : ℕ)
    → HaveEnds scenario.parts run.journals ends → parts ≡ summaries scenario.parts run.journals ends
    → status ≡ status_in scenario.parts parts
    → IsReport scenario (record { run = run; ends = ends; parts = parts; status = status })
is_report scenario run ends parts status h p s = record {
  ends = h;
  parts = p;
  status = s ∙ (ap (status_in scenario.parts) p ∙ status_same scenario.parts run.journals ends h);
}

-- ---- parts after the last one that has a summary

gone_none : (specs : List PartSpec) → is_gone specs [] ≡ false
gone_none [] = refl
gone_none (s ∷ specs) = refl

pub gone_past : (specs : List PartSpec) (parts : List PartReport) (i : ℕ) → length parts ≤ i → is_gone (drop i specs) (drop i parts) ≡ false
gone_past specs parts i h = ap (is_gone (drop i specs)) (drop_all i parts h) ∙ gone_none (drop i specs)

-- ---- the failures

-- if a report's parts end as its journals say, they have the failures of the journals
pub same_failures : (specs : List PartSpec) (journals : List (Kept Event)) (ends : List PartEnd) → HaveEnds specs journals ends
    → failures_in (summaries specs journals ends) ≡ failures_count specs (lists_of journals)
unfolding failures_count
same_failures [] journals ends h = refl
same_failures (s ∷ specs) [] ends h = refl
same_failures (s ∷ specs) (journal ∷ journals) [] h = absurd h
same_failures (s ∷ specs) (journal ∷ journals) (e ∷ ends) h =
    let first : e.failures ≡ (state_of s journal.list).failures = h.0.failures in
    rw (first, same_failures specs journals ends h.1) refl
