-- The report of a run by threads is the report of journals that fit.
use Rattle.std.proofs.Common.{◌≡◌, ℕ, suc, ◌+◌, List, [], ◌∷◌, ◌++◌, map, refl, sym, ap, ap₂, ◌∙◌, add-one}
use Rattle.std.proofs.lemmas.List.Elements.{recursion_from_All}
use Rattle.nook_io.specs.Listening.{Listening}
use Rattle.report_defs.specs.ReportText.{ending_text, parts_text, report_text, status_of, threads_text}
use Rattle.nook_io.specs.Listening.{heard_events, tap_result}
use Rattle.nook_data.specs.Valid.{IsValidPart, IsValidScenario}
use Rattle.nook_data.specs.declared.calls.Answer.{Answer}
use Rattle.nook_data.specs.declared.steps.Event.{Event}
use Rattle.nook_data.specs.declared.scenario.PartSpec.{PartSpec}
use Rattle.nook_data.specs.declared.scenario.Scenario.{Scenario}
use Rattle.nook_data.specs.declared.scenario.ThreadSpec.{ThreadSpec}
use Rattle.run_results.specs.Journals.{AreRuns, with_part}
use Rattle.sim_run.specs.Published.{heard_in_journals}
use Rattle.threaded_run.specs.Threaded.{IsThreaded, in_parts}
use Rattle.run_laws.proofs.Leading.{section_led}
use Rattle.run_laws.specs.Audit.{Done, answers_in_order, journal_in, last_lines, opening_section, own_listeners, published_in}
use Rattle.run_laws.specs.Fitting.{AllFit, fitting_text, sections_of}
use Rattle.audited_runs.proofs.Asked.{threaded_fits}
use Rattle.audited_runs.proofs.Texts.{heard_both, heard_in_sections, results_same}
use Rattle.audited_runs.proofs.Threaded.{fitting_is_threaded}
use Rattle.audited_runs.proofs.Unique.{answers_unique}

-- the sections of journals that fit have these journals
sections_have : (threads : List ThreadSpec) (index : ℕ) (parts : List PartSpec) (journals : List (List Event)) → AllFit threads index parts journals
    → map journal_in (sections_of threads index parts journals) ≡ journals
unfolding AllFit sections_of
sections_have threads index [] [] h = refl
sections_have threads index [] (journal ∷ journals) h = absurd h
sections_have threads index (spec ∷ parts) [] h = absurd h
sections_have threads index (spec ∷ parts) (journal ∷ journals) h =
    ap₂ (λ (x : List Event) xs. x ∷ xs) (section_led (opening_section threads index spec) journal h.0).journal (sections_have threads (suc index) parts journals h.1)

heard_in_parts : (l : Listening) (part : ℕ) (journals : List (List Event)) → heard_events l (in_parts part journals) ≡ heard_in_journals l part journals
unfolding heard_events
heard_in_parts l part [] = refl
heard_in_parts l part (journal ∷ journals) =
    heard_both l (with_part part journal) (in_parts (suc part) journals)
    ∙ ap (λ (n : ℕ). heard_events l (with_part part journal) + n)
    (heard_in_parts l (suc part) journals ∙ ap (λ (k : ℕ). heard_in_journals l k journals) (sym (add-one part)))

pub threaded_text : (scenario : Scenario) (journals : List (List Event)) (answers : List (List (ℕ × Answer))) → IsValidScenario scenario → AreRuns scenario.parts journals
    → IsThreaded scenario journals answers
    → fitting_text scenario journals
    ≡ report_text scenario journals answers (map (λ l. tap_result l (in_parts 0 journals)) own_listeners) (status_of scenario.parts journals)
unfolding fitting_text last_lines report_text
threaded_text scenario journals answers v runs threaded =
    let fit : AllFit scenario.threads 0 scenario.parts journals = threaded_fits scenario journals answers v runs threaded in
    let sections : List Done = sections_of scenario.threads 0 scenario.parts journals in
    let again : IsThreaded scenario journals (answers_in_order 0 scenario.threads sections) =
    fitting_is_threaded scenario journals v fit threaded.one_run in
    let same : answers_in_order 0 scenario.threads sections ≡ answers =
    answers_unique scenario.threads scenario.parts journals (answers_in_order 0 scenario.threads sections) answers
    (recursion_from_All IsValidPart scenario.parts v.parts) runs threaded.no_others again.served threaded.served in
    let have : map journal_in sections ≡ journals = sections_have scenario.threads 0 scenario.parts journals fit in
    let heard : (l : Listening) → heard_events l (published_in 0 sections) ≡ heard_events l (in_parts 0 journals) =
    λ l. heard_in_sections l 0 sections ∙ ap (heard_in_journals l 0) have ∙ sym (heard_in_parts l 0 journals) in
    ap (λ text. parts_text 0 scenario.parts journals ++ text)
    (ap (λ table. threads_text 0 scenario.threads table
    ++ ending_text (map (λ l. tap_result l (published_in 0 sections)) own_listeners) (status_of scenario.parts (map journal_in sections))) same
    ∙ ap (λ taps. threads_text 0 scenario.threads answers ++ ending_text taps (status_of scenario.parts (map journal_in sections)))
    (results_same (published_in 0 sections) (in_parts 0 journals) own_listeners heard)
    ∙ ap (λ js. threads_text 0 scenario.threads answers
    ++ ending_text (map (λ l. tap_result l (in_parts 0 journals)) own_listeners) (status_of scenario.parts js)) have)
