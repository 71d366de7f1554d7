-- The report of a scheduled run is the report of journals that fit.
use Rattle.std.proofs.Common.{◌≡◌, ℕ, suc, ◌+◌, nat_lt, Bool, true, false, List, [], ◌∷◌, ◌++◌, length, map, min, nat_le, if◌then◌else◌, slice_get, refl, sym, ap, ap₂, ◌∙◌, subst, arith, add-one}
use Rattle.std.specs.List.{AllByRecursion}
use Rattle.std.proofs.lemmas.List.Elements.{recursion_from_All}
use Rattle.nook_io.specs.Listening.{Listening, count_if, hears}
use Rattle.report_defs.specs.ReportText.{ending_text, parts_text, report_text, status_of, threads_text}
use Rattle.run_defs.specs.Simulation.{IsScheduledRun, RunningPart, Simulation, ThreadState, answer_table, begins}
use Rattle.run_defs.specs.Simulation.{journal_of, journals_of}
use Rattle.nook_io.specs.Listening.{heard_events, tap_result}
use Rattle.nook_data.specs.Valid.{IsValidScenario, IsValidThread}
use Rattle.nook_data.specs.declared.steps.Event.{Event}
use Rattle.nook_data.specs.declared.scenario.PartSpec.{PartSpec}
use Rattle.nook_data.specs.declared.scenario.Scenario.{Scenario}
use Rattle.nook_data.specs.declared.scenario.ThreadSpec.{ThreadSpec}
use Rattle.run_laws.proofs.Reached.{parts_answered}
use Rattle.sim_run.proofs.Publishing.{journals_are_heard}
use Rattle.run_results.specs.Journals.{with_part}
use Rattle.sim_run.specs.Published.{heard_in_journals, published}
use Rattle.run_laws.specs.Audit.{Done, Section, answers_in_order, done_of, each_of_part, journal_in, last_lines, own_listeners, published_in}
use Rattle.run_laws.specs.Fitting.{fitting_text, sections_of}
use Rattle.audited_runs.proofs.Apart.{answers_again, left_by}
use Rattle.audited_runs.proofs.Ended.{scheduled_reached}
use Rattle.audited_runs.proofs.Reached.{AreSections, IsReached}

-- ---- what the sections leave

sections_left : (specs : List ThreadSpec) (index : ℕ) (parts : List PartSpec) (seats : List RunningPart) (threads : List ThreadState)
    → AreSections specs index parts seats threads → sections_of specs index parts (map journal_of seats) ≡ left_by index seats threads
unfolding sections_of
sections_left specs index [] [] threads are = refl
sections_left specs index [] (seat ∷ seats) threads are = absurd are
sections_left specs index (spec ∷ parts) [] threads are = absurd are
sections_left specs index (spec ∷ parts) (seat ∷ seats) threads are =
    ap₂ (λ (x : Section) (xs : List Done). done_of x ∷ xs) are.0.is (sections_left specs (suc index) parts seats threads are.1)

same_count : (specs : List ThreadSpec) (index : ℕ) (parts : List PartSpec) (seats : List RunningPart) (threads : List ThreadState)
    → AreSections specs index parts seats threads → length seats ≡ length parts
same_count specs index [] [] threads are = refl
same_count specs index [] (seat ∷ seats) threads are = absurd are
same_count specs index (spec ∷ parts) [] threads are = absurd are
same_count specs index (spec ∷ parts) (seat ∷ seats) threads are = ap suc (same_count specs (suc index) parts seats threads are.1)

journals_left : (index : ℕ) (seats : List RunningPart) (threads : List ThreadState) → map journal_in (left_by index seats threads) ≡ map journal_of seats
journals_left index [] threads = refl
journals_left index (seat ∷ seats) threads = ap {B = List (List Event)} (λ xs. seat.run.journal ∷ xs) (journals_left (suc index) seats threads)

-- ---- what listeners hear of sections one after another

heard_count : (b : Bool) (n m : ℕ) → count_if b (n + m) ≡ count_if b n + m
heard_count true n m = omega arith
heard_count false n m = refl

pub heard_both : (l : Listening) (xs ys : List (ℕ × Event)) → heard_events l (xs ++ ys) ≡ heard_events l xs + heard_events l ys
unfolding heard_events
heard_both l [] ys = none (heard_events l ys)
  where
    none : (n : ℕ) → n ≡ 0 + n
    none n = omega arith
heard_both l (e ∷ xs) ys =
    ap (count_if (hears l e.0 e.1)) (heard_both l xs ys) ∙ heard_count (hears l e.0 e.1) (heard_events l xs) (heard_events l ys)

with_part_same : (part : ℕ) (events : List Event) → each_of_part part events ≡ with_part part events
with_part_same part [] = refl
with_part_same part (e ∷ events) = ap {B = List (ℕ × Event)} (λ xs. (part, e) ∷ xs) (with_part_same part events)

pub heard_in_sections : (l : Listening) (part : ℕ) (sections : List Done) → heard_events l (published_in part sections) ≡ heard_in_journals l part (map journal_in sections)
unfolding heard_events
heard_in_sections l part [] = refl
heard_in_sections l part (d ∷ sections) =
    heard_both l (each_of_part part d.journal) (published_in (suc part) sections)
    ∙ ap₂ (λ (n m : ℕ). n + m) (ap (heard_events l) (with_part_same part d.journal))
    (heard_in_sections l (suc part) sections ∙ ap (λ (k : ℕ). heard_in_journals l k (map journal_in sections)) (sym (add-one part)))

-- a listener's result is determined by what it hears
result_same : (l : Listening) (xs ys : List (ℕ × Event)) → heard_events l xs ≡ heard_events l ys → tap_result l xs ≡ tap_result l ys
result_same l xs ys h = ap {B = ℕ × Bool} (λ (n : ℕ).
    (if nat_le l.limit l.total then l.total else min l.limit (l.total + n), nat_lt (if nat_le l.limit l.total then l.total else min l.limit (l.total + n)) l.limit)) h

pub results_same : (xs ys : List (ℕ × Event)) (listeners : List Listening) → ((l : Listening) → heard_events l xs ≡ heard_events l ys)
    → map (λ l. tap_result l xs) listeners ≡ map (λ l. tap_result l ys) listeners
results_same xs ys [] h = refl
results_same xs ys (l ∷ listeners) h = ap₂ (λ (x : ℕ × Bool) rest. x ∷ rest) (result_same l xs ys (h l)) (results_same xs ys listeners h)

-- ---- the whole text

pub scheduled_text : (scenario : Scenario) (s : Simulation) → IsValidScenario scenario → (r : IsScheduledRun scenario s)
    → fitting_text scenario (journals_of s)
    ≡ report_text scenario (journals_of s) (answer_table s) (map (λ l. tap_result l (published r.steps (begins scenario))) own_listeners)
    (status_of scenario.parts (journals_of s))
unfolding fitting_text last_lines report_text
scheduled_text scenario s v r =
    let h : IsReached scenario s = scheduled_reached scenario s r in
    let sections : List Done = left_by 0 s.parts s.threads in
    let left : sections_of scenario.threads 0 scenario.parts (journals_of s) ≡ sections =
    sections_left scenario.threads 0 scenario.parts s.parts s.threads h.sections in
    let journals : map journal_in sections ≡ journals_of s = journals_left 0 s.parts s.threads in
    let valid : AllByRecursion (IsValidThread (length s.parts)) scenario.threads =
    subst (λ (n : ℕ). AllByRecursion (IsValidThread n) scenario.threads) (sym (same_count scenario.threads 0 scenario.parts s.parts s.threads h.sections))
    (recursion_from_All (IsValidThread (length scenario.parts)) scenario.threads v.threads) in
    let answers : answers_in_order 0 scenario.threads sections ≡ answer_table s =
    answers_again 0 s.parts s.threads scenario.threads s.threads (λ k. ap (slice_get s.threads) (plus k)) valid (parts_answered scenario s v r) in
    let heard : (l : Listening) → heard_events l (published_in 0 sections) ≡ heard_events l (published r.steps (begins scenario)) =
    λ l. heard_in_sections l 0 sections ∙ ap (heard_in_journals l 0) (journals ∙ sym (ap journals_of r.reached)) ∙ sym (journals_are_heard l scenario r.steps) in
    ap (λ text. parts_text 0 scenario.parts (journals_of s) ++ text)
    (ap (last_lines scenario) left
    ∙ ap (λ table. threads_text 0 scenario.threads table
    ++ ending_text (map (λ l. tap_result l (published_in 0 sections)) own_listeners) (status_of scenario.parts (map journal_in sections))) answers
    ∙ ap (λ taps. threads_text 0 scenario.threads (answer_table s) ++ ending_text taps (status_of scenario.parts (map journal_in sections)))
    (results_same (published_in 0 sections) (published r.steps (begins scenario)) own_listeners heard)
    ∙ ap (λ js. threads_text 0 scenario.threads (answer_table s)
    ++ ending_text (map (λ l. tap_result l (published r.steps (begins scenario))) own_listeners) (status_of scenario.parts js)) journals)
  where
    plus : (k : ℕ) → k ≡ 0 + k
    plus k = omega arith
