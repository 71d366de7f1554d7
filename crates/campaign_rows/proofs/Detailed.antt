-- The struck part in a report, and the detail of the run.
use Rattle.std.proofs.Common.{◌≡◌, ◌∙◌, refl, sym, ap, ap₂, ℕ, zero, suc, Bool, List, [], ◌∷◌, Option, Some, None, map, slice_get}
use Rattle.std.specs.Bool.{then_some}
use Rattle.std.specs.Option.{option_or}
use Rattle.campaign_defs.specs.Members.{Ran}
use Rattle.campaign_defs.specs.Rows.{cause_at, cause_of, clause_at, detail_of, first_cause, if_asked, plan_row, texts_eq}
use Rattle.campaign_defs.specs.Types.{Detail, Row}
use Rattle.campaign_rows.proofs.Asked.{asked_is}
use Rattle.campaign_rows.specs.Reported.{clause_in}
use Rattle.campaign_rows.specs.Shown.{IsShown, Shows}
use Rattle.campaign_rows.specs.declared.shown.Shown.{Shown}
use Rattle.nook_data.specs.Types.{FailCause, MemberRow}
use Rattle.nook_data.specs.Views.Room.{Kept}
use Rattle.nook_data.specs.declared.scenario.PartSpec.{PartSpec}
use Rattle.nook_data.specs.declared.scenario.Scenario.{Scenario}
use Rattle.nook_data.specs.declared.steps.Event.{Event}
use Rattle.plan_defs.specs.Types.{Plan}
use Rattle.report_defs.specs.Campaigns.{row_of}
use Rattle.run_results.specs.Reports.{HaveEnds, summaries}
use Rattle.run_results.specs.declared.report.PartEnd.{PartEnd}
use Rattle.run_results.specs.declared.report.Report.{Report}
use Rattle.run_defs.specs.Simulation.{journals_of}
use Rattle.run_results.specs.Journals.{events_in}

-- ---- the cause

-- a cause that is found stays, and one that is not found is searched for in the rest
pub cause_step : (cause : Option FailCause) (e : Event) (events : List Event)
    → option_or (option_or cause (cause_of e)) (first_cause events) ≡ option_or cause (first_cause (e ∷ events))
cause_step (Some found) e events = refl
cause_step None e events =
    elim (cause_of e) as (λ cause. option_or cause (first_cause events)
    ≡ elim cause [ Some found ↦ Some found | None ↦ first_cause events ]) [ Some found ↦ refl | None ↦ refl ]

pub cause_last : (cause : Option FailCause) → option_or cause None ≡ cause
cause_last (Some found) = refl
cause_last None = refl

-- ---- the clause

no_journal : (spec : Option PartSpec) → clause_at spec None ≡ None
no_journal (Some spec) = refl
no_journal None = refl

clause_is : (specs : List PartSpec) (journals : List (Kept Event)) (ends : List PartEnd) (index : ℕ) → HaveEnds specs journals ends
    → clause_in (slice_get (summaries specs journals ends) index) ≡ clause_at (slice_get specs index) (slice_get (map events_in journals) index)
clause_is [] journals ends index h = refl
clause_is (s ∷ specs) [] ends index h = sym (no_journal (slice_get (s ∷ specs) index))
clause_is (s ∷ specs) (journal ∷ journals) [] index h = absurd h
clause_is (s ∷ specs) (journal ∷ journals) (e ∷ ends) zero h = refl
clause_is (s ∷ specs) (journal ∷ journals) (e ∷ ends) (suc index) h = clause_is specs journals ends index h.1

-- ---- the detail

abbrev detail_with : Bool → Bool → Option ℕ → Option FailCause → Detail
detail_with same_answers same_left clause cause = record { same_answers = same_answers; same_left = same_left; clause = clause; cause = cause }

pub detail_is : (own ran : Ran) (scenario : Scenario) (report : Report) (base shown : Shown) (index : ℕ) (same_answers same_left : Bool)
    (clause : Option ℕ) (cause : Option FailCause) → IsShown own base → Shows ran scenario report → IsShown ran shown
    → same_answers ≡ texts_eq base.answers shown.answers → same_left ≡ texts_eq base.left shown.left
    → clause ≡ clause_in (slice_get report.parts index) → cause ≡ cause_at (slice_get (map events_in report.run.journals) index)
    → detail_with same_answers same_left clause cause ≡ detail_of index own ran
detail_is own ran scenario report base shown index same_answers same_left clause cause is_base shows is_shown ha hl hc hf =
    let answers = ha ∙ ap₂ texts_eq is_base.answers is_shown.answers in
    let left = hl ∙ ap₂ texts_eq is_base.left is_shown.left in
    let broken =
    hc ∙ (ap (λ parts. clause_in (slice_get parts index)) shows.whole.parts
    ∙ (clause_is scenario.parts report.run.journals report.ends index shows.whole.ends
    ∙ (ap (λ (s : Scenario). clause_at (slice_get s.parts index) (slice_get (map events_in report.run.journals) index)) (sym shows.scenario_is)
    ∙ ap (λ journals. clause_at (slice_get ran.scenario.parts index) (slice_get journals index)) shows.journals))) in
    let failed = hf ∙ ap (λ journals. cause_at (slice_get journals index)) shows.journals in
    rw (answers, left, broken, failed) refl

-- ---- the row

abbrev plan_row_with : MemberRow → Option Detail → Option ℕ → Row
plan_row_with counts detail traps = record { counts = counts; detail = detail; traps = traps }

pub plan_row_is : (plan : Plan) (own ran : Ran) (scenario : Scenario) (report : Report) (counts : MemberRow) (detail : Option Detail) (traps : Option ℕ) (count : ℕ)
    → Shows ran scenario report → count ≡ ran.traps
    → counts ≡ row_of scenario.parts (map events_in report.run.journals) report.run.answers
    → detail ≡ if_asked plan.detail (detail_of plan.part own ran) → traps ≡ then_some plan.guard count
    → plan_row_with counts detail traps ≡ plan_row plan own ran
plan_row_is plan own ran scenario report counts detail traps count shows he hc hd ht =
    let counted =
    hc ∙ (ap (λ (s : Scenario). row_of s.parts (map events_in report.run.journals) report.run.answers) (sym shows.scenario_is)
    ∙ (ap (λ journals. row_of ran.scenario.parts journals report.run.answers) shows.journals
    ∙ ap (row_of ran.scenario.parts (journals_of ran.simulation)) shows.answers)) in
    let trapped = ht ∙ (asked_is plan.guard count ∙ ap (if_asked plan.guard) he) in
    rw (counted, hd, trapped) refl
