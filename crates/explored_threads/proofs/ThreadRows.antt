-- A run by threads is a scheduled run, so its outcome is a row.
use Rattle.std.proofs.Common.{◌≡◌, ℕ, false, None, List, is_some, refl, sym, ap, ◌∙◌, subst}
use Rattle.std.proofs.lemmas.List.Elements.{All-contains}
use Rattle.std.specs.List.{list_any}
use Rattle.explore_defs.specs.Explored.{AreOutcomes, HasOutcome, IsFirst, all_numbers, rows_of_status}
use Rattle.explore_defs.specs.Orders.{IsOfLevel, Path}
use Rattle.explore_defs.specs.Outcomes.{outcome_by}
use Rattle.explore_defs.specs.declared.outcome.Outcome.{Outcome}
use Rattle.explore_defs.specs.declared.outcome.PartOutcome.{PartOutcome}
use Rattle.explore_laws.proofs.AnyOrder.{first_kept, is_row}
use Rattle.explore_laws.proofs.Counted.{breaks_left, outcome_left, scheduled_left}
use Rattle.nook_data.specs.Types.{Answer, Event, Scenario}
use Rattle.nook_data.specs.Valid.{IsValidScenario}
use Rattle.nook_data.specs.declared.scenario.ScheduleSpec.TheVariants as schedule
use Rattle.order_laws.proofs.OneRun.{threaded_listed}
use Rattle.order_laws.specs.Listed.{IsListedRun}
use Rattle.report_defs.specs.ReportText.{has_break}
use Rattle.run_defs.specs.Simulation.{answer_table, journals_of}
use Rattle.run_results.specs.Journals.{AreRuns}
use Rattle.std.proofs.Common.{length}
use Rattle.threaded_run.specs.Threaded.{IsThreaded}

pub threads_row : (scenario : Scenario) (firsts : List Path) (journals : List (List Event)) (answers : List (List (ℕ × Answer)))
    → AreOutcomes scenario None firsts → IsValidScenario scenario → AreRuns scenario.parts journals
    → IsThreaded scenario journals answers → HasOutcome firsts (outcome_by scenario.parts journals answers)
threads_row scenario firsts journals answers a v runs threaded =
    let l : IsListedRun scenario journals answers = threaded_listed scenario journals answers v runs threaded in
    subst (HasOutcome firsts)
    (scheduled_left scenario (schedule.Listed l.picks) l.end l.run
    ∙ ap (λ js. outcome_by scenario.parts js (answer_table l.end)) l.journals_same
    ∙ ap (outcome_by scenario.parts journals) l.answers_same)
    (is_row scenario firsts (schedule.Listed l.picks) l.end a l.run)

pub threads_kept : (scenario : Scenario) (firsts : List Path) (journals : List (List Event)) (answers : List (List (ℕ × Answer)))
    → AreOutcomes scenario None firsts → rows_of_status 7 (all_numbers scenario firsts) ≡ 0 → IsValidScenario scenario
    → AreRuns scenario.parts journals → IsThreaded scenario journals answers
    → has_break scenario.parts journals ≡ false
threads_kept scenario firsts journals answers a none v runs threaded =
    let row : HasOutcome firsts (outcome_by scenario.parts journals answers) =
    threads_row scenario firsts journals answers a v runs threaded in
    let first : IsFirst scenario row.first = All-contains (IsFirst scenario) firsts row.first a.first row.listed in
    let level : IsOfLevel scenario (length row.first.picks) row.first = record { led = first.whole.led; count = refl } in
    breaks_left scenario.parts journals
    ∙ ap (λ (o : Outcome). list_any (λ (p : PartOutcome). is_some p.broken) o.parts)
    (sym row.same ∙ outcome_left scenario (length row.first.picks) row.first level)
    ∙ sym (breaks_left scenario.parts (journals_of row.first.end))
    ∙ first_kept scenario firsts row.first none row.listed
