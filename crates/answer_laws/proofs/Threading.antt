-- Every input of `run threads` has an answer: the scheduled run is one that threads may make.
use Rattle.std.proofs.Common.{◌≡◌, ℕ, List, map, Ok, IfOk, refl, subst}
use Rattle.answer_laws.proofs.Answered.{HasAnswer, IsFaultOr, answer_by, read_exists}
use Rattle.audited_runs.proofs.Ended.{scheduled_fits}
use Rattle.audited_runs.proofs.Threaded.{fitting_is_threaded}
use Rattle.command_forms.specs.declared.words.Form.TheVariants as form
use Rattle.input_defs.specs.ScenarioReading.{scenario_from}
use Rattle.nook_data.specs.Valid.{IsValidScenario}
use Rattle.nook_data.specs.declared.calls.Answer.{Answer}
use Rattle.nook_data.specs.declared.scenario.Scenario.{Scenario}
use Rattle.nook_data.specs.declared.steps.Event.{Event}
use Rattle.nook_io.specs.Listening.{Listening, tap_result}
use Rattle.nooks.proofs.Reports.{run_status}
use Rattle.nooks.proofs.Safety.{all_safe}
use Rattle.nooks.specs.Answers.{IsRefusalLine, IsReportOf, IsReported}
use Rattle.order_defs.specs.OneClock.{AreOneRun}
use Rattle.order_laws.proofs.OneRun.{scheduled_one_run}
use Rattle.reading_laws.proofs.ScenariosRead.{scenario_is_valid}
use Rattle.report_defs.specs.ReportText.{report_text, status_of}
use Rattle.run_defs.specs.Simulation.{journals_of}
use Rattle.run_laws.specs.Audit.{answers_in_order}
use Rattle.run_laws.specs.Fitting.{AllFit, sections_of}
use Rattle.sim_run.proofs.Ending.{runs_scheduled, scheduled_ends}
use Rattle.threaded_run.proofs.Answered.{threaded_answered}
use Rattle.threaded_run.specs.Threaded.{IsThreaded, in_parts}

by_threads : (scenario : Scenario) (hearing : List Listening) → IsValidScenario scenario
    → HasAnswer (IsReported form.RunThreads scenario hearing)
by_threads scenario hearing valid =
    let end = scheduled_ends scenario valid in
    let journals : List (List Event) = journals_of end.0 in
    let fit : AllFit scenario.threads 0 scenario.parts journals = scheduled_fits scenario end.0 valid end.1 in
    let one : AreOneRun scenario.threads journals = scheduled_one_run scenario end.0 valid end.1 in
    let answers : List (List (ℕ × Answer)) = answers_in_order 0 scenario.threads (sections_of scenario.threads 0 scenario.parts journals) in
    let threaded : IsThreaded scenario journals answers = fitting_is_threaded scenario journals valid fit one in
    let status = run_status scenario.parts journals in (
      report_text scenario journals answers (map (λ l. tap_result l (in_parts 0 journals)) hearing) (status_of scenario.parts journals),
      (
        status.0,
        record {
          left = record {
            journals = journals;
            answers = answers;
            taps = map (λ l. tap_result l (in_parts 0 journals)) hearing;
          };
          run = record { threaded = threaded; printed = refl };
          whole = record {
            safe = all_safe scenario journals valid (runs_scheduled scenario end.0 end.1);
            answered = threaded_answered scenario journals answers threaded;
          };
          status_is = status.1;
          text_is = refl;
        },
      ),
    )

pub threads_exist : (bytes : List ℕ) (hearing : List Listening)
    → HasAnswer (IsFaultOr (IsRefusalLine (scenario_from bytes)) (IsReportOf form.RunThreads bytes hearing))
threads_exist bytes hearing =
    read_exists (scenario_from bytes) (IsReportOf form.RunThreads bytes hearing)
    (λ scenario is. answer_by (IsReported form.RunThreads scenario hearing) (IsReportOf form.RunThreads bytes hearing)
    (λ text status reported. record { scenario = scenario; reading = is; reported = reported })
    (by_threads scenario hearing (subst (λ r. IfOk r IsValidScenario) is (scenario_is_valid bytes))))
