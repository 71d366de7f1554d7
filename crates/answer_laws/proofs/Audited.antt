-- An audit passes exactly the reports that a run by threads may write.
use Rattle.std.proofs.Common.{◌≡◌, ℕ, Option, Some, None, List, [], ◌∷◌, map, refl, sym, ap, ◌∙◌, subst}
use Rattle.audited_runs.proofs.Asked.{threaded_fits}
use Rattle.audited_runs.proofs.Threaded.{fitting_is_threaded}
use Rattle.audited_runs.proofs.ThreadedText.{threaded_text}
use Rattle.command_forms.specs.declared.words.Form.TheVariants as form
use Rattle.headline_laws.specs.Headline.{AreSafe}
use Rattle.nook_data.proofs.Options.{none_is_some}
use Rattle.nook_data.specs.Valid.{IsValidScenario}
use Rattle.nook_data.specs.declared.calls.Answer.{Answer}
use Rattle.nook_data.specs.declared.scenario.PartSpec.{PartSpec}
use Rattle.nook_data.specs.declared.scenario.Scenario.{Scenario}
use Rattle.nook_data.specs.declared.steps.Event.{Event}
use Rattle.nook_io.specs.Listening.{tap_result}
use Rattle.nooks.proofs.Audits.{fitting_runs}
use Rattle.nooks.proofs.Reports.{run_status}
use Rattle.nooks.proofs.Safety.{all_safe}
use Rattle.nooks.specs.Answers.{IsReported}
use Rattle.nooks.specs.declared.program.Status.{Status}
use Rattle.order_defs.specs.OneClock.{AreOneRun}
use Rattle.order_defs.specs.OutOfOrder.{Finds, FindsAfter}
use Rattle.order_laws.proofs.OutOfOrder.{in_order_one_run, one_run_none_out}
use Rattle.report_defs.specs.ReportText.{report_text, status_of}
use Rattle.run_results.specs.Journals.{AreRuns}
use Rattle.run_laws.proofs.Passing.{report_fits}
use Rattle.run_laws.specs.Audit.{answers_in_order, audited, own_listeners}
use Rattle.run_laws.specs.Fitting.{AllFit, fitting_text, sections_of}
use Rattle.threaded_run.proofs.Answered.{threaded_answered}
use Rattle.threaded_run.specs.Threaded.{IsThreaded, in_parts}

-- the report of journals that fit
fitting_reported : (scenario : Scenario) (report : List ℕ) (journals : List (List Event)) → IsValidScenario scenario
    → AllFit scenario.threads 0 scenario.parts journals → AreOneRun scenario.threads journals → report ≡ fitting_text scenario journals
    → (status : Status) × IsReported form.RunThreads scenario own_listeners report status
fitting_reported scenario report journals valid fit one is =
    let runs : AreRuns scenario.parts journals = fitting_runs scenario.threads 0 scenario.parts journals fit in
    let answers : List (List (ℕ × Answer)) = answers_in_order 0 scenario.threads (sections_of scenario.threads 0 scenario.parts journals) in
    let threaded : IsThreaded scenario journals answers = fitting_is_threaded scenario journals valid fit one in
    let ending = run_status scenario.parts journals in (
      ending.0,
      record {
        left = record {
          journals = journals;
          answers = answers;
          taps = map (λ l. tap_result l (in_parts 0 journals)) own_listeners;
        };
        run = record { threaded = threaded; printed = refl };
        whole = record {
          safe = all_safe scenario journals valid runs;
          answered = threaded_answered scenario journals answers threaded;
        };
        status_is = ending.1;
        text_is = is ∙ threaded_text scenario journals answers valid runs threaded;
      },
    )

found_none : (scenario : Scenario) (report : List ℕ) (first : Option ℕ) → IsValidScenario scenario → FindsAfter scenario report first None
    → (status : Status) × IsReported form.RunThreads scenario own_listeners report status
found_none scenario report None valid found =
    fitting_reported scenario report found.journals valid found.fit (in_order_one_run scenario found.journals valid found.fit found.out_of_order) found.text_is
found_none scenario report (Some number) valid found = none_is_some found

pub audit_passed : (scenario : Scenario) (report : List ℕ) → IsValidScenario scenario → Finds scenario report None
    → (status : Status) × IsReported form.RunThreads scenario own_listeners report status
audit_passed scenario report valid found = found_none scenario report (audited scenario report) valid found

safe_runs : (specs : List PartSpec) (journals : List (List Event)) → AreSafe specs journals → AreRuns specs journals
unfolding AreSafe
safe_runs [] [] safe = tt
safe_runs [] (journal ∷ journals) safe = absurd safe
safe_runs (spec ∷ specs) [] safe = absurd safe
safe_runs (spec ∷ specs) (journal ∷ journals) safe = (safe.0.run, safe_runs specs journals safe.1)

pub report_passes : (scenario : Scenario) (report : List ℕ) (status : Status) → IsValidScenario scenario
    → IsReported form.RunThreads scenario own_listeners report status → Finds scenario report None
report_passes scenario report status valid r =
    let runs : AreRuns scenario.parts r.left.journals = safe_runs scenario.parts r.left.journals r.whole.safe in
    let fit : AllFit scenario.threads 0 scenario.parts r.left.journals =
    threaded_fits scenario r.left.journals r.left.answers valid runs r.run.threaded in
    let text : report ≡ fitting_text scenario r.left.journals =
    r.text_is
    ∙ (ap (λ taps. report_text scenario r.left.journals r.left.answers taps (status_of scenario.parts r.left.journals)) r.run.printed
    ∙ sym (threaded_text scenario r.left.journals r.left.answers valid runs r.run.threaded)) in
    let fits : audited scenario report ≡ None = ap (audited scenario) text ∙ report_fits scenario r.left.journals valid fit in
    subst (λ (first : Option ℕ). FindsAfter scenario report first None) (sym fits) (record {
      journals = r.left.journals;
      fit = fit;
      text_is = text;
      out_of_order = one_run_none_out scenario r.left.journals fit r.run.threaded.one_run;
    })
