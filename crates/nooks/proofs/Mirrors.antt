-- Writing a mirror's report ends with the mirror's status.
use Rattle.std.proofs.Common.{◌≡◌, ℕ, ◌==◌, Bool, true, false, if◌then◌else◌, List, [], ◌∷◌, inl, inr, map, Ok, refl, ap, ◌∙◌, subst}
use Rattle.std.specs.List.{list_any}
use Rattle.mirrored_run.specs.Mirrors.{IsMirrorRun, is_lost, is_mirror, mirror_status}
use Rattle.nook_io.specs.Listening.{Listening}
use Rattle.report_defs.specs.ReportText.{has_break, has_given_up, status_of}
use Rattle.input_defs.specs.ScenarioReading.{scenario_from}
use Rattle.nook_data.specs.Valid.{IsValidScenario}
use Rattle.nook_data.specs.declared.steps.Event.{Event}
use Rattle.nook_data.specs.declared.mirror.MirrorAnswer.{MirrorAnswer}
use Rattle.nook_data.specs.declared.scenario.Scenario.{Scenario}
use Rattle.nook_io.specs.Listening.{tap_result}
use Rattle.headline_laws.specs.Headline.{AreSafe}
use Rattle.report_text.specs.Mirrored.{mirror_report_text}
use Rattle.run_results.specs.Reports.{IsReport}
use Rattle.run_results.specs.declared.run.Run.{Run}
use Rattle.run_results.specs.declared.report.Report.{Report}
use Rattle.request_taps.proofs.Totals.{all_totals}
use Rattle.request_taps.specs.Bus.{result_of, settled, after_hearing_all}
use Rattle.run_results.specs.Journals.{AreRuns, events_in}
use Rattle.threaded_run.specs.Threaded.{in_parts}
use Rattle.nooks.proofs.Reports.{reported_writes}
use Rattle.nooks.proofs.Safety.{all_safe}
use Rattle.nooks.proofs.Written.{writes_more}
use Rattle.nooks.specs.Answers.{AnswersInput, IsMirrored, IsReportStatus, Says}
use Rattle.nooks.specs.Endings.{IsBegun, Writes}
use Rattle.nooks.specs.Making.{IsMirrorMade, ReportsStatus}
use Rattle.nook_io.specs.Changes.{Change}
use Rattle.nooks.specs.Streams.{Gains, GainsFront, Whole}
use Rattle.nooks.specs.Texts.{not_mirror_text}
use Rattle.nooks.specs.declared.program.Status.{Status}
use Rattle.nooks.specs.declared.program.Status.TheVariants as ended
use Rattle.command_forms.specs.declared.words.Form.TheVariants as form

-- ---- the status

abbrev status_by : Bool → Bool → ℕ
status_by broken lost = if broken then 7 else if lost then 1 else 0

-- every mirror has a status
known_status : (broken lost : Bool) → (status : Status) × IsReportStatus (status_by broken lost) status
known_status true lost = (ended.ContractBroken, refl)
known_status false true = (ended.GivenUp, refl)
known_status false false = (ended.Done, refl)

-- a status by its number
reported_by : (broken lost : Bool) (status : Status) → ReportsStatus (status_by broken lost) status → IsReportStatus (status_by broken lost) status
reported_by broken lost ended.Done reports = reports
reported_by broken lost ended.GivenUp reports = reports
reported_by broken lost ended.Usage reports = absurd reports
reported_by broken lost ended.BadInput reports = absurd reports
reported_by broken lost ended.ReadFault reports = absurd reports
reported_by broken lost ended.WriteFault reports = absurd reports
reported_by broken lost ended.NoMemory reports = absurd reports
reported_by broken lost ended.AuditNo reports = absurd reports
reported_by broken lost ended.Cut reports = absurd reports
reported_by true lost ended.ContractBroken reports = refl
reported_by false true ended.ContractBroken reports = absurd (reports.1 refl)
reported_by false false ended.ContractBroken reports = absurd (reports.0 refl)

-- of the status that the two parts would have apart, only a broken contract stays
apart_by : (broken gone lost : Bool)
    → (if (if broken then 7 else if gone then 1 else 0) == 7 then 7 else if lost then 1 else 0) ≡ status_by broken lost
apart_by true gone lost = refl
apart_by false true lost = refl
apart_by false false lost = refl

-- ---- reports

module _ (scenario : Scenario) (hearing : List Listening) (report : Report) (answers : List MirrorAnswer) (number : ℕ)
    (made : IsMirrorMade scenario hearing report answers number) where
  abbrev pub text_made : List ℕ
  text_made = mirror_report_text scenario (map events_in report.run.journals) answers report.run.taps number

  mirrored : (status : Status) → IsReportStatus (mirror_status scenario made.left made.right answers) status
      → IsMirrored scenario hearing text_made status
  mirrored status is = record {
    left = made.left;
    right = made.right;
    answers = answers;
    taps = report.run.taps;
    run = made.run;
    safe = made.safe;
    printed = made.printed;
    status_is = is;
    text_is = ap (λ js. mirror_report_text scenario js answers report.run.taps number) made.journals
        ∙ ap (λ s. mirror_report_text scenario (made.left ∷ made.right ∷ []) answers report.run.taps s) made.status;
  }

  -- a report that was written in full ends with its status
  pub mirror_written : (sink : Change) (status : Status) → Gains sink text_made → ReportsStatus number status
      → Writes (IsMirrored scenario hearing) sink status
  mirror_written sink status gained reports =
      let is : IsReportStatus (mirror_status scenario made.left made.right answers) status =
      reported_by (has_break scenario.parts (made.left ∷ made.right ∷ [])) (list_any is_lost answers) status
      (subst (λ n. ReportsStatus n status) made.status reports) in
      reported_writes (IsMirrored scenario hearing) sink number status reports
      (record { text = text_made; answer = mirrored status is; gained = gained })

  -- a prefix of a report was written
  pub mirror_begun : (sink : Change) → GainsFront sink text_made → IsBegun (IsMirrored scenario hearing) sink
  mirror_begun sink front =
      let is = known_status (has_break scenario.parts (made.left ∷ made.right ∷ [])) (list_any is_lost answers) in
      record { text = text_made; status = is.0; answer = mirrored is.0 is.1; gained = front }

-- ---- what is made of a mirror's run

pub mirror_made_at : (scenario : Scenario) (hearing : List Listening) (run : Run) (answers : List MirrorAnswer) (report : Report) (number : ℕ)
    (left right : List Event) → IsValidScenario scenario → AreRuns scenario.parts (map events_in run.journals)
    → map events_in run.journals ≡ left ∷ right ∷ [] → IsMirrorRun scenario left right answers
    → run.taps ≡ map result_of (after_hearing_all (in_parts 0 (map events_in run.journals)) (map settled hearing)) → report.run ≡ run
    → IsReport scenario report
    → number ≡ (if report.status == 7 then 7 else if list_any is_lost answers then 1 else 0)
    → IsMirrorMade scenario hearing report answers number
mirror_made_at scenario hearing run answers report number left right valid runs two is totals e whole printed =
    let journals : map events_in report.run.journals ≡ left ∷ right ∷ [] = ap (λ (r : Run). map events_in r.journals) e ∙ two in
    let apart : report.status ≡ status_of scenario.parts (left ∷ right ∷ []) =
    whole.status ∙ ap (λ js. status_of scenario.parts js) journals in record {
      left = left;
      right = right;
      journals = journals;
      run = is;
      safe = subst (λ js. AreSafe scenario.parts js) two (all_safe scenario (map events_in run.journals) valid runs);
      printed =
          ap (λ (r : Run). r.taps) e ∙ (totals
          ∙ (all_totals hearing (in_parts 0 (map events_in run.journals))
          ∙ ap (λ js. map (λ l. tap_result l (in_parts 0 js)) hearing) two));
      status =
          printed ∙ (ap (λ (n : ℕ). if n == 7 then 7 else if list_any is_lost answers then 1 else 0) apart
          ∙ apart_by (has_break scenario.parts (left ∷ right ∷ [])) (has_given_up scenario.parts (left ∷ right ∷ [])) (list_any is_lost answers));
      is_report = whole;
    }

-- ---- the answer to the bytes

pub not_served : (bytes : List ℕ) (scenario : Scenario) (hearing : List Listening) (sink : Change) (status : Status)
    → scenario_from bytes ≡ Ok scenario → is_mirror scenario ≡ false → Writes (Says not_mirror_text ended.BadInput) sink status
    → Writes (AnswersInput form.Mirror (Whole bytes) hearing) sink status
not_served bytes scenario hearing sink status reading unserved ends =
    writes_more (Says not_mirror_text ended.BadInput) (AnswersInput form.Mirror (Whole bytes) hearing) sink status
    (λ text s said. inl (inr (record { scenario = scenario; reading = reading; unserved = unserved; text_is = said.0 }), said.1)) ends

pub mirror_answers : (bytes : List ℕ) (scenario : Scenario) (hearing : List Listening) (sink : Change) (status : Status)
    → scenario_from bytes ≡ Ok scenario → is_mirror scenario ≡ true → Writes (IsMirrored scenario hearing) sink status
    → Writes (AnswersInput form.Mirror (Whole bytes) hearing) sink status
mirror_answers bytes scenario hearing sink status reading served ends =
    writes_more (IsMirrored scenario hearing) (AnswersInput form.Mirror (Whole bytes) hearing) sink status
    (λ text s mirrored. inr (record { scenario = scenario; reading = reading; served = served; mirrored = mirrored })) ends
