-- The verdict on a report, and what follows if every line fits.
use Rattle.std.proofs.Common.{◌≡◌, ℕ, ◌<◌, ◌≤◌, suc, List, [], ◌∷◌, Option, None, Ok, inl, inr, length, ap, subst, ◌∙◌}
use Rattle.audit_input.specs.Handed.{Hands, HandsNothing}
use Rattle.run_laws.specs.Audit.{Section, opening_section, section_after}
use Rattle.run_laws.specs.Fitting.{AllFit, FitsFrom}
use Rattle.order_defs.specs.OutOfOrder.{Finds}
use Rattle.order_laws.proofs.OutOfOrder.{passed_one_run}
use Rattle.input_defs.specs.Faults.{fault_line}
use Rattle.nook_io.specs.Listening.{Listening}
use Rattle.part_defs.specs.Runs.{IsRunFrom}
use Rattle.input_defs.specs.ScenarioReading.{scenario_from}
use Rattle.nook_data.specs.Valid.{IsValidScenario}
use Rattle.nook_data.specs.declared.steps.Event.{Event}
use Rattle.nook_data.specs.declared.scenario.PartSpec.{PartSpec}
use Rattle.nook_data.specs.declared.scenario.Scenario.{Scenario}
use Rattle.nook_data.specs.declared.scenario.ThreadSpec.{ThreadSpec}
use Rattle.input_defs.specs.declared.input.InputFault.TheVariants as fault
use Rattle.input_defs.specs.declared.input.Refusal.{Refusal}
use Rattle.run_results.specs.Journals.{AreRuns}
use Rattle.nooks.proofs.Safety.{all_safe}
use Rattle.nooks.proofs.Written.{writes_more}
use Rattle.nooks.specs.Answers.{AnswersInput, IsSound, IsVerdict, Says, verdict_status}
use Rattle.nooks.specs.Endings.{Writes}
use Rattle.command_forms.specs.Forms.{limit_of}
use Rattle.nook_io.specs.Changes.{Change}
use Rattle.nooks.specs.Streams.{Whole}
use Rattle.nooks.specs.Texts.{at_root, bad_header_text, verdict_text}
use Rattle.nooks.specs.declared.program.Status.{Status}
use Rattle.nooks.specs.declared.program.Status.TheVariants as ended
use Rattle.command_forms.specs.declared.words.Form.TheVariants as form

-- ---- what fits is sound

-- events that fit a section are a run of its part
fitting_run : (s : Section) (events : List Event) → FitsFrom s events → IsRunFrom s.seat.run.state events
unfolding FitsFrom IsRunFrom section_after
fitting_run s [] h = tt
fitting_run s (e ∷ events) h = (h.0, h.1, fitting_run (section_after s _) events h.3)

-- journals that fit are runs of their parts
pub fitting_runs : (threads : List ThreadSpec) (index : ℕ) (specs : List PartSpec) (journals : List (List Event))
    → AllFit threads index specs journals → AreRuns specs journals
unfolding AllFit
fitting_runs threads index [] [] h = tt
fitting_runs threads index [] (journal ∷ journals) h = absurd h
fitting_runs threads index (spec ∷ specs) [] h = absurd h
fitting_runs threads index (spec ∷ specs) (journal ∷ journals) h =
    (fitting_run (opening_section threads index spec) journal h.0, fitting_runs threads (suc index) specs journals h.1)

-- a report in which an audit finds nothing is sound
pub sound_report : (scenario : Scenario) (report : List ℕ) (found : Option ℕ) → IsValidScenario scenario → Finds scenario report found → found ≡ None
    → IsSound scenario report
sound_report scenario report found valid finds none =
    let passed = passed_one_run scenario report valid (subst (Finds scenario report) none finds) in
    record {
      journals = passed.0;
      fit = passed.1;
      one_run = passed.2;
      safe = all_safe scenario passed.0 valid (fitting_runs scenario.threads 0 scenario.parts passed.0 passed.1);
      text_is = passed.3;
    }

-- ---- the verdict

pub verdict_reported : (scenario : Scenario) (report : List ℕ) (found : Option ℕ) (sink : Change) (status : Status) → IsValidScenario scenario
    → Finds scenario report found → Writes (Says (verdict_text found) (verdict_status found)) sink status
    → Writes (IsVerdict scenario report) sink status
verdict_reported scenario report found sink status valid finds ends =
    writes_more (Says (verdict_text found) (verdict_status found)) (IsVerdict scenario report) sink status
    (λ text s said. record {
      found = found;
      finds = finds;
      text_is = said.0;
      status_is = said.1;
      sound = sound_report scenario report found valid finds;
    }) ends

-- an equal text
pub said_same : (a b : List ℕ) (status end : Status) (sink : Change) → a ≡ b → Writes (Says a status) sink end → Writes (Says b status) sink end
said_same a b status end sink e ends = subst (λ t. Writes (Says t status) sink end) e ends

-- ---- the answer to the bytes

pub nothing_handed : (bytes : List ℕ) (hearing : List Listening) (sink : Change) (status : Status) → HandsNothing bytes
    → Writes (Says bad_header_text ended.BadInput) sink status → Writes (AnswersInput form.Audit (Whole bytes) hearing) sink status
nothing_handed bytes hearing sink status nothing ends =
    writes_more (Says bad_header_text ended.BadInput) (AnswersInput form.Audit (Whole bytes) hearing) sink status
    (λ text s said. inl (inl (nothing, said.0), said.1)) ends

pub too_long_handed : (bytes handed report : List ℕ) (hearing : List Listening) (refusal : Refusal) (sink : Change) (status : Status)
    → Hands bytes handed report → limit_of form.Run < length handed → refusal ≡ at_root fault.TooMany
    → Writes (Says (fault_line refusal) ended.BadInput) sink status → Writes (AnswersInput form.Audit (Whole bytes) hearing) sink status
too_long_handed bytes handed report hearing refusal sink status hands long is ends =
    writes_more (Says (fault_line refusal) ended.BadInput) (AnswersInput form.Audit (Whole bytes) hearing) sink status
    (λ text s said. inl (
      inr (record {
        scenario = handed;
        report = report;
        hands = hands;
        fault = inl (long, said.0 ∙ ap (λ r. fault_line r) is);
      }),
      said.1,
    )) ends

pub verdict_answers : (bytes handed report : List ℕ) (hearing : List Listening) (scenario : Scenario) (sink : Change) (status : Status)
    → Hands bytes handed report → length handed ≤ limit_of form.Run → scenario_from handed ≡ Ok scenario
    → Writes (IsVerdict scenario report) sink status → Writes (AnswersInput form.Audit (Whole bytes) hearing) sink status
verdict_answers bytes handed report hearing scenario sink status hands short reading ends =
    writes_more (IsVerdict scenario report) (AnswersInput form.Audit (Whole bytes) hearing) sink status
    (λ text s verdict. inr (record {
      handed = handed;
      report = report;
      hands = hands;
      short = short;
      scenario = scenario;
      reading = reading;
      verdict = verdict;
    })) ends
