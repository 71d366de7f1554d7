-- Writing a report or a summary ends with the status of the run.
use Rattle.std.proofs.Common.{◌≡◌, ℕ, ◌^◌, ◌<◌, ◌≤◌, Bool, true, false, if◌then◌else◌, List, [], ◌∷◌, length, map, Result, Ok, Err, IfOk, refl, sym, ap, ◌∙◌, subst, arith, true≢false}
use Rattle.nook_data.specs.declared.steps.Event.{Event}
use Rattle.nook_data.specs.declared.scenario.PartSpec.{PartSpec}
use Rattle.nook_data.specs.declared.scenario.Scenario.{Scenario}
use Rattle.nook_data.specs.declared.memory.NoMemory.{NoMemory}
use Rattle.nook_io.specs.Listening.{Listening}
use Rattle.run_defs.specs.Generated.{generated}
use Rattle.run_defs.specs.Simulation.{events_count}
use Rattle.report_defs.specs.ReportText.{failures_count, gen_line, has_break, has_given_up, report_text, status_of}
use Rattle.report_defs.specs.ReportText.{summary_line}
use Rattle.nook_data.specs.Views.Room.{Kept}
use Rattle.run_defs.specs.Simulation.{begins, journals_of}
use Rattle.nook_data.specs.Valid.{IsValidScenario}
use Rattle.run_results.specs.Statuses.{status_number}
use Rattle.run_results.specs.Reports.{IsReport, failures_in, lists_of, summaries}
use Rattle.run_results.proofs.ResultLemmas.{same_failures}
use Rattle.run_results.specs.declared.report.PartEnd.{PartEnd}
use Rattle.run_results.specs.declared.report.Report.{Report}
use Rattle.run_results.specs.declared.run.Run.{Run}
use Rattle.run_results.specs.declared.status.ReportStatus.{ReportStatus}
use Rattle.run_results.specs.declared.status.ReportStatus.TheVariants as reports
use Rattle.request_taps.specs.Bus.{result_of, settled, after_hearing_all}
use Rattle.request_taps.specs.declared.tap.Tap.{Tap}
use Rattle.request_taps.proofs.Totals.{all_totals}
use Rattle.sim_run.specs.Published.{published}
use Rattle.nooks.proofs.Safety.{all_safe}
use Rattle.nooks.specs.declared.program.Status.{Status}
use Rattle.nooks.specs.declared.program.Status.TheVariants as ended
use Rattle.command_forms.specs.declared.words.Form.{Form}
use Rattle.command_forms.specs.declared.words.Form.TheVariants as form
use Rattle.threaded_run.specs.Threaded.{AreAnswered, IsThreaded, in_parts}
use Rattle.nook_data.specs.declared.calls.Answer.{Answer}
use Rattle.run_laws.proofs.Reached.{parts_answered}
use Rattle.nooks.specs.Answers.{IsByThreads, IsReportStatus, IsReported, IsRunOf, IsScheduled, IsSummary, IsWhole}
use Rattle.nooks.specs.Endings.{IsBegun, IsWritten, Writes}
use Rattle.nooks.specs.Making.{IsMade, ReportsStatus, left_of}
use Rattle.nook_io.specs.Changes.{Change}
use Rattle.nooks.specs.Streams.{Gains, GainsFront}
use Rattle.sim_run.proofs.Reaching.{few_events}
use Rattle.run_ends.specs.declared.whole_run.WholeRun.{WholeRun}
use Rattle.run_results.specs.Journals.{AreRuns, events_in}
use Rattle.sim_run.specs.Whole.{IsSimulated}

-- ---- the status

abbrev gone_status : Bool → ℕ
gone_status gone = if gone then 1 else 0

abbrev status_by : Bool → Bool → ℕ
status_by broken gone = if broken then 7 else gone_status gone

known_by : (broken gone : Bool) → (status_by broken gone ≡ 0 → ⊥) → (status_by broken gone ≡ 1 → ⊥) → status_by broken gone ≡ 7
known_by true gone a b = refl
known_by false true a b = absurd (b refl)
known_by false false a b = absurd (a refl)

pub status_known : (specs : List PartSpec) (journals : List (List Event)) → (status_of specs journals ≡ 0 → ⊥) → (status_of specs journals ≡ 1 → ⊥)
    → status_of specs journals ≡ 7
status_known specs journals not_done not_gone = known_by (has_break specs journals) (has_given_up specs journals) not_done not_gone

-- the number of a run's status is that of a report's status
one_of_three : (number : ℕ) (broken gone : Bool) → number ≡ status_by broken gone
    → ((status : ReportStatus) → status_number status ≡ number → false ≡ true) → ⊥
one_of_three number true gone e none = true≢false (sym (none reports.Broken (sym e)))
one_of_three number false true e none = true≢false (sym (none reports.GivenUp (sym e)))
one_of_three number false false e none = true≢false (sym (none reports.Kept (sym e)))

pub number_is_known : (scenario : Scenario) (report : Report) → IsReport scenario report
    → ((status : ReportStatus) → status_number status ≡ report.status → false ≡ true) → ⊥
number_is_known scenario report is none =
    one_of_three report.status (has_break scenario.parts (lists_of report.run.journals))
    (has_given_up scenario.parts (lists_of report.run.journals)) is.status none

-- every run has a status
known_status : (broken gone : Bool) → (status : Status) × IsReportStatus (status_by broken gone) status
known_status true gone = (ended.ContractBroken, refl)
known_status false true = (ended.GivenUp, refl)
known_status false false = (ended.Done, refl)

pub run_status : (specs : List PartSpec) (journals : List (List Event)) → (status : Status) × IsReportStatus (status_of specs journals) status
run_status specs journals = known_status (has_break specs journals) (has_given_up specs journals)

-- a status with the number of the run's status is the run's
pub reported_status : (specs : List PartSpec) (journals : List (List Event)) (number : ℕ) (status : Status) → number ≡ status_of specs journals
    → ReportsStatus number status → IsReportStatus (status_of specs journals) status
reported_status specs journals number ended.Done e reports = sym e ∙ reports
reported_status specs journals number ended.GivenUp e reports = sym e ∙ reports
reported_status specs journals number ended.Usage e reports = absurd reports
reported_status specs journals number ended.BadInput e reports = absurd reports
reported_status specs journals number ended.ReadFault e reports = absurd reports
reported_status specs journals number ended.WriteFault e reports = absurd reports
reported_status specs journals number ended.NoMemory e reports = absurd reports
reported_status specs journals number ended.AuditNo e reports = absurd reports
reported_status specs journals number ended.Cut e reports = absurd reports
reported_status specs journals number ended.ContractBroken e reports =
    status_known specs journals (λ z. reports.0 (e ∙ z)) (λ o. reports.1 (e ∙ o))

-- what was written in full ends with the reported status
pub reported_writes : (Answer : List ℕ → Status → Type 0) (sink : Change) (number : ℕ) (status : Status) → ReportsStatus number status
    → IsWritten Answer sink status → Writes Answer sink status
reported_writes Answer sink number ended.Done reports written = written
reported_writes Answer sink number ended.GivenUp reports written = written
reported_writes Answer sink number ended.Usage reports written = absurd reports
reported_writes Answer sink number ended.BadInput reports written = absurd reports
reported_writes Answer sink number ended.ReadFault reports written = absurd reports
reported_writes Answer sink number ended.WriteFault reports written = absurd reports
reported_writes Answer sink number ended.NoMemory reports written = absurd reports
reported_writes Answer sink number ended.AuditNo reports written = absurd reports
reported_writes Answer sink number ended.Cut reports written = absurd reports
reported_writes Answer sink number ended.ContractBroken reports written = written

-- ---- reports

reported : (asked : Form) (scenario : Scenario) (hearing : List Listening) (report : Report) (status : Status) → IsMade asked scenario hearing report
    → IsReportStatus (status_of scenario.parts (map events_in report.run.journals)) status
    → IsReported asked scenario hearing (report_text scenario (map events_in report.run.journals) report.run.answers report.run.taps report.status) status
reported asked scenario hearing report status made is = record {
  left = left_of report.run;
  run = made.run;
  whole = made.whole;
  status_is = is;
  text_is = ap (λ s. report_text scenario (map events_in report.run.journals) report.run.answers report.run.taps s) made.is_report.status;
}

-- a report that was written in full ends with its status
pub report_written : (asked : Form) (scenario : Scenario) (hearing : List Listening) (report : Report) (sink : Change) (status : Status)
    → IsMade asked scenario hearing report
    → Gains sink (report_text scenario (map events_in report.run.journals) report.run.answers report.run.taps report.status)
    → ReportsStatus report.status status → Writes (IsReported asked scenario hearing) sink status
report_written asked scenario hearing report sink status made gained reports =
    let is = reported_status scenario.parts (map events_in report.run.journals) report.status status made.is_report.status reports in
    reported_writes (IsReported asked scenario hearing) sink report.status status reports (record {
      text = report_text scenario (map events_in report.run.journals) report.run.answers report.run.taps report.status;
      answer = reported asked scenario hearing report status made is;
      gained = gained;
    })

-- a prefix of a report was written
pub report_begun : (asked : Form) (scenario : Scenario) (hearing : List Listening) (report : Report) (sink : Change) → IsMade asked scenario hearing report
    → GainsFront sink (report_text scenario (map events_in report.run.journals) report.run.answers report.run.taps report.status)
    → IsBegun (IsReported asked scenario hearing) sink
report_begun asked scenario hearing report sink made front =
    let is = run_status scenario.parts (map events_in report.run.journals) in
    record {
      text = report_text scenario (map events_in report.run.journals) report.run.answers report.run.taps report.status;
      status = is.0;
      answer = reported asked scenario hearing report is.0 made is.1;
      gained = front;
    }

-- ---- summaries

few_parts : (specs : List PartSpec) (journals : List (Kept Event)) (ends : List PartEnd) → length (summaries specs journals ends) ≤ length specs
few_parts [] journals ends = omega arith
few_parts (s ∷ specs) [] ends = omega arith
few_parts (s ∷ specs) (journal ∷ journals) [] = omega arith
few_parts (s ∷ specs) (journal ∷ journals) (e ∷ ends) = let rest = few_parts specs journals ends in omega arith

pub few_events_in : (scenario : Scenario) (hearing : List Listening) (report : Report) → IsValidScenario scenario → IsMade form.Run scenario hearing report
    → events_count (map events_in report.run.journals) < 2 ^ 63
few_events_in scenario hearing report valid made =
    let at : events_count (journals_of made.run.simulation) < 2 ^ 26 =
    subst (λ x. events_count (journals_of x) < 2 ^ 26) made.run.scheduled.reached (few_events scenario made.run.scheduled.steps valid) in
    let less : events_count (map events_in report.run.journals) < 2 ^ 26 = rw (made.run.same_journals) at in
    omega arith

pub few_parts_in : (scenario : Scenario) (hearing : List Listening) (report : Report) → IsValidScenario scenario → IsMade form.Run scenario hearing report → length report.parts ≤ 8
few_parts_in scenario hearing report valid made =
    let most : length scenario.parts ≤ 8 = valid.part_count.1 in
    let few = few_parts scenario.parts report.run.journals report.ends in
    let less : length (summaries scenario.parts report.run.journals report.ends) ≤ 8 = omega arith in
    rw (made.is_report.parts) less

line_is : (n : ℕ) (specs : List PartSpec) (journals : List (List Event))
    → summary_line n specs journals ≡ gen_line n (events_count journals) (failures_count specs journals) (status_of specs journals)
unfolding summary_line
line_is n specs journals = refl

pub summary_is : (scenario : Scenario) (hearing : List Listening) (report : Report) (number : ℕ) → IsMade form.Run scenario hearing report
    → gen_line number (events_count (map events_in report.run.journals)) (failures_in report.parts) report.status
    ≡ summary_line number scenario.parts (map events_in report.run.journals)
summary_is scenario hearing report number made =
    let failures : failures_in report.parts ≡ failures_count scenario.parts (map events_in report.run.journals) =
    ap failures_in made.is_report.parts ∙ same_failures scenario.parts report.run.journals report.ends made.is_report.ends in
    let status : report.status ≡ status_of scenario.parts (map events_in report.run.journals) = made.is_report.status in
    ap (λ f. gen_line number (events_count (map events_in report.run.journals)) f report.status) failures
    ∙ (ap (λ s. gen_line number (events_count (map events_in report.run.journals)) (failures_count scenario.parts (map events_in report.run.journals)) s) status
    ∙ sym (line_is number scenario.parts (map events_in report.run.journals)))

summed : (number : ℕ) (report : Report) (status : Status) → IsMade form.Run (generated number) [] report
    → IsReportStatus (status_of (generated number).parts (map events_in report.run.journals)) status
    → IsSummary number (summary_line number (generated number).parts (map events_in report.run.journals)) status
summed number report status made is = record {
  left = left_of report.run;
  run = made.run;
  whole = made.whole;
  status_is = is;
  text_is = refl;
}

-- a line that was written in full ends with its status
pub summary_written : (number : ℕ) (report : Report) (sink : Change) (status : Status) → IsMade form.Run (generated number) [] report
    → Gains sink (summary_line number (generated number).parts (map events_in report.run.journals)) → ReportsStatus report.status status
    → Writes (IsSummary number) sink status
summary_written number report sink status made gained reports =
    let is = reported_status (generated number).parts (map events_in report.run.journals) report.status status made.is_report.status reports in
    reported_writes (IsSummary number) sink report.status status reports (record {
      text = summary_line number (generated number).parts (map events_in report.run.journals);
      answer = summed number report status made is;
      gained = gained;
    })

-- a prefix of a line was written
pub summary_begun : (number : ℕ) (report : Report) (sink : Change) → IsMade form.Run (generated number) [] report
    → GainsFront sink (summary_line number (generated number).parts (map events_in report.run.journals)) → IsBegun (IsSummary number) sink
summary_begun number report sink made front =
    let is = run_status (generated number).parts (map events_in report.run.journals) in
    record {
      text = summary_line number (generated number).parts (map events_in report.run.journals);
      status = is.0;
      answer = summed number report is.0 made is.1;
      gained = front;
    }

-- ---- what is made of a simulated run

-- the listeners of a bus count what they hear of the run
pub scheduled_of : (scenario : Scenario) (hearing : List Listening) (run : Run) (old new : List (Tap Listening)) → old ≡ map settled hearing
    → IsSimulated scenario run.journals run.answers run.taps old new
    → IsScheduled scenario hearing (left_of run)
scheduled_of scenario hearing run old new begun s = record {
  simulation = s.simulation;
  scheduled = s.scheduled;
  same_journals = s.same_journals;
  same_answers = s.same_answers;
  printed =
      s.same_totals ∙ (ap (map result_of) s.heard
      ∙ (ap (λ taps. map result_of (after_hearing_all (published s.scheduled.steps (begins scenario)) taps)) begun
      ∙ all_totals hearing (published s.scheduled.steps (begins scenario))));
}

all_answered : (scenario : Scenario) (run : Run) (old new : List (Tap Listening)) → IsValidScenario scenario
    → IsSimulated scenario run.journals run.answers run.taps old new → AreAnswered scenario run.answers
all_answered scenario run old new valid simulated =
    ap (λ (table : List (List (ℕ × Answer))). map (λ (own : List (ℕ × Answer)). map (λ (a : ℕ × Answer). a.0) own) table) simulated.same_answers
    ∙ parts_answered scenario simulated.simulation valid simulated.scheduled

made_at : (asked : Form) (scenario : Scenario) (hearing : List Listening) (run : Run) (report : Report) → IsValidScenario scenario
    → IsRunOf asked scenario hearing (left_of run) → AreAnswered scenario run.answers
    → AreRuns scenario.parts (map events_in run.journals) → report.run ≡ run → IsReport scenario report → IsMade asked scenario hearing report
made_at asked scenario hearing run report valid is answered runs e whole = record {
  run = subst (λ (r : Run). IsRunOf asked scenario hearing (left_of r)) (sym e) is;
  whole = subst (λ (r : Run). IsWhole scenario (left_of r)) (sym e) (record {
    safe = all_safe scenario (map events_in run.journals) valid runs;
    answered = answered;
  });
  is_report = whole;
}

-- the report of a run that was simulated
pub made_of : (scenario : Scenario) (hearing : List Listening) (x : WholeRun) (r : Result Report NoMemory) (old new : List (Tap Listening))
    → old ≡ map settled hearing → IsValidScenario scenario
    → IsSimulated scenario x.run.journals x.run.answers x.run.taps old new → AreRuns scenario.parts (map events_in x.run.journals)
    → IfOk r (λ report. report.run ≡ x.run) → IfOk r (λ report. IsReport scenario report) → IfOk r (IsMade form.Run scenario hearing)
made_of scenario hearing x (Err e) old new begun valid simulated runs same whole = same
made_of scenario hearing x (Ok report) old new begun valid simulated runs same whole =
    made_at form.Run scenario hearing x.run report valid (scheduled_of scenario hearing x.run old new begun simulated)
    (all_answered scenario x.run old new valid simulated) runs same whole

-- the report of a run by threads
by_threads_of : (scenario : Scenario) (hearing : List Listening) (run : Run) (old new : List (Tap Listening)) → old ≡ map settled hearing
    → IsThreaded scenario (map events_in run.journals) run.answers → new ≡ after_hearing_all (in_parts 0 (map events_in run.journals)) old
    → run.taps ≡ map result_of new → IsByThreads scenario hearing (left_of run)
by_threads_of scenario hearing run old new begun is heard totals = record {
  threaded = is;
  printed =
      totals ∙ (ap (map result_of) heard
      ∙ (ap (λ taps. map result_of (after_hearing_all (in_parts 0 (map events_in run.journals)) taps)) begun
      ∙ all_totals hearing (in_parts 0 (map events_in run.journals))));
}

pub threads_made_of : (scenario : Scenario) (hearing : List Listening) (x : WholeRun) (r : Result Report NoMemory) (old new : List (Tap Listening))
    → old ≡ map settled hearing → IsValidScenario scenario → AreRuns scenario.parts (map events_in x.run.journals)
    → IsThreaded scenario (map events_in x.run.journals) x.run.answers → AreAnswered scenario x.run.answers
    → new ≡ after_hearing_all (in_parts 0 (map events_in x.run.journals)) old → x.run.taps ≡ map result_of new
    → IfOk r (λ report. report.run ≡ x.run) → IfOk r (λ report. IsReport scenario report) → IfOk r (IsMade form.RunThreads scenario hearing)
threads_made_of scenario hearing x (Err e) old new begun valid runs is answered heard totals same whole = same
threads_made_of scenario hearing x (Ok report) old new begun valid runs is answered heard totals same whole =
    made_at form.RunThreads scenario hearing x.run report valid (by_threads_of scenario hearing x.run old new begun is heard totals)
    answered runs same whole
