-- What a subcommand that never waits does, or an input error: there is an answer of each kind.
use Rattle.std.proofs.Common.{◌≡◌, ℕ, ◌≤◌, nat_lt, Bool, true, false, List, [], ◌++◌, ◌⊎◌, inl, inr, All, is_some, length, map, IfOk, Option, Some, None, Result, Ok, Err, refl, sym, subst}
use Rattle.std.proofs.lemmas.Bool.{ltb-false, ltb-true}
use Rattle.answer_laws.proofs.Answered.{HasAnswer, IsDone, IsFaultOr, answer_by, either_exists, read_exists}
use Rattle.answer_laws.proofs.Explorable.{exploration_exists}
use Rattle.asm_defs.specs.Disassembler.{disassembled}
use Rattle.asm_defs.specs.ImageText.{image_text}
use Rattle.audit_input.proofs.Once.{hands_or_not}
use Rattle.audit_input.specs.Handed.{Hands}
use Rattle.burst_trace.specs.Text.{trace_text}
use Rattle.campaign_defs.specs.TableText.{plan_table_text}
use Rattle.command_forms.specs.Forms.{limit_of}
use Rattle.command_forms.specs.declared.words.Form.TheVariants as form
use Rattle.explore_defs.specs.Explored.{IsExplored, all_numbers}
use Rattle.guard_defs.specs.Guard.{HasRoom}
use Rattle.guard_defs.specs.GuardText.{guard_lines}
use Rattle.guarded_run.specs.Guarded.{IsGuarded}
use Rattle.guarded_run.specs.declared.guarded.Guarded.{Guarded}
use Rattle.input_defs.specs.Faults.{fault_line}
use Rattle.input_defs.specs.ImageReading.{image_from, image_from_asm}
use Rattle.input_defs.specs.PlanReading.{plan_from}
use Rattle.input_defs.specs.ScenarioReading.{scenario_from}
use Rattle.input_defs.specs.declared.input.InputFault.TheVariants as fault
use Rattle.input_defs.specs.declared.input.Refusal.{Refusal}
use Rattle.nook_data.specs.Valid.{IsValidScenario}
use Rattle.nook_data.specs.declared.scenario.Scenario.{Scenario}
use Rattle.nook_io.specs.Listening.{Listening, tap_result}
use Rattle.nooks.proofs.Audits.{sound_report}
use Rattle.nooks.proofs.Campaigns.{promised_table, table_of}
use Rattle.nooks.proofs.Explorations.{exploration, status_exists}
use Rattle.nooks.proofs.Guards.{guard_reported, guardable_parts}
use Rattle.nooks.proofs.Reports.{run_status}
use Rattle.nooks.proofs.Safety.{all_safe}
use Rattle.nooks.proofs.Traces.{is_trace_of}
use Rattle.nooks.specs.Answers.{IsAsmOf, IsAuditOf, IsExploration, IsExploredOf, IsExploredStatus, IsFaultOf, IsGuardOf, IsGuardReport, IsGuardedOf, IsGuardedText, IsImageOf, IsRefusalLine, IsReportOf}
use Rattle.nooks.specs.Answers.{IsReported, IsScheduled, IsSummary, IsTableOf, IsTraceOf, IsWhole, Left, listing_from, verdict_status}
use Rattle.nooks.specs.Guardable.{guardable_from}
use Rattle.nooks.specs.Texts.{at_root, bad_header_text, no_such_burst_text, verdict_text}
use Rattle.nooks.specs.declared.program.Status.TheVariants as ended
use Rattle.order_laws.proofs.ReadOnce.{finds_exists}
use Rattle.plan_defs.specs.Plans.{IsValidPlan}
use Rattle.plan_defs.specs.Types.{Plan}
use Rattle.reading_laws.proofs.PlansRead.{plan_is_valid}
use Rattle.reading_laws.proofs.ScenariosRead.{scenario_is_valid}
use Rattle.report_defs.specs.ReportText.{report_text, status_of, summary_line}
use Rattle.run_defs.specs.Generated.{generated}
use Rattle.run_defs.specs.Simulation.{IsScheduledRun, Simulation, answer_table, begins, journals_of}
use Rattle.run_laws.proofs.Reached.{parts_answered}
use Rattle.scenario_gen.proofs.Limits.{generated_is_valid}
use Rattle.scenario_write.proofs.ComesBack.{line_back}
use Rattle.scenario_write.specs.ScenarioText.{scenario_line}
use Rattle.sim_run.proofs.Ending.{runs_scheduled, scheduled_ends}
use Rattle.sim_run.specs.Published.{published}

-- ---- runs

abbrev left_by : (scenario : Scenario) (hearing : List Listening) (s : Simulation) → IsScheduledRun scenario s → Left
left_by scenario hearing s run = record {
  journals = journals_of s;
  answers = answer_table s;
  taps = map (λ l. tap_result l (published run.steps (begins scenario))) hearing;
}

scheduled_by : (scenario : Scenario) (hearing : List Listening) (s : Simulation) (run : IsScheduledRun scenario s)
    → IsScheduled scenario hearing (left_by scenario hearing s run)
scheduled_by scenario hearing s run =
    record { simulation = s; scheduled = run; same_journals = refl; same_answers = refl; printed = refl }

whole_by : (scenario : Scenario) (hearing : List Listening) (s : Simulation) (run : IsScheduledRun scenario s) → IsValidScenario scenario
    → IsWhole scenario (left_by scenario hearing s run)
whole_by scenario hearing s run valid = record {
  safe = all_safe scenario (journals_of s) valid (runs_scheduled scenario s run);
  answered = parts_answered scenario s valid run;
}

report_exists : (scenario : Scenario) (hearing : List Listening) → IsValidScenario scenario → HasAnswer (IsReported form.Run scenario hearing)
report_exists scenario hearing valid =
    let end = scheduled_ends scenario valid in
    let left : Left = left_by scenario hearing end.0 end.1 in
    let status = run_status scenario.parts (journals_of end.0) in (
      report_text scenario left.journals left.answers left.taps (status_of scenario.parts left.journals),
      (
        status.0,
        record {
          left = left;
          run = scheduled_by scenario hearing end.0 end.1;
          whole = whole_by scenario hearing end.0 end.1 valid;
          status_is = status.1;
          text_is = refl;
        },
      ),
    )

pub summary_exists : (number : ℕ) → number ≤ 256 → HasAnswer (IsSummary number)
summary_exists number most =
    let valid : IsValidScenario (generated number) = generated_is_valid number most in
    let end = scheduled_ends (generated number) valid in
    let status = run_status (generated number).parts (journals_of end.0) in (
      summary_line number (generated number).parts (journals_of end.0),
      (
        status.0,
        record {
          left = left_by (generated number) [] end.0 end.1;
          run = scheduled_by (generated number) [] end.0 end.1;
          whole = whole_by (generated number) [] end.0 end.1 valid;
          status_is = status.1;
          text_is = refl;
        },
      ),
    )

-- ---- inputs

scenario_valid : (bytes : List ℕ) (scenario : Scenario) → scenario_from bytes ≡ Ok scenario → IsValidScenario scenario
scenario_valid bytes scenario is = subst (λ r. IfOk r IsValidScenario) is (scenario_is_valid bytes)

pub run_exists : (bytes : List ℕ) (hearing : List Listening)
    → HasAnswer (IsFaultOr (IsRefusalLine (scenario_from bytes)) (IsReportOf form.Run bytes hearing))
run_exists bytes hearing =
    read_exists (scenario_from bytes) (IsReportOf form.Run bytes hearing)
    (λ scenario is. answer_by (IsReported form.Run scenario hearing) (IsReportOf form.Run bytes hearing)
    (λ text status reported. record { scenario = scenario; reading = is; reported = reported })
    (report_exists scenario hearing (scenario_valid bytes scenario is)))

pub asm_exists : (bytes : List ℕ) → HasAnswer (IsFaultOr (IsRefusalLine (image_from_asm bytes)) (IsDone (IsImageOf bytes)))
asm_exists bytes =
    read_exists (image_from_asm bytes) (IsDone (IsImageOf bytes))
    (λ image is. (image_text image, (ended.Done, (record { image = image; reading = is; text_is = refl }, refl))))

pub dis_exists : (bytes : List ℕ) → HasAnswer (IsFaultOr (IsRefusalLine (image_from bytes)) (IsDone (IsAsmOf bytes)))
dis_exists bytes =
    read_exists (image_from bytes) (IsDone (IsAsmOf bytes))
    (λ image is. (disassembled image, (ended.Done, (record { image = image; reading = is; text_is = refl }, refl))))

pub list_exists : (bytes : List ℕ)
    → HasAnswer (IsFaultOr (IsRefusalLine (listing_from bytes)) (IsDone (λ text. listing_from bytes ≡ Ok text)))
list_exists bytes =
    read_exists (listing_from bytes) (IsDone (λ text. listing_from bytes ≡ Ok text)) (λ text is. (text, (ended.Done, (is, refl))))

table_exists : (bytes : List ℕ) (plan : Plan) → plan_from bytes ≡ Ok plan → HasAnswer (IsDone (IsTableOf bytes))
table_exists bytes plan is =
    let made = promised_table plan (subst (λ r. IfOk r IsValidPlan) is (plan_is_valid bytes)) in
    let text : List ℕ = plan_table_text plan made.0 made.1.0 in
    (text, (ended.Done, (table_of bytes plan made.0 made.1.0 text is made.1.1 refl, refl)))

pub campaign_exists : (bytes : List ℕ) → HasAnswer (IsFaultOr (IsRefusalLine (plan_from bytes)) (IsDone (IsTableOf bytes)))
campaign_exists bytes = read_exists (plan_from bytes) (IsDone (IsTableOf bytes)) (table_exists bytes)

-- ---- traces

traced : (bytes : List ℕ) (part burst : ℕ) (scenario : Scenario) (s : Simulation) (trace : Option (List ℕ))
    → scenario_from bytes ≡ Ok scenario → IsScheduledRun scenario s → trace ≡ trace_text scenario.parts (journals_of s) part burst
    → HasAnswer (IsFaultOr (IsFaultOf (form.Trace part burst) bytes) (IsDone (IsTraceOf bytes part burst)))
traced bytes part burst scenario s None reading run is = (
  no_such_burst_text,
  (
    ended.BadInput,
    inl (
      inr (record {
        scenario = scenario;
        reading = reading;
        none = record { simulation = s; scheduled = run; text_is = is };
        text_is = refl;
      }),
      refl,
    ),
  ),
)
traced bytes part burst scenario s (Some text) reading run is = (
  text,
  (
    ended.Done,
    inr (
      is_trace_of bytes scenario part burst text reading (record { simulation = s; scheduled = run; text_is = is }),
      refl,
    ),
  ),
)

pub trace_exists : (bytes : List ℕ) (part burst : ℕ)
    → HasAnswer (IsFaultOr (IsFaultOf (form.Trace part burst) bytes) (IsDone (IsTraceOf bytes part burst)))
trace_exists bytes part burst =
    either_exists (scenario_from bytes) (IsFaultOf (form.Trace part burst) bytes) (IsDone (IsTraceOf bytes part burst)) (λ text line. inl line)
    (λ scenario is. let end = scheduled_ends scenario (scenario_valid bytes scenario is) in
    traced bytes part burst scenario end.0 (trace_text scenario.parts (journals_of end.0) part burst) is end.1 refl)

-- ---- guards

-- every scenario that has room for its traps can be guarded
abbrev pub AllGuarded : Type 0
AllGuarded = (scenario : Scenario) → IsValidScenario scenario → All HasRoom scenario.parts → (made : Guarded) × IsGuarded scenario made

guard_report_exists : (scenario : Scenario) (hearing : List Listening) (made : Guarded) → IsGuarded scenario made
    → HasAnswer (IsGuardReport scenario hearing)
guard_report_exists scenario hearing made is =
    let left : Left = left_by made.scenario hearing is.simulation is.scheduled in
    let status = run_status made.scenario.parts (journals_of is.simulation) in
    let text : List ℕ = guard_lines made.stops
    ++ report_text made.scenario left.journals left.answers left.taps (status_of made.scenario.parts left.journals) in (
      text,
      (
        status.0,
        guard_reported scenario hearing made left text status.0 is (scheduled_by made.scenario hearing is.simulation is.scheduled)
            (whole_by made.scenario hearing is.simulation is.scheduled is.valid) status.1 refl,
      ),
    )

pub guard_exists : AllGuarded → (bytes : List ℕ) (hearing : List Listening)
    → HasAnswer (IsFaultOr (IsRefusalLine (guardable_from bytes)) (IsGuardOf bytes hearing))
guard_exists guarded bytes hearing = read_exists (guardable_from bytes) (IsGuardOf bytes hearing) by_scenario
  where
    by_scenario : (scenario : Scenario) → guardable_from bytes ≡ Ok scenario → HasAnswer (IsGuardOf bytes hearing)
    by_scenario scenario is =
        let read = guardable_parts (scenario_from bytes) scenario is in
        let made = guarded scenario (scenario_valid bytes scenario read.0) read.1 in
        answer_by (IsGuardReport scenario hearing) (IsGuardOf bytes hearing)
        (λ text status reported. record { scenario = scenario; reading = is; room = read.1; reported = reported })
        (guard_report_exists scenario hearing made.0 made.1)

-- the guarded scenario of a scenario, whose text is short enough to be written, or too long
guarded_given : (bytes : List ℕ) (scenario : Scenario) (text : List ℕ) (long : Bool) → guardable_from bytes ≡ Ok scenario
    → All HasRoom scenario.parts → IsGuardedText scenario text → nat_lt (limit_of form.Run) (length text) ≡ long
    → HasAnswer (IsFaultOr (IsFaultOf form.GuardScenario bytes) (IsDone (IsGuardedOf bytes)))
guarded_given bytes scenario text true reading room is long = (
  fault_line (at_root fault.TooMany),
  (
    ended.BadInput,
    inl (
      inr (record {
        scenario = scenario;
        reading = reading;
        too_long = record {
          line = text;
          is_line = is;
          long = ltb-true (limit_of form.Run) (length text) long;
          text_is = refl;
        };
      }),
      refl,
    ),
  ),
)
guarded_given bytes scenario text false reading room is long = (
  text,
  (
    ended.Done,
    inr (
      record {
        scenario = scenario;
        reading = reading;
        room = room;
        line = (is, ltb-false (limit_of form.Run) (length text) long);
      },
      refl,
    ),
  ),
)

guarded_text_of : (scenario : Scenario) (made : Guarded) → IsGuarded scenario made → IsGuardedText scenario (scenario_line made.scenario)
guarded_text_of scenario made is = record {
  guarded = made.scenario;
  is_guarded = record { simulation = is.simulation; run = is.guarded; same = is.same };
  text_is = refl;
  back = line_back made.scenario is.valid;
}

pub guarded_exists : AllGuarded → (bytes : List ℕ)
    → HasAnswer (IsFaultOr (IsFaultOf form.GuardScenario bytes) (IsDone (IsGuardedOf bytes)))
guarded_exists guarded bytes =
    either_exists (guardable_from bytes) (IsFaultOf form.GuardScenario bytes) (IsDone (IsGuardedOf bytes)) (λ text line. inl line) by_scenario
  where
    by_scenario : (scenario : Scenario) → guardable_from bytes ≡ Ok scenario
        → HasAnswer (IsFaultOr (IsFaultOf form.GuardScenario bytes) (IsDone (IsGuardedOf bytes)))
    by_scenario scenario is =
        let read = guardable_parts (scenario_from bytes) scenario is in
        let made = guarded scenario (scenario_valid bytes scenario read.0) read.1 in
        let text : List ℕ = scenario_line made.0.scenario in
        guarded_given bytes scenario text (nat_lt (limit_of form.Run) (length text)) is read.1
        (guarded_text_of scenario made.0 made.1) refl

-- ---- every order of the steps

exploration_reported : (scenario : Scenario) (text : List ℕ) (number : ℕ) → IsExplored scenario text number → HasAnswer (IsExploration scenario)
exploration_reported scenario text number explored =
    let status = status_exists (is_some explored.cut) (all_numbers scenario explored.firsts) in (
      text,
      (
        status.0,
        exploration scenario text number status.0 explored
            (subst (λ (n : ℕ). IsExploredStatus n status.0) (sym explored.status_is) status.1),
      ),
    )

pub explore_exists : (bytes : List ℕ) → HasAnswer (IsFaultOr (IsRefusalLine (scenario_from bytes)) (IsExploredOf bytes))
explore_exists bytes = read_exists (scenario_from bytes) (IsExploredOf bytes) by_scenario
  where
    by_scenario : (scenario : Scenario) → scenario_from bytes ≡ Ok scenario → HasAnswer (IsExploredOf bytes)
    by_scenario scenario is =
        let made = exploration_exists scenario (scenario_valid bytes scenario is) in
        answer_by (IsExploration scenario) (IsExploredOf bytes)
        (λ text status printed. record { scenario = scenario; reading = is; exploration = printed })
        (exploration_reported scenario made.0 made.1.0 made.1.1)

-- ---- audits

verdict_exists : (bytes handed report : List ℕ) (r : Result Scenario Refusal) → Hands bytes handed report
    → length handed ≤ limit_of form.Run → scenario_from handed ≡ r → IfOk r IsValidScenario
    → HasAnswer (IsFaultOr (IsFaultOf form.Audit bytes) (IsAuditOf bytes))
verdict_exists bytes handed report (Ok scenario) hands short is valid =
    let f = finds_exists scenario report in (
      verdict_text f.0,
      (
        verdict_status f.0,
        inr (record {
          handed = handed;
          report = report;
          hands = hands;
          short = short;
          scenario = scenario;
          reading = is;
          verdict = record {
            found = f.0;
            finds = f.1;
            text_is = refl;
            status_is = refl;
            sound = sound_report scenario report f.0 valid f.1;
          };
        }),
      ),
    )
verdict_exists bytes handed report (Err refusal) hands short is valid = (
  fault_line refusal,
  (
    ended.BadInput,
    inl (
      inr (record {
        scenario = handed;
        report = report;
        hands = hands;
        fault = inr (short, record { refusal = refusal; is = is; text_is = refl });
      }),
      refl,
    ),
  ),
)

by_length : (bytes handed report : List ℕ) (long : Bool) → Hands bytes handed report
    → nat_lt (limit_of form.Run) (length handed) ≡ long → HasAnswer (IsFaultOr (IsFaultOf form.Audit bytes) (IsAuditOf bytes))
by_length bytes handed report true hands is = (
  fault_line (at_root fault.TooMany),
  (
    ended.BadInput,
    inl (
      inr (record {
        scenario = handed;
        report = report;
        hands = hands;
        fault = inl (ltb-true (limit_of form.Run) (length handed) is, refl);
      }),
      refl,
    ),
  ),
)
by_length bytes handed report false hands is =
    verdict_exists bytes handed report (scenario_from handed) hands (ltb-false (limit_of form.Run) (length handed) is) refl
    (scenario_is_valid handed)

pub audit_exists : (bytes : List ℕ) → HasAnswer (IsFaultOr (IsFaultOf form.Audit bytes) (IsAuditOf bytes))
audit_exists bytes = by_handed (hands_or_not bytes)
  where
    by_handed : ((scenario : List ℕ) × ((report : List ℕ) × Hands bytes scenario report)) ⊎ ((scenario report : List ℕ) → Hands bytes scenario report → ⊥)
        → HasAnswer (IsFaultOr (IsFaultOf form.Audit bytes) (IsAuditOf bytes))
    by_handed (inl h) = by_length bytes h.0 h.1.0 (nat_lt (limit_of form.Run) (length h.0)) h.1.1 refl
    by_handed (inr none) = (bad_header_text, (ended.BadInput, inl (inl (none, refl), refl)))
