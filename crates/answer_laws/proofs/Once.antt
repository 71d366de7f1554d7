-- What a subcommand with one possible answer does, or an input error: there is at most one answer of each kind.
use Rattle.std.proofs.Common.{◌≡◌, ℕ, ◌==◌, ◌<◌, ◌≤◌, if◌then◌else◌, List, [], ◌∷◌, ◌++◌, inl, inr, length, map, Option, Some, None, Ok, IfOk, refl, sym, ap, ◌∙◌, subst, arith}
use Rattle.std.specs.List.{AllZip}
use Rattle.answer_laws.proofs.Answered.{HasOneAnswer, IsDone, IsFaultOr, done_once, either_once, not_both, ok_once, read_once, refusal_once}
use Rattle.answer_laws.proofs.Stops.{guarded_once}
use Rattle.asm_defs.specs.Disassembler.{disassembled}
use Rattle.asm_defs.specs.ImageText.{image_text}
use Rattle.audit_input.proofs.Once.{hands_once}
use Rattle.audited_runs.proofs.Texts.{results_same}
use Rattle.burst_trace.specs.Text.{IsTraceText, trace_text}
use Rattle.campaign_defs.specs.Members.{Ran, members}
use Rattle.campaign_defs.specs.Rows.{AreMemberRows, IsPlanTable}
use Rattle.campaign_defs.specs.TableText.{plan_table_text}
use Rattle.campaign_defs.specs.Types.{Row}
use Rattle.campaign_laws.proofs.PlanTables.{plan_table_once}
use Rattle.command_forms.specs.Forms.{limit_of}
use Rattle.command_forms.specs.declared.words.Form.TheVariants as form
use Rattle.guard_defs.specs.GuardText.{guard_lines}
use Rattle.input_defs.specs.ImageReading.{image_from, image_from_asm}
use Rattle.input_defs.specs.PlanReading.{plan_from}
use Rattle.input_defs.specs.ScenarioReading.{scenario_from}
use Rattle.nook_data.specs.declared.scenario.Fault.{Fault}
use Rattle.nook_data.specs.declared.scenario.PartSpec.{PartSpec}
use Rattle.nook_data.specs.Valid.{IsValidScenario}
use Rattle.nook_data.specs.declared.scenario.Scenario.{Scenario}
use Rattle.nook_data.specs.declared.steps.Event.{Event}
use Rattle.nook_io.specs.Listening.{Listening, heard_events, tap_result}
use Rattle.campaign_laws.proofs.Traps.{traps_once}
use Rattle.nooks.specs.Answers.{IsAsmOf, IsAuditOf, IsFaultOf, IsGuardOf, IsGuardReport, IsGuardedOf, IsGuardedText}
use Rattle.nooks.specs.Answers.{IsImageOf, IsMember, IsRefusalLine, IsReportOf}
use Rattle.nooks.specs.Answers.{IsReportStatus, IsReported, IsScenarioFault, IsScheduled, IsSummary, IsTableOf, IsTraceOf, IsVerdict, Left, listing_from, verdict_status}
use Rattle.nooks.specs.Guardable.{guardable_from}
use Rattle.nooks.specs.Texts.{verdict_text}
use Rattle.nooks.specs.declared.program.Status.{Status}
use Rattle.nooks.specs.declared.program.Status.TheVariants as ended
use Rattle.order_laws.proofs.ReadOnce.{finds_once}
use Rattle.plan_defs.specs.Types.{Plan}
use Rattle.reading_laws.proofs.ScenariosRead.{scenario_is_valid}
use Rattle.report_defs.specs.ReportText.{report_text, status_of, summary_line}
use Rattle.run_defs.specs.Generated.{generated}
use Rattle.run_defs.specs.Simulation.{IsScheduledRun, Simulation, answer_table, begins, journals_of}
use Rattle.scenario_write.specs.ScenarioText.{scenario_line}
use Rattle.sim_run.proofs.Ending.{scheduled_once}
use Rattle.sim_run.proofs.Publishing.{journals_are_heard}
use Rattle.sim_run.specs.Published.{heard_in_journals, published}

-- ---- options

some_once : {T : Type 0} (a b : T) → Some a ≡ Some b → a ≡ b
some_once a b e = cc

not_none : {P T : Type 0} (o : Option T) (a : T) → Some a ≡ o → None ≡ o → P
not_none o a e f = absurd (cc)

-- ---- statuses

abbrev status_by : ℕ → Status
status_by number = if number == 0 then ended.Done else if number == 1 then ended.GivenUp else ended.ContractBroken

reported_status : (number : ℕ) (status : Status) → IsReportStatus number status → status ≡ status_by number
reported_status number ended.Done is = rw is refl
reported_status number ended.GivenUp is = rw is refl
reported_status number ended.Usage is = absurd is
reported_status number ended.BadInput is = absurd is
reported_status number ended.ReadFault is = absurd is
reported_status number ended.WriteFault is = absurd is
reported_status number ended.NoMemory is = absurd is
reported_status number ended.ContractBroken is = rw is refl
reported_status number ended.AuditNo is = absurd is
reported_status number ended.Cut is = absurd is

-- ---- runs

-- what a listener counts in a run that is not stopped is what it counts in its journals
counted : (scenario : Scenario) (s : Simulation) (run : IsScheduledRun scenario s) (l : Listening)
    → heard_events l (published run.steps (begins scenario)) ≡ heard_in_journals l 0 (journals_of s)
counted scenario s run l =
    journals_are_heard l scenario run.steps ∙ ap (λ t. heard_in_journals l 0 (journals_of t)) run.reached

taps_once : (scenario : Scenario) (hearing : List Listening) (s t : Simulation) (run : IsScheduledRun scenario s) (again : IsScheduledRun scenario t)
    → map (λ l. tap_result l (published run.steps (begins scenario))) hearing ≡ map (λ l. tap_result l (published again.steps (begins scenario))) hearing
taps_once scenario hearing s t run again =
    results_same (published run.steps (begins scenario)) (published again.steps (begins scenario)) hearing (λ l.
    counted scenario s run l
    ∙ (ap (λ x. heard_in_journals l 0 (journals_of x)) (scheduled_once scenario s t run again) ∙ sym (counted scenario t again l)))

journals_once : (scenario : Scenario) (hearing : List Listening) (x y : Left) → IsScheduled scenario hearing x → IsScheduled scenario hearing y
    → x.journals ≡ y.journals
journals_once scenario hearing x y a b =
    a.same_journals
    ∙ (ap journals_of (scheduled_once scenario a.simulation b.simulation a.scheduled b.scheduled) ∙ sym b.same_journals)

answers_once : (scenario : Scenario) (hearing : List Listening) (x y : Left) → IsScheduled scenario hearing x → IsScheduled scenario hearing y
    → x.answers ≡ y.answers
answers_once scenario hearing x y a b =
    a.same_answers
    ∙ (ap answer_table (scheduled_once scenario a.simulation b.simulation a.scheduled b.scheduled) ∙ sym b.same_answers)

totals_once : (scenario : Scenario) (hearing : List Listening) (x y : Left) → IsScheduled scenario hearing x → IsScheduled scenario hearing y
    → x.taps ≡ y.taps
totals_once scenario hearing x y a b = a.printed ∙ (taps_once scenario hearing a.simulation b.simulation a.scheduled b.scheduled ∙ sym b.printed)

statuses_once : (parts : List PartSpec) (xs ys : List (List Event)) (status end : Status) → xs ≡ ys → IsReportStatus (status_of parts xs) status
    → IsReportStatus (status_of parts ys) end → status ≡ end
statuses_once parts xs ys status end e a b =
    reported_status (status_of parts xs) status a
    ∙ (ap (λ js. status_by (status_of parts js)) e ∙ sym (reported_status (status_of parts ys) end b))

texts_same : (scenario : Scenario) (x y : Left) → x.journals ≡ y.journals → x.answers ≡ y.answers → x.taps ≡ y.taps
    → report_text scenario x.journals x.answers x.taps (status_of scenario.parts x.journals)
    ≡ report_text scenario y.journals y.answers y.taps (status_of scenario.parts y.journals)
texts_same scenario x y journals answers taps = rw (journals, answers, taps) refl

reported_once : (scenario : Scenario) (hearing : List Listening) (text other : List ℕ) (status end : Status)
    → IsReported form.Run scenario hearing text status → IsReported form.Run scenario hearing other end → (text ≡ other) × (status ≡ end)
reported_once scenario hearing text other status end a b =
    let journals = journals_once scenario hearing a.left b.left a.run b.run in (
      a.text_is
          ∙ (texts_same scenario a.left b.left journals (answers_once scenario hearing a.left b.left a.run b.run)
          (totals_once scenario hearing a.left b.left a.run b.run) ∙ sym b.text_is),
      statuses_once scenario.parts a.left.journals b.left.journals status end journals a.status_is b.status_is,
    )

pub summary_once : (number : ℕ) (text other : List ℕ) (status end : Status) → IsSummary number text status → IsSummary number other end
    → (text ≡ other) × (status ≡ end)
summary_once number text other status end a b =
    let journals = journals_once (generated number) [] a.left b.left a.run b.run in (
      a.text_is ∙ (ap (summary_line number (generated number).parts) journals ∙ sym b.text_is),
      statuses_once (generated number).parts a.left.journals b.left.journals status end journals a.status_is b.status_is,
    )

-- the reports of one scenario's runs
reports_once : (one other : Scenario) (hearing : List Listening) (x y : Left) → one ≡ other → IsScheduled one hearing x → IsScheduled other hearing y
    → (report_text one x.journals x.answers x.taps (status_of one.parts x.journals)
    ≡ report_text other y.journals y.answers y.taps (status_of other.parts y.journals))
    × (status_of one.parts x.journals ≡ status_of other.parts y.journals)
reports_once one other hearing x y e a b =
    let at : IsScheduled other hearing x = subst (λ s. IsScheduled s hearing x) e a in
    let journals = journals_once other hearing x y at b in (
      ap (λ (s : Scenario). report_text s x.journals x.answers x.taps (status_of s.parts x.journals)) e
          ∙ texts_same other x y journals (answers_once other hearing x y at b) (totals_once other hearing x y at b),
      ap (λ (s : Scenario). status_of s.parts x.journals) e ∙ ap (λ js. status_of other.parts js) journals,
    )

guard_report_once : (scenario : Scenario) (hearing : List Listening) (text other : List ℕ) (status end : Status)
    → IsGuardReport scenario hearing text status → IsGuardReport scenario hearing other end → (text ≡ other) × (status ≡ end)
guard_report_once scenario hearing text other status end a b =
    let guarded : a.guarded ≡ b.guarded = guarded_once scenario a.guarded b.guarded a.is_guarded b.is_guarded in
    let same = reports_once a.guarded b.guarded hearing a.left b.left guarded a.run b.run in
    let stops : a.stops ≡ b.stops =
    a.found
    ∙ (traps_once scenario a.is_guarded.simulation b.is_guarded.simulation a.is_guarded.run b.is_guarded.run ∙ sym b.found) in (
      a.text_is
          ∙ (ap (λ ls. guard_lines ls
          ++ report_text a.guarded a.left.journals a.left.answers a.left.taps (status_of a.guarded.parts a.left.journals)) stops
          ∙ (ap (λ t. guard_lines b.stops ++ t) same.0 ∙ sym b.text_is)),
      reported_status (status_of a.guarded.parts a.left.journals) status a.status_is
          ∙ (ap status_by same.1 ∙ sym (reported_status (status_of b.guarded.parts b.left.journals) end b.status_is)),
    )

guarded_text_once : (scenario : Scenario) (text other : List ℕ) → IsGuardedText scenario text → IsGuardedText scenario other → text ≡ other
guarded_text_once scenario text other a b =
    a.text_is ∙ (ap scenario_line (guarded_once scenario a.guarded b.guarded a.is_guarded b.is_guarded) ∙ sym b.text_is)

-- ---- each subcommand

report_once : (bytes : List ℕ) (hearing : List Listening) (text other : List ℕ) (status end : Status)
    → IsReportOf form.Run bytes hearing text status → IsReportOf form.Run bytes hearing other end → (text ≡ other) × (status ≡ end)
report_once bytes hearing text other status end a b =
    let same = ok_once (scenario_from bytes) a.scenario b.scenario a.reading b.reading in
    reported_once b.scenario hearing text other status end (subst (λ s. IsReported form.Run s hearing text status) same a.reported) b.reported

image_once : (bytes text other : List ℕ) → IsImageOf bytes text → IsImageOf bytes other → text ≡ other
image_once bytes text other a b =
    a.text_is ∙ (ap image_text (ok_once (image_from_asm bytes) a.image b.image a.reading b.reading) ∙ sym b.text_is)

asm_text_once : (bytes text other : List ℕ) → IsAsmOf bytes text → IsAsmOf bytes other → text ≡ other
asm_text_once bytes text other a b =
    a.text_is ∙ (ap disassembled (ok_once (image_from bytes) a.image b.image a.reading b.reading) ∙ sym b.text_is)

member_rows : (plan : Plan) (base : Ran) (lists : List (List Fault)) (rows : List Row) → AllZip (IsMember plan base) lists rows
    → AreMemberRows plan base lists rows
member_rows plan base [] [] are = tt
member_rows plan base [] (row ∷ rows) are = absurd are
member_rows plan base (faults ∷ lists) [] are = absurd are
member_rows plan base (faults ∷ lists) (row ∷ rows) are = (
  record { ran = are.0.ran; is_run = are.0.promised.is_run; same = are.0.row_is },
  member_rows plan base lists rows are.1,
)

plan_table : (bytes text : List ℕ) (is : IsTableOf bytes text) → IsPlanTable is.plan is.base is.rows
plan_table bytes text is =
    record { is_base = is.promised.is_run; members = member_rows is.plan is.base (members is.plan is.base) is.rows is.members }

tables_once : (one other : Plan) (base again : Ran) (rows others : List Row) → one ≡ other → IsPlanTable one base rows
    → IsPlanTable other again others → plan_table_text one base rows ≡ plan_table_text other again others
tables_once one other base again rows others e a b =
    let same = plan_table_once other base again rows others (subst (λ (p : Plan). IsPlanTable p base rows) e a) b in
    ap (λ (p : Plan). plan_table_text p base rows) e
    ∙ (ap (λ (ran : Ran). plan_table_text other ran rows) same.0 ∙ ap (plan_table_text other again) same.1)

table_is_one : (bytes text other : List ℕ) → IsTableOf bytes text → IsTableOf bytes other → text ≡ other
table_is_one bytes text other a b =
    a.text_is
    ∙ (tables_once a.plan b.plan a.base b.base a.rows b.rows (ok_once (plan_from bytes) a.plan b.plan a.reading b.reading)
    (plan_table bytes text a) (plan_table bytes other b) ∙ sym b.text_is)

verdict_once : (scenario : Scenario) (report text other : List ℕ) (status end : Status) → IsValidScenario scenario
    → IsVerdict scenario report text status → IsVerdict scenario report other end → (text ≡ other) × (status ≡ end)
verdict_once scenario report text other status end valid a b =
    let same = finds_once scenario report a.found b.found valid a.finds b.finds in (
      a.text_is ∙ (ap (λ r. verdict_text r) same ∙ sym b.text_is),
      a.status_is ∙ (ap (λ r. verdict_status r) same ∙ sym b.status_is),
    )

audit_verdict_once : (bytes text other : List ℕ) (status end : Status) → IsAuditOf bytes text status → IsAuditOf bytes other end
    → (text ≡ other) × (status ≡ end)
audit_verdict_once bytes text other status end a b =
    let same = hands_once bytes a.handed a.report b.handed b.report a.hands b.hands in
    let scenario = ok_once (scenario_from b.handed) a.scenario b.scenario (subst (λ h. scenario_from h ≡ Ok a.scenario) same.0 a.reading) b.reading in
    verdict_once b.scenario b.report text other status end (subst (λ r. IfOk r IsValidScenario) b.reading (scenario_is_valid b.handed))
    (subst (λ r. IsVerdict b.scenario r text status) same.1 (subst (λ s. IsVerdict s a.report text status) scenario a.verdict)) b.verdict

trace_at : (scenario : Scenario) (part burst : ℕ) (one other : Option (List ℕ)) → IsTraceText scenario part burst one
    → IsTraceText scenario part burst other → one ≡ other
trace_at scenario part burst one other a b =
    a.text_is
    ∙ (ap (λ s. trace_text scenario.parts (journals_of s) part burst)
    (scheduled_once scenario a.simulation b.simulation a.scheduled b.scheduled) ∙ sym b.text_is)

traces_once : (bytes : List ℕ) (part burst : ℕ) (scenario again : Scenario) (one other : Option (List ℕ)) → scenario_from bytes ≡ Ok scenario
    → scenario_from bytes ≡ Ok again → IsTraceText scenario part burst one → IsTraceText again part burst other → one ≡ other
traces_once bytes part burst scenario again one other a b x y =
    trace_at again part burst one other
    (subst (λ s. IsTraceText s part burst one) (ok_once (scenario_from bytes) scenario again a b) x) y

trace_text_once : (bytes : List ℕ) (part burst : ℕ) (text other : List ℕ) → IsTraceOf bytes part burst text → IsTraceOf bytes part burst other
    → text ≡ other
trace_text_once bytes part burst text other a b =
    some_once text other (traces_once bytes part burst a.scenario b.scenario (Some text) (Some other) a.reading b.reading a.trace b.trace)

guarded_run_once : (bytes : List ℕ) (hearing : List Listening) (text other : List ℕ) (status end : Status) → IsGuardOf bytes hearing text status
    → IsGuardOf bytes hearing other end → (text ≡ other) × (status ≡ end)
guarded_run_once bytes hearing text other status end a b =
    let same = ok_once (guardable_from bytes) a.scenario b.scenario a.reading b.reading in
    guard_report_once b.scenario hearing text other status end (subst (λ s. IsGuardReport s hearing text status) same a.reported) b.reported

guarded_of_once : (bytes text other : List ℕ) → IsGuardedOf bytes text → IsGuardedOf bytes other → text ≡ other
guarded_of_once bytes text other a b =
    let same = ok_once (guardable_from bytes) a.scenario b.scenario a.reading b.reading in
    guarded_text_once b.scenario text other (subst (λ s. IsGuardedText s text) same a.line.0) b.line.0

-- ---- input errors

scenario_fault_once : (handed text other : List ℕ) → IsScenarioFault handed text → IsScenarioFault handed other → text ≡ other
scenario_fault_once handed text other (inl a) (inl b) = a.1 ∙ sym b.1
scenario_fault_once handed text other (inl a) (inr b) = let long : 1048576 < length handed = a.0 in let short : length handed ≤ 1048576 = b.0 in absurd (omega (arith, long, short))
scenario_fault_once handed text other (inr a) (inl b) = let short : length handed ≤ 1048576 = a.0 in let long : 1048576 < length handed = b.0 in absurd (omega (arith, long, short))
scenario_fault_once handed text other (inr a) (inr b) = refusal_once (scenario_from handed) text other a.1 b.1

audit_fault_once : (bytes text other : List ℕ) → IsFaultOf form.Audit bytes text → IsFaultOf form.Audit bytes other → text ≡ other
audit_fault_once bytes text other (inl a) (inl b) = a.1 ∙ sym b.1
audit_fault_once bytes text other (inl a) (inr b) = absurd (a.0 b.scenario b.report b.hands)
audit_fault_once bytes text other (inr a) (inl b) = absurd (b.0 a.scenario a.report a.hands)
audit_fault_once bytes text other (inr a) (inr b) =
    scenario_fault_once b.scenario text other
    (subst (λ h. IsScenarioFault h text) (hands_once bytes a.scenario a.report b.scenario b.report a.hands b.hands).0 a.fault) b.fault

scenario_has_no_fault : {P : Type 0} (handed text : List ℕ) (scenario : Scenario) → length handed ≤ limit_of form.Run → scenario_from handed ≡ Ok scenario
    → IsScenarioFault handed text → P
scenario_has_no_fault handed text scenario short reading (inl a) =
    let long : 1048576 < length handed = a.0 in let low : length handed ≤ 1048576 = short in absurd (omega (arith, long, low))
scenario_has_no_fault handed text scenario short reading (inr a) = not_both (scenario_from handed) scenario a.1.refusal reading a.1.is

audit_has_no_fault : {P : Type 0} (bytes text other : List ℕ) (status : Status) → IsAuditOf bytes text status → IsFaultOf form.Audit bytes other → P
audit_has_no_fault bytes text other status a (inl b) = absurd (b.0 a.handed a.report a.hands)
audit_has_no_fault bytes text other status a (inr b) =
    scenario_has_no_fault a.handed other a.scenario a.short a.reading
    (subst (λ h. IsScenarioFault h other) (hands_once bytes b.scenario b.report a.handed a.report b.hands a.hands).0 b.fault)

trace_fault_once : (bytes : List ℕ) (part burst : ℕ) (text other : List ℕ) → IsFaultOf (form.Trace part burst) bytes text
    → IsFaultOf (form.Trace part burst) bytes other → text ≡ other
trace_fault_once bytes part burst text other (inl a) (inl b) = refusal_once (scenario_from bytes) text other a b
trace_fault_once bytes part burst text other (inl a) (inr b) = not_both (scenario_from bytes) b.scenario a.refusal b.reading a.is
trace_fault_once bytes part burst text other (inr a) (inl b) = not_both (scenario_from bytes) a.scenario b.refusal a.reading b.is
trace_fault_once bytes part burst text other (inr a) (inr b) = a.text_is ∙ sym b.text_is

trace_has_no_fault : {P : Type 0} (bytes : List ℕ) (part burst : ℕ) (text other : List ℕ) → IsTraceOf bytes part burst text
    → IsFaultOf (form.Trace part burst) bytes other → P
trace_has_no_fault bytes part burst text other a (inl b) = not_both (scenario_from bytes) a.scenario b.refusal a.reading b.is
trace_has_no_fault bytes part burst text other a (inr b) =
    not_none None text (traces_once bytes part burst a.scenario b.scenario (Some text) None a.reading b.reading a.trace b.none) refl

guarded_fault_once : (bytes text other : List ℕ) → IsFaultOf form.GuardScenario bytes text → IsFaultOf form.GuardScenario bytes other
    → text ≡ other
guarded_fault_once bytes text other (inl a) (inl b) = refusal_once (guardable_from bytes) text other a b
guarded_fault_once bytes text other (inl a) (inr b) = not_both (guardable_from bytes) b.scenario a.refusal b.reading a.is
guarded_fault_once bytes text other (inr a) (inl b) = not_both (guardable_from bytes) a.scenario b.refusal a.reading b.is
guarded_fault_once bytes text other (inr a) (inr b) = a.too_long.text_is ∙ sym b.too_long.text_is

guarded_has_no_fault : {P : Type 0} (bytes text other : List ℕ) → IsGuardedOf bytes text → IsFaultOf form.GuardScenario bytes other → P
guarded_has_no_fault bytes text other a (inl b) = not_both (guardable_from bytes) a.scenario b.refusal a.reading b.is
guarded_has_no_fault bytes text other a (inr b) =
    let scenario = ok_once (guardable_from bytes) a.scenario b.scenario a.reading b.reading in
    let same = guarded_text_once b.scenario text b.too_long.line (subst (λ s. IsGuardedText s text) scenario a.line.0) b.too_long.is_line in
    let short : length text ≤ 1048576 = a.line.1 in
    let long : 1048576 < length text = subst (λ t. 1048576 < length t) (sym same) b.too_long.long in
    absurd (omega (arith, short, long))

-- ---- answers

pub run_once : (bytes : List ℕ) (hearing : List Listening)
    → HasOneAnswer (IsFaultOr (IsRefusalLine (scenario_from bytes)) (IsReportOf form.Run bytes hearing))
run_once bytes hearing =
    read_once (scenario_from bytes) (IsReportOf form.Run bytes hearing) (report_once bytes hearing)
    (λ text status is. (is.scenario, is.reading))

pub asm_once : (bytes : List ℕ) → HasOneAnswer (IsFaultOr (IsRefusalLine (image_from_asm bytes)) (IsDone (IsImageOf bytes)))
asm_once bytes =
    read_once (image_from_asm bytes) (IsDone (IsImageOf bytes)) (done_once (IsImageOf bytes) (image_once bytes))
    (λ text status is. (is.0.image, is.0.reading))

pub dis_once : (bytes : List ℕ) → HasOneAnswer (IsFaultOr (IsRefusalLine (image_from bytes)) (IsDone (IsAsmOf bytes)))
dis_once bytes =
    read_once (image_from bytes) (IsDone (IsAsmOf bytes)) (done_once (IsAsmOf bytes) (asm_text_once bytes))
    (λ text status is. (is.0.image, is.0.reading))

pub audit_once : (bytes : List ℕ) → HasOneAnswer (IsFaultOr (IsFaultOf form.Audit bytes) (IsAuditOf bytes))
audit_once bytes =
    either_once (IsFaultOf form.Audit bytes) (IsAuditOf bytes) (audit_fault_once bytes) (audit_verdict_once bytes)
    (λ text other status is line. audit_has_no_fault bytes text other status is line)

pub campaign_once : (bytes : List ℕ) → HasOneAnswer (IsFaultOr (IsRefusalLine (plan_from bytes)) (IsDone (IsTableOf bytes)))
campaign_once bytes =
    read_once (plan_from bytes) (IsDone (IsTableOf bytes)) (done_once (IsTableOf bytes) (table_is_one bytes))
    (λ text status is. (is.0.plan, is.0.reading))

pub list_once : (bytes : List ℕ)
    → HasOneAnswer (IsFaultOr (IsRefusalLine (listing_from bytes)) (IsDone (λ text. listing_from bytes ≡ Ok text)))
list_once bytes =
    read_once (listing_from bytes) (IsDone (λ text. listing_from bytes ≡ Ok text))
    (done_once (λ text. listing_from bytes ≡ Ok text) (λ text other a b. ok_once (listing_from bytes) text other a b))
    (λ text status is. (text, is.0))

pub trace_once : (bytes : List ℕ) (part burst : ℕ)
    → HasOneAnswer (IsFaultOr (IsFaultOf (form.Trace part burst) bytes) (IsDone (IsTraceOf bytes part burst)))
trace_once bytes part burst =
    either_once (IsFaultOf (form.Trace part burst) bytes) (IsDone (IsTraceOf bytes part burst)) (trace_fault_once bytes part burst)
    (done_once (IsTraceOf bytes part burst) (trace_text_once bytes part burst))
    (λ text other status is line. trace_has_no_fault bytes part burst text other is.0 line)

pub guard_once : (bytes : List ℕ) (hearing : List Listening)
    → HasOneAnswer (IsFaultOr (IsRefusalLine (guardable_from bytes)) (IsGuardOf bytes hearing))
guard_once bytes hearing =
    read_once (guardable_from bytes) (IsGuardOf bytes hearing) (guarded_run_once bytes hearing)
    (λ text status is. (is.scenario, is.reading))

pub guarded_scenario_once : (bytes : List ℕ) → HasOneAnswer (IsFaultOr (IsFaultOf form.GuardScenario bytes) (IsDone (IsGuardedOf bytes)))
guarded_scenario_once bytes =
    either_once (IsFaultOf form.GuardScenario bytes) (IsDone (IsGuardedOf bytes)) (guarded_fault_once bytes)
    (done_once (IsGuardedOf bytes) (guarded_of_once bytes))
    (λ text other status is line. guarded_has_no_fault bytes text other is.0 line)
