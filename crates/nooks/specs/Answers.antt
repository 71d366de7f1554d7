-- What the program answers: for its subcommand, its input and its listeners, the text that is written and the status
-- that it ends with. It is a relation, since the threads of `run threads` may take their turns in many orders.
use Rattle.std.specs.Prelude.{◌≡◌, ℕ, ◌<◌, ◌≤◌, List, [], ◌∷◌, ◌++◌, ◌⊎◌, All, length, map, Bool, true, false, Option, Some}
use Rattle.std.specs.Prelude.{None, Result, Ok, Err}
use Rattle.std.specs.List.{AllZip}
use Rattle.asm_defs.specs.Disassembler.{disassembled}
use Rattle.campaign_defs.specs.Members.{IsRunUnder, Ran, members}
use Rattle.campaign_defs.specs.Rows.{plan_row}
use Rattle.campaign_defs.specs.TableText.{plan_table_text}
use Rattle.campaign_defs.specs.Types.{Row}
use Rattle.input_defs.specs.Faults.{fault_line}
use Rattle.guard_defs.specs.FirstBreaks.{AreNeeded, NoneBreaks}
use Rattle.guard_defs.specs.Guard.{HasRoom}
use Rattle.guard_defs.specs.GuardText.{guard_lines}
use Rattle.guard_defs.specs.GuardedRuns.{IsGuardedSchedule, guarded_scenario, stops_found}
use Rattle.explore_defs.specs.Explored.{IsExplored}
use Rattle.explore_defs.specs.Orders.{with_schedule}
use Rattle.explore_defs.specs.declared.TheConstants.{CUT_STATUS}
use Rattle.guard_defs.specs.declared.stop.Stop.{Stop}
use Rattle.run_defs.specs.Generated.{generated}
use Rattle.input_defs.specs.ImageReading.{image_from, image_from_asm}
use Rattle.asm_defs.specs.ImageText.{image_text}
use Rattle.input_defs.specs.PlanReading.{plan_from}
use Rattle.nook_io.specs.Listening.{Listening}
use Rattle.report_defs.specs.ReportText.{report_text, status_of, summary_line}
use Rattle.input_defs.specs.ScenarioReading.{scenario_from}
use Rattle.run_defs.specs.Simulation.{IsScheduledRun, Simulation, answer_table, begins, journals_of}
use Rattle.nook_io.specs.Listening.{tap_result}
use Rattle.asm_defs.specs.declared.assembler.AsmFault.{AsmFault}
use Rattle.nook_data.specs.declared.calls.Answer.{Answer}
use Rattle.nook_data.specs.declared.steps.Event.{Event}
use Rattle.nook_data.specs.declared.scenario.Fault.{Fault}
use Rattle.nook_data.specs.declared.scenario.Image.{Image}
use Rattle.nook_data.specs.declared.mirror.MirrorAnswer.{MirrorAnswer}
use Rattle.nook_data.specs.declared.scenario.PartSpec.{PartSpec}
use Rattle.nook_data.specs.declared.scenario.Scenario.{Scenario}
use Rattle.nook_data.specs.declared.scenario.ScheduleSpec.{ScheduleSpec}
use Rattle.input_defs.specs.declared.input.InputFault.TheVariants as fault
use Rattle.input_defs.specs.declared.input.Refusal.{Refusal}
use Rattle.plan_defs.specs.Plans.{struck_by}
use Rattle.plan_defs.specs.Types.{Plan}
use Rattle.mirrored_run.specs.Mirrors.{IsMirrorRun, is_mirror, mirror_status}
use Rattle.report_text.specs.Mirrored.{mirror_report_text}
use Rattle.sim_run.specs.Published.{published}
use Rattle.threaded_run.specs.Threaded.{AreAnswered, IsThreaded, in_parts}
use Rattle.headline_laws.specs.Headline.{AreSafe, IsTransparent}
use Rattle.part_defs.specs.Runs.{state_of}
use Rattle.part_laws.specs.Facts.{is_dead}
use Rattle.promise_defs.specs.Contract.{first_break}
use Rattle.image_list.specs.ListText.{list_text}
use Rattle.burst_trace.specs.Retold.{ReportsBurst}
use Rattle.burst_trace.specs.Text.{IsTraceText}
use Rattle.scenario_write.specs.ScenarioText.{scenario_line}
use Rattle.audit_input.specs.Handed.{Hands, HandsNothing}
use Rattle.order_defs.specs.OneClock.{AreOneRun}
use Rattle.order_defs.specs.OutOfOrder.{Finds}
use Rattle.run_laws.specs.Fitting.{AllFit, fitting_text}
use Rattle.nooks.specs.Guardable.{guardable_from}
use Rattle.nooks.specs.Streams.{Input, TooLong, Whole}
use Rattle.command_forms.specs.Forms.{is_reading, limit_of}
use Rattle.nooks.specs.Texts.{at_root, bad_header_text, help_text, no_such_burst_text, not_mirror_text, usage_text}
use Rattle.nooks.specs.Texts.{verdict_text, version_text}
use Rattle.nooks.specs.declared.program.Status.{Status}
use Rattle.nooks.specs.declared.program.Status.TheVariants as ended
use Rattle.command_forms.specs.declared.words.Form.{Form}
use Rattle.command_forms.specs.declared.words.Form.TheVariants as form

-- ---- the status

-- the status of a report with this number
abbrev pub IsReportStatus : ℕ → Status → Type 0
IsReportStatus number ended.Done = number ≡ 0
IsReportStatus number ended.GivenUp = number ≡ 1
IsReportStatus number ended.ContractBroken = number ≡ 7
IsReportStatus number status = ⊥

-- ---- runs

-- what a run left: a journal for each part, the answers of each thread, and the totals of each listener
pub record Left : Type 0 where
  pub journals : List (List Event)
  pub answers : List (List (ℕ × Answer))
  pub taps : List (ℕ × Bool)

-- it is the scenario's scheduled run, and the listeners count each event as it is made
pub record IsScheduled (scenario : Scenario) (hearing : List Listening) (left : Left) : Type 0 where
  pub simulation : Simulation
  pub scheduled : IsScheduledRun scenario simulation
  pub same_journals : left.journals ≡ journals_of simulation
  pub same_answers : left.answers ≡ answer_table simulation
  pub printed : left.taps ≡ map (λ l. tap_result l (published scheduled.steps (begins scenario))) hearing

-- it is a run by the scenario's threads, and the listeners count the journals' events, part by part
pub record IsByThreads (scenario : Scenario) (hearing : List Listening) (left : Left) : Type 0 where
  pub threaded : IsThreaded scenario left.journals left.answers
  pub printed : left.taps ≡ map (λ l. tap_result l (in_parts 0 left.journals)) hearing

-- it is the run of the scenario that a subcommand asks for
abbrev pub IsRunOf : Form → Scenario → List Listening → Left → Type 0
IsRunOf form.Run scenario hearing left = IsScheduled scenario hearing left
IsRunOf form.RunThreads scenario hearing left = IsByThreads scenario hearing left
IsRunOf asked scenario hearing left = ⊥

-- every part of the run is safe, and every operation of every thread has its answer
pub record IsWhole (scenario : Scenario) (left : Left) : Type 0 where
  pub safe : AreSafe scenario.parts left.journals
  pub answered : AreAnswered scenario left.answers

-- ---- texts

-- the report of a scenario's run, and the run's status
pub record IsReported (asked : Form) (scenario : Scenario) (hearing : List Listening) (text : List ℕ)
    (status : Status) : Type 0 where
  pub left : Left
  pub run : IsRunOf asked scenario hearing left
  pub whole : IsWhole scenario left
  pub status_is : IsReportStatus (status_of scenario.parts left.journals) status
  pub text_is : text
      ≡ report_text scenario left.journals left.answers left.taps (status_of scenario.parts left.journals)

-- the line that sums up the scheduled run of a generated scenario, and the run's status
pub record IsSummary (number : ℕ) (text : List ℕ) (status : Status) : Type 0 where
  pub left : Left
  pub run : IsScheduled (generated number) [] left
  pub whole : IsWhole (generated number) left
  pub status_is : IsReportStatus (status_of (generated number).parts left.journals) status
  pub text_is : text ≡ summary_line number (generated number).parts left.journals

-- the report of the run of the scenario in some bytes
pub record IsReportOf (asked : Form) (bytes : List ℕ) (hearing : List Listening) (text : List ℕ)
    (status : Status) : Type 0 where
  pub scenario : Scenario
  pub reading : scenario_from bytes ≡ Ok scenario
  pub reported : IsReported asked scenario hearing text status

-- the image of the assembler text in some bytes
pub record IsImageOf (bytes text : List ℕ) : Type 0 where
  pub image : Image
  pub reading : image_from_asm bytes ≡ Ok image
  pub text_is : text ≡ image_text image

-- the assembler text of the image in some bytes
pub record IsAsmOf (bytes text : List ℕ) : Type 0 where
  pub image : Image
  pub reading : image_from bytes ≡ Ok image
  pub text_is : text ≡ disassembled image

-- an assembler text's error as a refusal of the input
abbrev pub or_bad_text : Result (List ℕ) AsmFault → Result (List ℕ) Refusal
or_bad_text (Ok text) = Ok text
or_bad_text (Err asm) = Err (at_root (fault.BadAsm asm))

-- the listing of the assembler text in some bytes, or its first error
abbrev pub listing_from : List ℕ → Result (List ℕ) Refusal
listing_from bytes = or_bad_text (list_text bytes)

-- ---- audits

-- A report is that of runs that keep all promises of runs. Each run has exactly the scripts' invocations
-- and the scenario's arrivals, and together they are one run.
pub record IsSound (scenario : Scenario) (report : List ℕ) : Type 0 where
  pub journals : List (List Event)
  pub fit : AllFit scenario.threads 0 scenario.parts journals
  pub one_run : AreOneRun scenario.threads journals
  pub safe : AreSafe scenario.parts journals
  pub text_is : report ≡ fitting_text scenario journals

-- the status of a verdict
abbrev pub verdict_status : Option ℕ → Status
verdict_status None = ended.Done
verdict_status (Some number) = ended.AuditNo

-- the verdict on a report of a scenario; if every line fits, the report is sound
pub record IsVerdict (scenario : Scenario) (report text : List ℕ) (status : Status) : Type 0 where
  pub found : Option ℕ
  pub finds : Finds scenario report found
  pub text_is : text ≡ verdict_text found
  pub status_is : status ≡ verdict_status found
  pub sound : found ≡ None → IsSound scenario report

-- the verdict on the report that follows its scenario in some bytes
pub record IsAuditOf (bytes text : List ℕ) (status : Status) : Type 0 where
  pub handed : List ℕ
  pub report : List ℕ
  pub hands : Hands bytes handed report
  pub short : length handed ≤ limit_of form.Run
  pub scenario : Scenario
  pub reading : scenario_from handed ≡ Ok scenario
  pub verdict : IsVerdict scenario report text status

-- ---- mirrors

-- the report of a run of the mirror of a scenario, which the listeners count journal by journal, and its status; every
-- part of the run is safe, and the printed answers are the mirror's
pub record IsMirrored (scenario : Scenario) (hearing : List Listening) (text : List ℕ) (status : Status) : Type 0 where
  pub left : List Event
  pub right : List Event
  pub answers : List MirrorAnswer
  pub taps : List (ℕ × Bool)
  pub run : IsMirrorRun scenario left right answers
  pub safe : AreSafe scenario.parts (left ∷ right ∷ [])
  pub printed : taps ≡ map (λ l. tap_result l (in_parts 0 (left ∷ right ∷ []))) hearing
  pub status_is : IsReportStatus (mirror_status scenario left right answers) status
  pub text_is : text
      ≡ mirror_report_text scenario (left ∷ right ∷ []) answers taps (mirror_status scenario left right answers)

-- the report of the mirror of the scenario in some bytes
pub record IsMirrorOf (bytes : List ℕ) (hearing : List Listening) (text : List ℕ) (status : Status) : Type 0 where
  pub scenario : Scenario
  pub reading : scenario_from bytes ≡ Ok scenario
  pub served : is_mirror scenario ≡ true
  pub mirrored : IsMirrored scenario hearing text status

-- ---- traces

-- the trace of a burst of a part, in the scheduled run of the scenario in some bytes; it shows that burst
pub record IsTraceOf (bytes : List ℕ) (part burst : ℕ) (text : List ℕ) : Type 0 where
  pub scenario : Scenario
  pub reading : scenario_from bytes ≡ Ok scenario
  pub trace : IsTraceText scenario part burst (Some text)
  pub reports : ReportsBurst scenario.parts (journals_of trace.simulation) part burst text

-- ---- guards

-- A driver broke no clause of its class's contract. So to its applications its part is a device that never fails,
-- unless the part was given up.
pub record IsKept (spec : PartSpec) (journal : List Event) : Type 0 where
  pub unbroken : first_break spec.class spec.blocks journal ≡ None
  pub transparent : is_dead (state_of spec journal).mode ≡ false → IsTransparent spec journal

-- this holds of each part, in order
abbrev pub AreKept : List PartSpec → List (List Event) → Type 0
AreKept specs journals = AllZip IsKept specs journals

-- the guarded scenario of a scenario: its scheduled run is the guarded run of the scenario
pub record IsGuardedScenario (scenario guarded : Scenario) : Type 0 where
  pub simulation : Simulation
  pub run : IsGuardedSchedule scenario simulation
  pub same : guarded ≡ guarded_scenario scenario simulation

-- The report of a scenario's guarded run, after a line for each of its traps in the order in which they were found, and
-- the run's status. Each trap is needed, and whatever the drivers execute none of them breaks a clause, so that the
-- status is never 7.
pub record IsGuardReport (scenario : Scenario) (hearing : List Listening) (text : List ℕ) (status : Status) : Type 0 where
  pub guarded : Scenario
  pub is_guarded : IsGuardedScenario scenario guarded
  pub stops : List Stop
  pub found : stops ≡ stops_found is_guarded.run.steps (begins scenario)
  pub needed : AreNeeded scenario stops
  pub left : Left
  pub run : IsScheduled guarded hearing left
  pub whole : IsWhole guarded left
  pub kept : AreKept guarded.parts left.journals
  pub status_is : IsReportStatus (status_of guarded.parts left.journals) status
  pub never_broken : (status ≡ ended.Done) ⊎ (status ≡ ended.GivenUp)
  pub text_is : text ≡ guard_lines stops
      ++ report_text guarded left.journals left.answers left.taps (status_of guarded.parts left.journals)

-- the text of a scenario's guarded scenario, from which reading gives that back
pub record IsGuardedText (scenario : Scenario) (text : List ℕ) : Type 0 where
  pub guarded : Scenario
  pub is_guarded : IsGuardedScenario scenario guarded
  pub text_is : text ≡ scenario_line guarded
  pub back : scenario_from text ≡ Ok guarded

-- it is written if `run` reads as many bytes
abbrev pub IsGuardedLine : Scenario → List ℕ → Type 0
IsGuardedLine scenario text = IsGuardedText scenario text × (length text ≤ limit_of form.Run)

-- else it is refused as an input of that length is
pub record IsGuardedTooLong (scenario : Scenario) (text : List ℕ) : Type 0 where
  pub line : List ℕ
  pub is_line : IsGuardedText scenario line
  pub long : limit_of form.Run < length line
  pub text_is : text ≡ fault_line (at_root fault.TooMany)

-- what is written of a scenario's guarded scenario, and the status
abbrev pub GivesGuarded : Scenario → List ℕ → Status → Type 0
GivesGuarded scenario text status =
    (IsGuardedLine scenario text × (status ≡ ended.Done)) ⊎ (IsGuardedTooLong scenario text × (status ≡ ended.BadInput))

-- the report of the guarded run of the scenario in some bytes, each part of which has room for its traps
pub record IsGuardOf (bytes : List ℕ) (hearing : List Listening) (text : List ℕ) (status : Status) : Type 0 where
  pub scenario : Scenario
  pub reading : guardable_from bytes ≡ Ok scenario
  pub room : All HasRoom scenario.parts
  pub reported : IsGuardReport scenario hearing text status

-- the guarded scenario of the scenario in some bytes, each part of which has room for its traps
pub record IsGuardedOf (bytes text : List ℕ) : Type 0 where
  pub scenario : Scenario
  pub reading : guardable_from bytes ≡ Ok scenario
  pub room : All HasRoom scenario.parts
  pub line : IsGuardedLine scenario text

-- ---- every order of the steps

-- the status of an exploration with this number
abbrev pub IsExploredStatus : ℕ → Status → Type 0
IsExploredStatus number ended.Done = number ≡ 0
IsExploredStatus number ended.GivenUp = number ≡ 1
IsExploredStatus number ended.ContractBroken = number ≡ 7
IsExploredStatus number ended.Cut = number ≡ CUT_STATUS
IsExploredStatus number status = ⊥

-- no part breaks its contract under any schedule of a scenario
abbrev pub NoneEverBreaks : Scenario → Type 0
NoneEverBreaks scenario =
    (spec : ScheduleSpec) (s : Simulation) → IsScheduledRun (with_schedule scenario spec) s → NoneBreaks s

-- A row for each outcome that some order of a scenario's steps has, the line that counts them, and their status. With
-- status 0 or 1 no schedule of the scenario breaks a contract.
pub record IsExploration (scenario : Scenario) (text : List ℕ) (status : Status) : Type 0 where
  pub number : ℕ
  pub explored : IsExplored scenario text number
  pub status_is : IsExploredStatus number status
  pub unbroken : (status ≡ ended.Done) ⊎ (status ≡ ended.GivenUp) → NoneEverBreaks scenario

-- the exploration of the scenario in some bytes
pub record IsExploredOf (bytes text : List ℕ) (status : Status) : Type 0 where
  pub scenario : Scenario
  pub reading : scenario_from bytes ≡ Ok scenario
  pub exploration : IsExploration scenario text status

-- ---- campaigns

-- A campaign's run of a scenario, which keeps all promises of runs. With a guard every part kept its
-- contract, with no premise.
pub record IsPromised (guard : Bool) (scenario : Scenario) (ran : Ran) : Type 0 where
  pub is_run : IsRunUnder guard scenario ran
  pub whole : IsWhole ran.scenario (record {
    journals = journals_of ran.simulation;
    answers = answer_table ran.simulation;
    taps = [];
  })
  pub kept : guard ≡ true → AreKept ran.scenario.parts (journals_of ran.simulation)

-- the row of the run of the member with these faults
pub record IsMember (plan : Plan) (base : Ran) (faults : List Fault) (row : Row) : Type 0 where
  pub ran : Ran
  pub promised : IsPromised plan.guard (struck_by plan.base plan.part faults) ran
  pub row_is : row ≡ plan_row plan base ran

-- one row for each member, in their order
abbrev pub AreMembers : Plan → Ran → List Row → Type 0
AreMembers plan base rows = AllZip (IsMember plan base) (members plan base) rows

-- the table of the campaign in some bytes
pub record IsTableOf (bytes text : List ℕ) : Type 0 where
  pub plan : Plan
  pub reading : plan_from bytes ≡ Ok plan
  pub base : Ran
  pub promised : IsPromised plan.guard plan.base base
  pub rows : List Row
  pub members : AreMembers plan base rows
  pub text_is : text ≡ plan_table_text plan base rows

-- ---- what the program does

-- the text and the status are these two
abbrev pub Says : List ℕ → Status → List ℕ → Status → Type 0
Says line end text status = (text ≡ line) × (status ≡ end)

-- what some bytes without an input error are answered with
abbrev pub Does : Form → List ℕ → List Listening → List ℕ → Status → Type 0
Does form.Run bytes hearing text status = IsReportOf form.Run bytes hearing text status
Does form.RunThreads bytes hearing text status = IsReportOf form.RunThreads bytes hearing text status
Does form.Asm bytes hearing text status = IsImageOf bytes text × (status ≡ ended.Done)
Does form.Dis bytes hearing text status = IsAsmOf bytes text × (status ≡ ended.Done)
Does form.Audit bytes hearing text status = IsAuditOf bytes text status
Does form.Campaign bytes hearing text status = IsTableOf bytes text × (status ≡ ended.Done)
Does form.Mirror bytes hearing text status = IsMirrorOf bytes hearing text status
Does form.List bytes hearing text status = (listing_from bytes ≡ Ok text) × (status ≡ ended.Done)
Does (form.Trace part burst) bytes hearing text status = IsTraceOf bytes part burst text × (status ≡ ended.Done)
Does form.Guard bytes hearing text status = IsGuardOf bytes hearing text status
Does form.GuardScenario bytes hearing text status = IsGuardedOf bytes text × (status ≡ ended.Done)
Does form.Explore bytes hearing text status = IsExploredOf bytes text status
Does asked bytes hearing text status = ⊥

-- ---- input errors

-- the line of the input error for which a reading is refused
pub record IsRefusalLine {T : Type 0} (reading : Result T Refusal) (text : List ℕ) : Type 0 where
  pub refusal : Refusal
  pub is : reading ≡ Err refusal
  pub text_is : text ≡ fault_line refusal

-- the line of the first input error in the scenario of an audit
abbrev pub IsScenarioFault : List ℕ → List ℕ → Type 0
IsScenarioFault scenario text =
    ((limit_of form.Run < length scenario) × (text ≡ fault_line (at_root fault.TooMany)))
    ⊎ ((length scenario ≤ limit_of form.Run) × IsRefusalLine (scenario_from scenario) text)

-- some bytes have a scenario with an input error, and a report
pub record HandsFault (bytes text : List ℕ) : Type 0 where
  pub scenario : List ℕ
  pub report : List ℕ
  pub hands : Hands bytes scenario report
  pub fault : IsScenarioFault scenario text

-- some bytes have a scenario that a mirror does not serve
pub record IsUnserved (bytes text : List ℕ) : Type 0 where
  pub scenario : Scenario
  pub reading : scenario_from bytes ≡ Ok scenario
  pub unserved : is_mirror scenario ≡ false
  pub text_is : text ≡ not_mirror_text

-- some bytes have a scenario whose scheduled run has no such part or burst
pub record HasNoBurst (bytes : List ℕ) (part burst : ℕ) (text : List ℕ) : Type 0 where
  pub scenario : Scenario
  pub reading : scenario_from bytes ≡ Ok scenario
  pub none : IsTraceText scenario part burst None
  pub text_is : text ≡ no_such_burst_text

-- some bytes have a scenario whose guarded scenario is longer than what `run` reads
pub record HasLongGuarded (bytes text : List ℕ) : Type 0 where
  pub scenario : Scenario
  pub reading : guardable_from bytes ≡ Ok scenario
  pub too_long : IsGuardedTooLong scenario text

-- the line of the first input error in some bytes
abbrev pub IsFaultOf : Form → List ℕ → List ℕ → Type 0
IsFaultOf form.Run bytes text = IsRefusalLine (scenario_from bytes) text
IsFaultOf form.RunThreads bytes text = IsRefusalLine (scenario_from bytes) text
IsFaultOf form.Asm bytes text = IsRefusalLine (image_from_asm bytes) text
IsFaultOf form.Dis bytes text = IsRefusalLine (image_from bytes) text
IsFaultOf form.Audit bytes text = (HandsNothing bytes × (text ≡ bad_header_text)) ⊎ HandsFault bytes text
IsFaultOf form.Campaign bytes text = IsRefusalLine (plan_from bytes) text
IsFaultOf form.Mirror bytes text = IsRefusalLine (scenario_from bytes) text ⊎ IsUnserved bytes text
IsFaultOf form.List bytes text = IsRefusalLine (listing_from bytes) text
IsFaultOf (form.Trace part burst) bytes text =
    IsRefusalLine (scenario_from bytes) text ⊎ HasNoBurst bytes part burst text
IsFaultOf form.Guard bytes text = IsRefusalLine (guardable_from bytes) text
IsFaultOf form.GuardScenario bytes text = IsRefusalLine (guardable_from bytes) text ⊎ HasLongGuarded bytes text
IsFaultOf form.Explore bytes text = IsRefusalLine (scenario_from bytes) text
IsFaultOf asked bytes text = ⊥

-- ---- the answer

-- what an input is answered with
abbrev pub AnswersInput : Form → Input → List Listening → List ℕ → Status → Type 0
AnswersInput asked TooLong hearing text status = Says (fault_line (at_root fault.TooMany)) ended.BadInput text status
AnswersInput asked (Whole bytes) hearing text status =
    (IsFaultOf asked bytes text × (status ≡ ended.BadInput)) ⊎ Does asked bytes hearing text status

-- what a subcommand that reads nothing is answered with
abbrev pub AnswersUnread : Form → List ℕ → Status → Type 0
AnswersUnread (form.Gen number) text status = IsSummary number text status
AnswersUnread (form.GenScenario number) text status = Says (scenario_line (generated number)) ended.Done text status
AnswersUnread form.Help text status = Says help_text ended.Done text status
AnswersUnread form.Version text status = Says version_text ended.Done text status
AnswersUnread asked text status = ⊥

-- what a subcommand is answered with, by whether it reads an input
abbrev pub AnswersBy : Bool → Form → Input → List Listening → List ℕ → Status → Type 0
AnswersBy true asked input hearing text status = AnswersInput asked input hearing text status
AnswersBy false asked input hearing text status = AnswersUnread asked text status

-- what a subcommand is answered with
abbrev pub AnswersForm : Form → Input → List Listening → List ℕ → Status → Type 0
AnswersForm asked input hearing text status = AnswersBy (is_reading asked) asked input hearing text status

-- what the program answers
abbrev pub Answers : Option Form → Input → List Listening → List ℕ → Status → Type 0
Answers None input hearing text status = Says usage_text ended.Usage text status
Answers (Some asked) input hearing text status = AnswersForm asked input hearing text status
