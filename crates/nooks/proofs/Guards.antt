-- What a guard makes of a scenario, and what is written of its report.
use Rattle.std.proofs.Common.{◌≡◌, ℕ, suc, ◌+◌, ◌-◌, ◌<◌, ◌≤◌, nat_le, nat_lt, Bool, true, false, if◌then◌else◌, is_some, ◌||◌, List, [], ◌∷◌, ◌++◌, All, length, map, slice_get, ◌⊎◌, inl, inr, Option, Some, None, Result, Ok, Err, IfOk, refl, sym, ap, ◌∙◌, subst, append-nil, arith, true≢false}
use Rattle.std.proofs.lemmas.Bool.{le-leb, leb-true, lt-leb, ltb-false, ltb-true}
use Rattle.std.proofs.lemmas.List.Elements.{All-from_recursion}
use Rattle.std.specs.List.{AllByRecursion}
use Rattle.guard_defs.specs.FirstBreaks.{NoneBreaks}
use Rattle.guard_defs.specs.Guard.{HasRoom}
use Rattle.guard_defs.specs.GuardText.{guard_lines}
use Rattle.guard_defs.specs.GuardedRuns.{guarded_scenario, spec_of}
use Rattle.guarded_run.specs.Guarded.{IsGuarded}
use Rattle.guarded_run.specs.declared.guarded.Guarded.{Guarded}
use Rattle.headline_laws.specs.Headline.{AreSafe, IsSafe}
use Rattle.input_defs.specs.Faults.{fault_line}
use Rattle.input_defs.specs.ScenarioReading.{scenario_from}
use Rattle.input_defs.specs.declared.input.InputFault.TheVariants as fault
use Rattle.input_defs.specs.declared.input.Refusal.{Refusal}
use Rattle.nook_data.proofs.Options.{none_is_some}
use Rattle.nook_data.specs.declared.memory.NoMemory.{NoMemory}
use Rattle.nook_data.specs.declared.scenario.PartSpec.{PartSpec}
use Rattle.nook_data.specs.declared.scenario.Scenario.{Scenario}
use Rattle.nook_data.specs.declared.steps.Event.{Event}
use Rattle.nook_io.specs.Listening.{Listening}
use Rattle.promise_defs.specs.Contract.{first_break}
use Rattle.report_defs.specs.ReportText.{has_break, has_given_up, report_text, status_of}
use Rattle.run_results.specs.declared.report.Report.{Report}
use Rattle.run_defs.specs.Simulation.{RunningPart, Simulation, journal_of, journals_of}
use Rattle.run_results.specs.Journals.{events_in}
use Rattle.scenario_read.specs.Gives.{Fails}
use Rattle.scenario_read.specs.declared.stop.ScenarioFault.{ScenarioFault}
use Rattle.scenario_read.specs.declared.stop.ScenarioFault.TheVariants as stops
use Rattle.scenario_write.proofs.ComesBack.{line_back}
use Rattle.scenario_write.specs.ScenarioText.{scenario_line}
use Rattle.sim_run.proofs.Ending.{scheduled_once}
use Rattle.nooks.proofs.Reports.{run_status, reported_status, reported_writes}
use Rattle.nooks.proofs.Written.{writes_more}
use Rattle.nooks.specs.Answers.{AnswersInput, AreKept, GivesGuarded, IsGuardReport, IsGuardedLine, IsGuardedText, IsKept, IsReportStatus, IsScheduled, IsWhole, Left, Says}
use Rattle.nooks.specs.Endings.{IsBegun, Writes}
use Rattle.nooks.specs.Guardable.{first_without_room, guardable, guardable_from, has_room, no_room, with_room}
use Rattle.nooks.specs.Making.{IsGuardMade, ReportsStatus, left_of}
use Rattle.nook_io.specs.Changes.{Change}
use Rattle.nooks.specs.Streams.{Gains, GainsFront, Whole}
use Rattle.nooks.specs.Texts.{at_root}
use Rattle.nooks.specs.declared.program.Status.{Status}
use Rattle.nooks.specs.declared.program.Status.TheVariants as ended
use Rattle.command_forms.specs.Forms.{limit_of}
use Rattle.command_forms.specs.declared.words.Form.TheVariants as form

-- ---- room

-- a list of faults has room left for one more trap than the limit
pub room_left : (faults limit : ℕ) → nat_lt limit (64 - faults) ≡ nat_le (faults + (limit + 1)) 64
room_left faults limit = by_test (nat_lt limit (64 - faults)) refl
  where
    by_test : (b : Bool) → nat_lt limit (64 - faults) ≡ b → b ≡ nat_le (faults + (limit + 1)) 64
    by_test true e =
        let low : limit < 64 - faults = ltb-true limit (64 - faults) e in
        sym (le-leb (faults + (limit + 1)) 64 (omega (arith, low)))
    by_test false e =
        let high : 64 - faults ≤ limit = ltb-false limit (64 - faults) e in
        sym (lt-leb (faults + (limit + 1)) 64 (omega (arith, high)))

rooms : (index : ℕ) (specs : List PartSpec) → first_without_room index specs ≡ None → AllByRecursion HasRoom specs
rooms index [] none = tt
rooms index (spec ∷ specs) none = by_room (has_room spec) refl none (rooms (suc index) specs)
  where
    by_room : (room : Bool) → has_room spec ≡ room → (if room then first_without_room (suc index) specs else Some index) ≡ None
        → (first_without_room (suc index) specs ≡ None → AllByRecursion HasRoom specs) → HasRoom spec × AllByRecursion HasRoom specs
    by_room true is rest more = (leb-true (length spec.faults + (spec.limit + 1)) 64 is, more rest)
    by_room false is rest more = none_is_some (sym rest)

-- if no part lacks room, each has room
pub all_room : (scenario : Scenario) → first_without_room 0 scenario.parts ≡ None → All HasRoom scenario.parts
all_room scenario none = All-from_recursion HasRoom scenario.parts (rooms 0 scenario.parts none)

-- ---- what was read

pub read_with_room : (bytes : List ℕ) (scenario : Scenario) → scenario_from bytes ≡ Ok scenario → first_without_room 0 scenario.parts ≡ None
    → guardable_from bytes ≡ Ok scenario
read_with_room bytes scenario reading none = ap guardable reading ∙ ap (with_room scenario) none

pub read_without_room : (bytes : List ℕ) (scenario : Scenario) (index : ℕ) → scenario_from bytes ≡ Ok scenario
    → first_without_room 0 scenario.parts ≡ Some index → guardable_from bytes ≡ Err (no_room index)
read_without_room bytes scenario index reading there = ap guardable reading ∙ ap (with_room scenario) there

-- an input error found in reading comes first
pub fault_first : (bytes : List ℕ) (stop : ScenarioFault) → Fails stop (scenario_from bytes) → Fails stop (guardable_from bytes)
fault_first bytes (stops.Bad refusal) fails = ap guardable fails
fault_first bytes stops.NoMemory fails = tt

ok_once : (r : Result Scenario Refusal) (one other : Scenario) → r ≡ Ok one → r ≡ Ok other → one ≡ other
ok_once r one other e f = cc

parts_of_read : (read scenario : Scenario) (first : Option ℕ) → first_without_room 0 read.parts ≡ first → with_room read first ≡ Ok scenario
    → (read ≡ scenario) × All HasRoom scenario.parts
parts_of_read read scenario None none same =
    let e : read ≡ scenario = ok_once (Ok read) read scenario refl same in
    (e, subst (λ (s : Scenario). All HasRoom s.parts) e (all_room read none))
parts_of_read read scenario (Some index) there same = absurd (cc)

-- a guardable scenario was read, and has room
pub guardable_parts : (r : Result Scenario Refusal) (scenario : Scenario) → guardable r ≡ Ok scenario
    → (r ≡ Ok scenario) × All HasRoom scenario.parts
guardable_parts (Err refusal) scenario e = absurd (cc)
guardable_parts (Ok read) scenario e =
    let parts = parts_of_read read scenario (first_without_room 0 read.parts) refl e in (ap Ok parts.0, parts.1)

-- ---- no driver breaks a clause

part_kept : (spec : PartSpec) (journal : List Event) → IsSafe spec journal → first_break spec.class spec.blocks journal ≡ None
    → IsKept spec journal
part_kept spec journal safe none = record {
  unbroken = none;
  transparent = λ alive. safe.fronts journal [] (sym (append-nil journal)) none alive;
}

each_kept : (seats : List RunningPart)
    → ((index : ℕ) (seat : RunningPart) → slice_get seats index ≡ Some seat
    → first_break (spec_of seat).class (spec_of seat).blocks seat.run.journal ≡ None)
    → AreSafe (map spec_of seats) (map journal_of seats) → AreKept (map spec_of seats) (map journal_of seats)
unfolding AreSafe
each_kept [] none safe = tt
each_kept (seat ∷ seats) none safe = (
  part_kept (spec_of seat) (journal_of seat) safe.0 (none 0 seat refl),
  each_kept seats (λ index s at. none (suc index) s at) safe.1,
)

-- each part of a guarded scenario's run is kept
pub run_kept : (scenario guarded : Scenario) (s : Simulation) → guarded ≡ guarded_scenario scenario s → NoneBreaks s
    → AreSafe guarded.parts (journals_of s) → AreKept guarded.parts (journals_of s)
run_kept scenario guarded s same none safe =
    let parts : guarded.parts ≡ map spec_of s.parts = ap (λ (x : Scenario). x.parts) same in
    subst (λ (ps : List PartSpec). AreKept ps (journals_of s)) (sym parts)
    (each_kept s.parts none (subst (λ (ps : List PartSpec). AreSafe ps (journals_of s)) parts safe))

guarded_kept : (scenario : Scenario) (hearing : List Listening) (made : Guarded) (left : Left) → IsGuarded scenario made
    → IsScheduled made.scenario hearing left → IsWhole made.scenario left → AreKept made.scenario.parts left.journals
guarded_kept scenario hearing made left is run whole =
    let journals : left.journals ≡ journals_of is.simulation =
    run.same_journals ∙ ap journals_of (scheduled_once made.scenario run.simulation is.simulation run.scheduled is.scheduled) in
    subst (λ js. AreKept made.scenario.parts js) (sym journals)
    (run_kept scenario made.scenario is.simulation is.same is.none_breaks
    (subst (λ js. AreSafe made.scenario.parts js) journals whole.safe))

none_broken : (specs : List PartSpec) (journals : List (List Event)) → AreKept specs journals → has_break specs journals ≡ false
unfolding has_break
none_broken [] journals kept = refl
none_broken (s ∷ specs) [] kept = refl
none_broken (s ∷ specs) (journal ∷ journals) kept =
    ap (λ o. is_some o || has_break specs journals) kept.0.unbroken ∙ none_broken specs journals kept.1

kept_by : (broken gone : Bool) (status : Status) → broken ≡ false → IsReportStatus (if broken then 7 else if gone then 1 else 0) status
    → (status ≡ ended.Done) ⊎ (status ≡ ended.GivenUp)
kept_by true gone status unbroken is = absurd (true≢false unbroken)
kept_by false gone ended.Done unbroken is = inl refl
kept_by false gone ended.GivenUp unbroken is = inr refl
kept_by false gone ended.Usage unbroken is = absurd is
kept_by false gone ended.BadInput unbroken is = absurd is
kept_by false gone ended.ReadFault unbroken is = absurd is
kept_by false gone ended.WriteFault unbroken is = absurd is
kept_by false gone ended.NoMemory unbroken is = absurd is
kept_by false true ended.ContractBroken unbroken is = absurd (omega (arith, is))
kept_by false false ended.ContractBroken unbroken is = absurd (omega (arith, is))
kept_by false gone ended.AuditNo unbroken is = absurd is
kept_by false gone ended.Cut unbroken is = absurd is

-- the status of a run whose drivers broke no clause
kept_status : (specs : List PartSpec) (journals : List (List Event)) (status : Status) → AreKept specs journals
    → IsReportStatus (status_of specs journals) status → (status ≡ ended.Done) ⊎ (status ≡ ended.GivenUp)
kept_status specs journals status kept is =
    kept_by (has_break specs journals) (has_given_up specs journals) status (none_broken specs journals kept) is

-- ---- reports

-- the report of the guarded scenario's run
pub guard_reported : (scenario : Scenario) (hearing : List Listening) (made : Guarded) (left : Left) (text : List ℕ) (status : Status)
    → IsGuarded scenario made → IsScheduled made.scenario hearing left → IsWhole made.scenario left
    → IsReportStatus (status_of made.scenario.parts left.journals) status
    → text ≡ guard_lines made.stops
    ++ report_text made.scenario left.journals left.answers left.taps (status_of made.scenario.parts left.journals)
    → IsGuardReport scenario hearing text status
guard_reported scenario hearing made left text status is run whole printed same =
    let kept : AreKept made.scenario.parts left.journals = guarded_kept scenario hearing made left is run whole in record {
      guarded = made.scenario;
      is_guarded = record { simulation = is.simulation; run = is.guarded; same = is.same };
      stops = made.stops;
      found = is.stops;
      needed = is.needed;
      left = left;
      run = run;
      whole = whole;
      kept = kept;
      status_is = printed;
      never_broken = kept_status made.scenario.parts left.journals status kept printed;
      text_is = same;
    }

module _ (scenario : Scenario) (hearing : List Listening) (made : Guarded) (report : Report)
    (is : IsGuardMade scenario hearing made report) where
  abbrev pub guard_text : List ℕ
  guard_text = guard_lines made.stops
      ++ report_text made.scenario (map events_in report.run.journals) report.run.answers report.run.taps report.status

  reported : (status : Status) → IsReportStatus (status_of made.scenario.parts (map events_in report.run.journals)) status
      → IsGuardReport scenario hearing guard_text status
  reported status printed =
      guard_reported scenario hearing made (left_of report.run) guard_text status is.guarded is.run.run is.run.whole printed
      (ap (λ s. guard_lines made.stops ++ report_text made.scenario (map events_in report.run.journals) report.run.answers report.run.taps s)
      is.run.is_report.status)

  -- a report that was written in full ends with its status
  pub guard_written : (sink : Change) (status : Status) → Gains sink guard_text → ReportsStatus report.status status
      → Writes (IsGuardReport scenario hearing) sink status
  guard_written sink status gained reports =
      let printed = reported_status made.scenario.parts (map events_in report.run.journals) report.status status is.run.is_report.status reports in
      reported_writes (IsGuardReport scenario hearing) sink report.status status reports
      (record { text = guard_text; answer = reported status printed; gained = gained })

  -- a prefix of a report was written
  pub guard_begun : (sink : Change) → GainsFront sink guard_text → IsBegun (IsGuardReport scenario hearing) sink
  guard_begun sink front =
      let printed = run_status made.scenario.parts (map events_in report.run.journals) in
      record { text = guard_text; status = printed.0; answer = reported printed.0 printed.1; gained = front }

-- ---- the guarded scenario

-- the text of the guarded scenario, unless memory runs out
pub text_of : (scenario : Scenario) (made : Guarded) (r : Result (List ℕ) NoMemory) → IsGuarded scenario made
    → IfOk r (λ text. text ≡ scenario_line made.scenario) → IfOk r (IsGuardedText scenario)
text_of scenario made (Err e) is same = same
text_of scenario made (Ok text) is same = record {
  guarded = made.scenario;
  is_guarded = record { simulation = is.simulation; run = is.guarded; same = is.same };
  text_is = same;
  back = subst (λ t. scenario_from t ≡ Ok made.scenario) (sym same) (line_back made.scenario is.valid);
}

-- a text that `run` reads was written
pub short_written : (scenario : Scenario) (text : List ℕ) (sink : Change) (status : Status) → IsGuardedText scenario text
    → length text ≤ limit_of form.Run → Writes (Says text ended.Done) sink status → Writes (GivesGuarded scenario) sink status
short_written scenario text sink status is short ends =
    writes_more (Says text ended.Done) (GivesGuarded scenario) sink status
    (λ t s says. inl (subst (IsGuardedLine scenario) (sym says.0) (is, short), says.1)) ends

-- a longer text was refused
pub long_refused : (scenario : Scenario) (text : List ℕ) (refusal : Refusal) (sink : Change) (status : Status)
    → IsGuardedText scenario text → limit_of form.Run < length text → refusal ≡ at_root fault.TooMany
    → Writes (Says (fault_line refusal) ended.BadInput) sink status → Writes (GivesGuarded scenario) sink status
long_refused scenario text refusal sink status is long root ends =
    writes_more (Says (fault_line refusal) ended.BadInput) (GivesGuarded scenario) sink status
    (λ t s says. inr (
      record { line = text; is_line = is; long = long; text_is = says.0 ∙ ap fault_line root },
      says.1,
    )) ends

-- ---- the answer to the bytes

pub guard_answers : (bytes : List ℕ) (scenario : Scenario) (hearing : List Listening) (sink : Change) (status : Status)
    → guardable_from bytes ≡ Ok scenario → All HasRoom scenario.parts → Writes (IsGuardReport scenario hearing) sink status
    → Writes (AnswersInput form.Guard (Whole bytes) hearing) sink status
guard_answers bytes scenario hearing sink status reading room ends =
    writes_more (IsGuardReport scenario hearing) (AnswersInput form.Guard (Whole bytes) hearing) sink status
    (λ text s reported. inr (record { scenario = scenario; reading = reading; room = room; reported = reported })) ends

pub guarded_answers : (bytes : List ℕ) (scenario : Scenario) (hearing : List Listening) (sink : Change) (status : Status)
    → guardable_from bytes ≡ Ok scenario → All HasRoom scenario.parts → Writes (GivesGuarded scenario) sink status
    → Writes (AnswersInput form.GuardScenario (Whole bytes) hearing) sink status
guarded_answers bytes scenario hearing sink status reading room ends =
    writes_more (GivesGuarded scenario) (AnswersInput form.GuardScenario (Whole bytes) hearing) sink status by_text ends
  where
    by_text : (text : List ℕ) (s : Status) → GivesGuarded scenario text s
        → AnswersInput form.GuardScenario (Whole bytes) hearing text s
    by_text text s (inl line) = inr (record { scenario = scenario; reading = reading; room = room; line = line.0 }, line.1)
    by_text text s (inr long) = inl (inr (record { scenario = scenario; reading = reading; too_long = long.0 }), long.1)
