-- The result of a campaign's run of a scenario.
use Rattle.std.proofs.Common.{◌≡◌, ◌∙◌, refl, sym, subst, ap, ℕ, zero, suc, ◌==◌, Bool, true, false, ◌&&◌, ◌||◌, if◌then◌else◌, List, [], ◌∷◌, map, length, Option, Some, None, is_some}
use Rattle.std.specs.Prelude.{Result, Ok, Err, IfOk, slice_get}
use Rattle.campaign_defs.specs.Members.{CanRunUnder, IsRunUnder, Ran}
use Rattle.campaign_defs.specs.Rows.{plan_row}
use Rattle.campaign_defs.specs.Types.{Row}
use Rattle.campaign_rows.specs.Shown.{IsShown, Shows}
use Rattle.campaign_rows.specs.declared.shown.Shown.{Shown}
use Rattle.fault_campaign.specs.Outcomes.{IsOutcomeOf, IsRowOver, IsScheduledReport, scenario_run, trap_count}
use Rattle.fault_campaign.specs.declared.outcome.Outcome.{Outcome}
use Rattle.front_laws.proofs.FirstStops.{specs_of_run}
use Rattle.front_laws.proofs.StopChain.{guarded_by_stops}
use Rattle.front_laws.specs.Stops.{IsGuardedBy}
use Rattle.guard_defs.specs.FirstBreaks.{AreNeeded, NoneBreaks, stopped}
use Rattle.guard_defs.specs.GuardedRuns.{guarded_scenario, spec_of}
use Rattle.guarded_run.specs.Guarded.{IsGuarded}
use Rattle.guarded_run.specs.declared.guarded.Guarded.{Guarded}
use Rattle.nook_data.proofs.Options.{none_is_some, same_inside}
use Rattle.nook_data.specs.declared.memory.NoMemory.{NoMemory}
use Rattle.nook_data.specs.declared.scenario.PartSpec.{PartSpec}
use Rattle.nook_data.specs.declared.scenario.Scenario.{Scenario}
use Rattle.nook_io.specs.Listening.{Listening}
use Rattle.plan_defs.specs.declared.plan.Plan.{Plan}
use Rattle.promise_defs.specs.Contract.{first_break}
use Rattle.report_defs.specs.ReportText.{has_break, has_given_up, status_of}
use Rattle.run_results.specs.Reports.{IsReport}
use Rattle.run_results.specs.declared.run.Run.{Run}
use Rattle.run_results.specs.declared.report.Report.{Report}
use Rattle.request_taps.specs.declared.tap.Tap.{Tap}
use Rattle.run_defs.specs.Simulation.{IsScheduledRun, RunningPart, Simulation, answer_table, journal_of, journals_of}
use Rattle.run_results.specs.Journals.{AreRuns, events_in}
use Rattle.sim_run.proofs.Ending.{scheduled_once}
use Rattle.sim_run.specs.Whole.{IsSimulated}

-- ---- the report of a run

pub scheduled_report : (r : Result Report NoMemory) (scenario : Scenario) (run : Run) (old new : List (Tap Listening))
    → IsSimulated scenario run.journals run.answers run.taps old new → AreRuns scenario.parts (map events_in run.journals)
    → IfOk r (λ report. report.run ≡ run) → IfOk r (IsReport scenario) → IfOk r (IsScheduledReport scenario)
scheduled_report (Err e) scenario run old new simulated runs same whole = tt
scheduled_report (Ok report) scenario run old new simulated runs same whole = record {
  simulation = simulated.simulation;
  scheduled = simulated.scheduled;
  whole = whole;
  journals = ap (λ (x : Run). map events_in x.journals) same ∙ simulated.same_journals;
  answers = ap (λ (x : Run). x.answers) same ∙ simulated.same_answers;
  runs = subst (λ (x : Run). AreRuns scenario.parts (map events_in x.journals)) (sym same) runs;
}

-- ---- if the status is not 7, no part broke its contract

either_false : (a b : Bool) → (a || b) ≡ false → (a ≡ false) × (b ≡ false)
either_false true b h = absurd (cc h)
either_false false b h = (refl, h)

none_of : {T : Type 0} (o : Option T) → is_some o ≡ false → o ≡ None
none_of None h = refl
none_of (Some x) h = absurd (cc h)

none_broken : (parts : List RunningPart) → has_break (map spec_of parts) (map journal_of parts) ≡ false
    → (index : ℕ) (seat : RunningPart) → slice_get parts index ≡ Some seat
    → first_break (spec_of seat).class (spec_of seat).blocks seat.run.journal ≡ None
unfolding has_break
none_broken [] h index seat at = none_is_some at
none_broken (x ∷ parts) h zero seat at =
    subst (λ (y : RunningPart). first_break (spec_of y).class (spec_of y).blocks y.run.journal ≡ None) (same_inside at)
    (none_of _ (either_false _ _ h).0)
none_broken (x ∷ parts) h (suc index) seat at = none_broken parts (either_false _ _ h).1 index seat at

unbroken_by : (broken gone : Bool) → ((if broken then 7 else if gone then 1 else 0) == 7) ≡ false → broken ≡ false
unbroken_by true gone h = absurd (cc h)
unbroken_by false gone h = refl

none_breaks : (scenario : Scenario) (report : Report) (r : IsScheduledReport scenario report) → (report.status == 7) ≡ false
    → NoneBreaks r.simulation
none_breaks scenario report r h =
    let parts : map spec_of r.simulation.parts ≡ scenario.parts =
    ap (λ (t : Simulation). map spec_of t.parts) (sym r.scheduled.reached) ∙ specs_of_run scenario r.scheduled.steps in
    let status : report.status ≡ status_of scenario.parts (journals_of r.simulation) =
    r.whole.status ∙ ap (status_of scenario.parts) r.journals in
    let not_seven : (status_of scenario.parts (journals_of r.simulation) == 7) ≡ false =
    ap (λ n. n == 7) (sym status) ∙ h in
    let unbroken : has_break scenario.parts (journals_of r.simulation) ≡ false =
    unbroken_by (has_break scenario.parts (journals_of r.simulation)) (has_given_up scenario.parts (journals_of r.simulation)) not_seven in
    none_broken r.simulation.parts
    (ap (λ (specs : List PartSpec). has_break specs (journals_of r.simulation)) parts ∙ unbroken)

-- ---- the run that a campaign makes

both_hold : (b : Bool) → (true && b) ≡ false → b ≡ false
both_hold true h = absurd (cc h)
both_hold false h = refl

pub first_false : (a b : Bool) → a ≡ false → (a && b) ≡ false
first_false true b h = absurd (cc h)
first_false false b h = refl

pub second_false : (a b : Bool) → b ≡ false → (a && b) ≡ false
second_false true b h = h
second_false false b h = refl

free_run : (scenario : Scenario) (s : Simulation) → IsScheduledRun scenario s → NoneBreaks s → IsGuardedBy scenario [] s
unfolding stopped AreNeeded
free_run scenario s run none = guarded_by_stops scenario [] s tt run none

free_same : (scenario : Scenario) (s : Simulation) → IsGuardedBy scenario [] s → scenario ≡ guarded_scenario scenario s
unfolding stopped
free_same scenario s by = by.same

pub free_outcome : (guard : Bool) (scenario : Scenario) (report : Report) → IsScheduledReport scenario report
    → (guard && (report.status == 7)) ≡ false → IsOutcomeOf guard scenario (record { report = report; guarded = None })
free_outcome false scenario report r h = record {
  ran = record { scenario = scenario; simulation = r.simulation; traps = 0 };
  is_run = record { same = refl; scheduled = r.scheduled; no_traps = refl };
  shows = record { scenario_is = refl; whole = r.whole; journals = r.journals; answers = r.answers; runs = r.runs };
  traps = refl;
}
free_outcome true scenario report r h =
    let by : IsGuardedBy scenario [] r.simulation =
    free_run scenario r.simulation r.scheduled (none_breaks scenario report r (both_hold _ h)) in
    record {
      ran = record { scenario = scenario; simulation = r.simulation; traps = 0 };
      is_run = record {
        guarded = by.guarded;
        same = free_same scenario r.simulation by;
        scheduled = r.scheduled;
        count = ap length by.found;
      };
      shows = record { scenario_is = refl; whole = r.whole; journals = r.journals; answers = r.answers; runs = r.runs };
      traps = refl;
    }

pub guarded_outcome : (scenario : Scenario) (made : Guarded) (report : Report) → IsGuarded scenario made
    → IsScheduledReport made.scenario report → IsOutcomeOf true scenario (record { report = report; guarded = Some made })
guarded_outcome scenario made report g r =
    let same : r.simulation ≡ g.simulation = scheduled_once made.scenario r.simulation g.simulation r.scheduled g.scheduled in
    record {
      ran = record { scenario = made.scenario; simulation = g.simulation; traps = length made.stops };
      is_run = record { guarded = g.guarded; same = g.same; scheduled = g.scheduled; count = ap length g.stops };
      shows = record {
        scenario_is = refl;
        whole = r.whole;
        journals = r.journals ∙ ap (λ (s : Simulation). journals_of s) same;
        answers = r.answers ∙ ap (λ (s : Simulation). answer_table s) same;
        runs = r.runs;
      };
      traps = refl;
    }

-- ---- the row of a run

pub row_over : (r : Result Row NoMemory) (plan : Plan) (shown : Shown) (given : Scenario) (outcome : Outcome)
    → IsOutcomeOf plan.guard given outcome
    → ((own ran : Ran) → IsShown own shown → Shows ran (scenario_run outcome.guarded given) outcome.report
    → trap_count outcome.guarded ≡ ran.traps → IfOk r (λ row. row ≡ plan_row plan own ran))
    → IfOk r (IsRowOver plan shown given)
row_over (Err e) plan shown given outcome o is = tt
row_over (Ok row) plan shown given outcome o is =
    λ own shows. record { ran = o.ran; is_run = o.is_run; same = is own o.ran shows o.shows o.traps }
