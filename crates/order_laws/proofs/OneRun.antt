-- The journals of a run by threads are those of a scheduled run, with its answers; and the journals of every scheduled
-- run have one clock.
use Rattle.std.proofs.Common.{◌≡◌, ℕ, suc, List, [], ◌∷◌, map, ap, ◌∙◌, arith}
use Rattle.std.proofs.lemmas.List.Elements.{recursion_from_All}
use Rattle.std.specs.List.{AllByRecursion}
use Rattle.nook_data.specs.Valid.{IsValidPart, IsValidScenario}
use Rattle.nook_data.specs.declared.calls.Answer.{Answer}
use Rattle.nook_data.specs.declared.scenario.Scenario.{Scenario}
use Rattle.nook_data.specs.declared.scenario.ThreadSpec.{ThreadSpec}
use Rattle.nook_data.specs.declared.steps.Event.{Event}
use Rattle.run_defs.specs.Schedules.{listed, opening_order}
use Rattle.run_defs.specs.Simulation.{IsScheduledRun, Simulation, answers_of_thread, begins, journals_of}
use Rattle.run_results.specs.Journals.{AreRuns}
use Rattle.run_laws.specs.Fitting.{AllFit}
use Rattle.threaded_run.specs.Threaded.{AreServed, IsThreaded}
use Rattle.audited_runs.proofs.Asked.{threaded_fits}
use Rattle.audited_runs.proofs.NoOthers.{have_no_others}
use Rattle.audited_runs.proofs.Unique.{answers_unique}
use Rattle.order_defs.specs.OneClock.{AreOneRun, AreStamped}
use Rattle.order_defs.specs.Taking.{IsAllTaken, Leads, Taking, opening_taking}
use Rattle.order_laws.specs.Listed.{IsListedRun, with_picks}
use Rattle.order_laws.proofs.Clocked.{AreWorked, IsClocked, order_clocked, ordered_one_run}
use Rattle.order_laws.proofs.Following.{order_listed}
use Rattle.order_laws.proofs.Ordered.{have_receipts, one_run_ordered, rising_on}
use Rattle.order_laws.proofs.Scheduled.{scheduled_ordered}

-- ---- answers

worked_served : (journals : List (List Event)) (stamps : List (List ℕ)) (stamped : AreStamped journals stamps) (i : ℕ) (specs : List ThreadSpec)
    (table : List (List (ℕ × Answer))) → AreWorked journals stamps i specs table → AreServed journals i specs table
worked_served journals stamps stamped i [] [] h = tt
worked_served journals stamps stamped i [] (own ∷ table) h = absurd h
worked_served journals stamps stamped i (spec ∷ specs) [] h = absurd h
worked_served journals stamps stamped i (spec ∷ specs) (own ∷ table) h = (
  record {
    receipts = h.0.receipts;
    have = have_receipts journals stamps stamped i 0 spec.ops h.0.receipts h.0.follow;
    rising = λ part. rising_on journals stamps stamped i 0 0 part spec.ops h.0.receipts h.0.follow (omega arith) (omega arith);
    same = h.0.same;
  },
  worked_served journals stamps stamped (suc i) specs table h.1,
)

-- ---- picks

begins_listed : (scenario : Scenario) (journals : List (List Event)) (order : List ℕ) (end : Taking) → IsValidScenario scenario
    → AllFit scenario.threads 0 scenario.parts journals → Leads (opening_taking scenario.threads journals) order end → IsAllTaken end
    → (picks : List ℕ) × ((s : Simulation) × IsScheduledRun (with_picks scenario picks) s × (journals_of s ≡ journals) × (s.threads ≡ end.threads))
unfolding begins opening_order
begins_listed scenario journals order end v fits leads all =
    let l = order_listed scenario journals order end v fits leads all (listed []) in
    (l.picks, (l.end, record { steps = l.steps; reached = l.runs_to; ended = l.is.ended }, l.is.journals_same, l.is.threads_same))

pub fitting_listed : (scenario : Scenario) (journals : List (List Event)) → IsValidScenario scenario → AllFit scenario.threads 0 scenario.parts journals
    → AreOneRun scenario.threads journals
    → (picks : List ℕ) × ((s : Simulation) × IsScheduledRun (with_picks scenario picks) s × (journals_of s ≡ journals))
fitting_listed scenario journals v fits one =
    let o = one_run_ordered scenario.threads scenario.parts journals (have_no_others scenario.threads 0 scenario.parts journals fits) one in
    let l = begins_listed scenario journals o.0 o.1.0 v fits o.1.1.0 o.1.1.1 in
    (l.0, (l.1.0, l.1.1, l.1.2))

pub threaded_listed : (scenario : Scenario) (journals : List (List Event)) (answers : List (List (ℕ × Answer))) → IsValidScenario scenario
    → AreRuns scenario.parts journals → IsThreaded scenario journals answers → IsListedRun scenario journals answers
threaded_listed scenario journals answers v runs threaded =
    let fits : AllFit scenario.threads 0 scenario.parts journals = threaded_fits scenario journals answers v runs threaded in
    let o = one_run_ordered scenario.threads scenario.parts journals threaded.no_others threaded.one_run in
    let l = begins_listed scenario journals o.0 o.1.0 v fits o.1.1.0 o.1.1.1 in
    let c : IsClocked scenario.threads journals (map answers_of_thread o.1.0.threads) = order_clocked scenario.threads journals o.0 o.1.0 o.1.1.0 o.1.1.1 in
    let served : AreServed journals 0 scenario.threads (map answers_of_thread o.1.0.threads) =
    worked_served journals c.stamps c.stamped 0 scenario.threads (map answers_of_thread o.1.0.threads) c.worked in
    let valid : AllByRecursion IsValidPart scenario.parts = recursion_from_All IsValidPart scenario.parts v.parts in
    record {
      picks = l.0;
      end = l.1.0;
      run = l.1.1;
      journals_same = l.1.2;
      answers_same = ap (map answers_of_thread) l.1.3
          ∙ answers_unique scenario.threads scenario.parts journals (map answers_of_thread o.1.0.threads) answers valid runs threaded.no_others served threaded.served;
    }

pub scheduled_one_run : (scenario : Scenario) (s : Simulation) → IsValidScenario scenario → IsScheduledRun scenario s → AreOneRun scenario.threads (journals_of s)
scheduled_one_run scenario s v r =
    let o = scheduled_ordered scenario s v r in
    ordered_one_run scenario.threads (journals_of s) o.0 o.1.0 o.1.1.0 o.1.1.1
