-- Every scenario whose parts have room for their traps can be guarded: its first trap is found, or it has none.
use Rattle.std.proofs.Common.{◌≡◌, ◌⊎◌, ◌≤◌, inl, inr, ℕ, zero, suc, ◌+◌, ◌^◌, Option, Some, None, List, [], ◌∷◌, ◌++◌, All, option_map, slice_get, refl, sym, ap, subst, ◌∙◌, arith}
use Rattle.nook_data.proofs.Options.{none_is_some}
use Rattle.nook_data.specs.Members.{struck}
use Rattle.nook_data.specs.Valid.{IsValidScenario}
use Rattle.nook_data.specs.declared.clause.Clause.{Clause}
use Rattle.nook_data.specs.declared.scenario.Fault.{Fault}
use Rattle.nook_data.specs.declared.scenario.Scenario.{Scenario}
use Rattle.nook_data.specs.declared.steps.Step.{Step}
use Rattle.nook_data.specs.declared.steps.Step.TheVariants as step
use Rattle.front_laws.proofs.FirstStops.{guarded_keeps}
use Rattle.front_laws.proofs.FirstTrap.{guarded_more, runs_more}
use Rattle.front_laws.proofs.GuardStep.{first_wrong_deed}
use Rattle.front_laws.proofs.GuardedRuns.{guarded_by, guarded_on}
use Rattle.front_laws.proofs.Owned.{go_on, order_of, pick_of}
use Rattle.guard_defs.specs.FirstBreaks.{IsFirstStop, NoneBreaks}
use Rattle.guard_defs.specs.Guard.{HasRoom, guard, guard_trap, guarded, trap_for, with_trap}
use Rattle.guard_defs.specs.GuardedRuns.{guarded_runs, guarded_seat, guarded_taken, known_of}
use Rattle.guard_defs.specs.declared.stop.Stop.{Stop}
use Rattle.guarded_run.proofs.Rounds.{IsGuardedSoFar, before_rounds, few_rounds, round_more, round_valid, rounds_end}
use Rattle.guarded_run.specs.Guarded.{IsGuarded}
use Rattle.guarded_run.specs.NextStop.{IsNextStop}
use Rattle.guarded_run.specs.declared.guarded.Guarded.{Guarded}
use Rattle.part_defs.specs.Runs.{event_of}
use Rattle.part_defs.specs.State.{PartState}
use Rattle.promise_defs.specs.Contract.{Known, broken}
use Rattle.run_defs.proofs.RunChanges.{taken_by}
use Rattle.run_defs.specs.Schedules.{Order}
use Rattle.run_defs.specs.Simulation.{Choice, RunningPart, Simulation, begins, choices_of, runs, stepped_by, taken}
use Rattle.sim_run.proofs.Ending.{ends_by}

-- ---- one step under the guard that puts no trap

one_by : (t : Simulation) (o : Option Choice) → pick_of t (choices_of t) ≡ o
    → ((order : Order) → guarded_by t order o ≡ taken_by t order o) → guarded_runs (suc zero) t ≡ runs (suc zero) t
unfolding guarded_runs runs guarded_taken taken
one_by t o picks same = by_choices (choices_of t) picks
  where
    by_choices : (choices : List Choice) → pick_of t choices ≡ o → guarded_on zero t choices ≡ go_on zero t choices
    by_choices [] h = refl
    by_choices (x ∷ choices) h =
        ap (guarded_by t (order_of t (x ∷ choices))) h
        ∙ same (order_of t (x ∷ choices))
        ∙ ap (taken_by t (order_of t (x ∷ choices))) (sym h)

unstopped : (p : PartState) (k : Known) (s : Step) → guard p k s ≡ None → guarded p k s ≡ p
unfolding guarded
unstopped p k s none = ap (λ (o : Option Fault). with_trap o p) none

seat_unstopped : (c : Choice) (seat : RunningPart) → guard seat.run.state (known_of seat) c.step ≡ None → guarded_seat c.step seat ≡ seat
seat_unstopped c seat none =
    ap (λ (p : PartState). record seat { run = record seat.run { state = p } }) (unstopped seat.run.state (known_of seat) c.step none)

part_alike : (t : Simulation) (c : Choice) (x : Option RunningPart) → slice_get t.parts c.part ≡ x
    → option_map (guarded_seat c.step) x ≡ x → (order : Order) → guarded_by t order (Some c) ≡ taken_by t order (Some c)
part_alike t c x at same order =
    ap (λ (o : Option RunningPart). stepped_by t order c (option_map (guarded_seat c.step) o)) at
    ∙ ap (stepped_by t order c) same
    ∙ ap (stepped_by t order c) (sym at)

-- ---- the guard puts no trap in a number of steps, or its first one is found

abbrev IsFree : Scenario → ℕ → Type 0
IsFree scenario n = guarded_runs n (begins scenario) ≡ runs n (begins scenario)

abbrev HasStop : Scenario → Type 0
HasStop scenario = (stop : Stop) × IsFirstStop scenario stop

free_more : (scenario : Scenario) (n : ℕ) → IsFree scenario n
    → guarded_runs (suc zero) (runs n (begins scenario)) ≡ runs (suc zero) (runs n (begins scenario)) → IsFree scenario (suc n)
free_more scenario n free one =
    guarded_more n (suc zero) (suc n) (begins scenario) (omega arith)
    ∙ ap (guarded_runs (suc zero)) free ∙ one
    ∙ sym (runs_more n (suc zero) (suc n) (begins scenario) (omega arith))

first_at : (scenario : Scenario) (n : ℕ) (c : Choice) (seat : RunningPart) (f : Fault) → IsFree scenario n
    → pick_of (runs n (begins scenario)) (choices_of (runs n (begins scenario))) ≡ Some c
    → slice_get (runs n (begins scenario)).parts c.part ≡ Some seat
    → guard seat.run.state (known_of seat) c.step ≡ Some f → HasStop scenario
first_at scenario n c seat f free picks at trap = by_step c.step refl trap
  where
    by_clauses : (context : ℕ) → c.step ≡ step.Burst context → (cs : List Clause)
        → broken (known_of seat) (event_of seat.run.state (step.Burst context)) ≡ cs
        → trap_for cs (guard_trap context seat.run.state (known_of seat)) ≡ Some f → HasStop scenario
    by_clauses context e [] none h = none_is_some h
    by_clauses context e (clause ∷ more) some h =
        let wrong = first_wrong_deed context seat.run.state (known_of seat) clause more some in (
          record { part = c.part; trap = guard_trap context seat.run.state (known_of seat); clause = wrong.clause },
          record {
            steps = n;
            choice = c;
            seat = seat;
            context = context;
            first = record {
              kept = subst NoneBreaks free (guarded_keeps scenario n);
              picks = picks;
              at = at;
              burst = e;
              clause = clause;
              more = more;
              breaks = some;
            };
            part = refl;
            trap = refl;
            clause = wrong.reported;
          },
        )

    by_step : (s : Step) → c.step ≡ s → guard seat.run.state (known_of seat) s ≡ Some f → HasStop scenario
    by_step (step.Invoke thread o) e h = none_is_some h
    by_step (step.Enter thread) e h = none_is_some h
    by_step step.Stage e h = none_is_some h
    by_step (step.Arrive frame) e h = none_is_some h
    by_step (step.Burst context) e h =
        by_clauses context e (broken (known_of seat) (event_of seat.run.state (step.Burst context))) refl h

step_on : (scenario : Scenario) (n : ℕ) → IsFree scenario n → IsFree scenario (suc n) ⊎ HasStop scenario
step_on scenario n free = by_pick (pick_of t (choices_of t)) refl
  where
    t : Simulation
    t = runs n (begins scenario)

    by_guard : (c : Choice) → pick_of t (choices_of t) ≡ Some c → (seat : RunningPart) → slice_get t.parts c.part ≡ Some seat
        → (o : Option Fault) → guard seat.run.state (known_of seat) c.step ≡ o → IsFree scenario (suc n) ⊎ HasStop scenario
    by_guard c picks seat at None none = inl (free_more scenario n free
        (one_by t (Some c) picks (part_alike t c (Some seat) at (ap (λ (x : RunningPart). Some x) (seat_unstopped c seat none)))))
    by_guard c picks seat at (Some f) trap = inr (first_at scenario n c seat f free picks at trap)

    by_part : (c : Choice) → pick_of t (choices_of t) ≡ Some c → (x : Option RunningPart) → slice_get t.parts c.part ≡ x
        → IsFree scenario (suc n) ⊎ HasStop scenario
    by_part c picks None at = inl (free_more scenario n free (one_by t (Some c) picks (part_alike t c None at refl)))
    by_part c picks (Some seat) at = by_guard c picks seat at (guard seat.run.state (known_of seat) c.step) refl

    by_pick : (o : Option Choice) → pick_of t (choices_of t) ≡ o → IsFree scenario (suc n) ⊎ HasStop scenario
    by_pick None picks = inl (free_more scenario n free (one_by t None picks (λ order. refl)))
    by_pick (Some c) picks = by_part c picks (slice_get t.parts c.part) refl

search : (scenario : Scenario) (n : ℕ) → IsFree scenario n ⊎ HasStop scenario
unfolding guarded_runs runs
search scenario zero = inl refl
search scenario (suc n) = by_found (search scenario n)
  where
    by_found : IsFree scenario n ⊎ HasStop scenario → IsFree scenario (suc n) ⊎ HasStop scenario
    by_found (inl free) = step_on scenario n free
    by_found (inr found) = inr found

abbrev HasNext : Scenario → Type 0
HasNext scenario = (o : Option Stop) × IsNextStop scenario o

next_by : (scenario : Scenario) (n : ℕ) → IsValidScenario scenario → 2 ^ 26 ≤ n → HasNext scenario
next_by scenario n valid l = by_found (search scenario n)
  where
    by_found : IsFree scenario n ⊎ HasStop scenario → HasNext scenario
    by_found (inl free) =
        (None, (runs n (begins scenario), ends_by scenario n valid l, subst NoneBreaks free (guarded_keeps scenario n)))
    by_found (inr (stop, first)) = (Some stop, first)

next : (scenario : Scenario) → IsValidScenario scenario → HasNext scenario
next scenario valid = next_by scenario (2 ^ 26) valid (omega arith)

-- ---- the rounds end

round_by : (scenario : Scenario) (rounds : ℕ) (made : Guarded) → IsValidScenario scenario → All HasRoom scenario.parts
    → IsGuardedSoFar scenario rounds made → HasNext made.scenario
    → ((new : Guarded) → IsGuardedSoFar scenario (rounds + 1) new → (last : Guarded) × IsGuarded scenario last)
    → (last : Guarded) × IsGuarded scenario last
round_by scenario rounds made valid room h (None, end) again =
    (made, rounds_end scenario rounds made None valid room h end (λ stop no. none_is_some no))
round_by scenario rounds made valid room h (Some stop, first) again =
    let new : Guarded = record { scenario = struck made.scenario stop.part stop.trap; stops = made.stops ++ stop ∷ [] } in
    again new (round_more scenario rounds made new stop h first refl refl)

rounds_on : (fuel rounds : ℕ) (scenario : Scenario) (made : Guarded) → IsValidScenario scenario → All HasRoom scenario.parts
    → IsGuardedSoFar scenario rounds made → 137 ≤ fuel + rounds → (last : Guarded) × IsGuarded scenario last
rounds_on zero rounds scenario made valid room h l =
    let low : 137 ≤ rounds = omega arith in absurd (few_rounds scenario rounds made valid h low)
rounds_on (suc fuel) rounds scenario made valid room h l =
    round_by scenario rounds made valid room h (next made.scenario (round_valid scenario rounds made valid room h))
    (λ new more. rounds_on fuel (rounds + 1) scenario new valid room more (omega arith))

pub can_be_guarded : (scenario : Scenario) → IsValidScenario scenario → All HasRoom scenario.parts
    → (made : Guarded) × IsGuarded scenario made
can_be_guarded scenario valid room =
    let made : Guarded = record { scenario = scenario; stops = [] } in
    rounds_on 137 0 scenario made valid room (before_rounds scenario made refl refl) (omega arith)
