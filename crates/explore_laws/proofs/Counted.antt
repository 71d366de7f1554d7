-- A run in some order: its parts are what their journals lead to, and it has one event for each step.
use Rattle.std.proofs.Common.{◌≡◌, ℕ, suc, ◌+◌, ◌*◌, ◌^◌, ◌<◌, ◌≤◌, Option, Some, None, List, [], ◌∷◌, is_some}
use Rattle.std.proofs.Common.{◌||◌, length, map, refl, sym, ap, ap₂, ◌∙◌, subst, arith}
use Rattle.std.specs.List.{AllByRecursion, list_any}
use Rattle.std.proofs.lemmas.List.Elements.{recursion_from_All}
use Rattle.explore_defs.specs.Orders.{IsOfLevel, Path, follows, led, with_schedule}
use Rattle.explore_defs.specs.Outcomes.{clause_of, left_by, outcome_by, outcome_of}
use Rattle.explore_defs.specs.declared.outcome.Outcome.{Outcome}
use Rattle.explore_defs.specs.declared.outcome.PartOutcome.{PartOutcome}
use Rattle.explore_defs.specs.Outcomes.{part_outcome, parts_left}
use Rattle.explore_laws.proofs.Led.{HasStep, IsListedStep, led_step, listed_run, listed_step, listing, with_order}
use Rattle.guard_defs.specs.GuardedRuns.{spec_of}
use Rattle.nook_data.proofs.Options.{same_inside}
use Rattle.nook_data.specs.Types.{Break, Event, PartSpec, Scenario, ScheduleSpec}
use Rattle.nook_data.specs.Valid.{IsValidPart, IsValidScenario}
use Rattle.part_defs.specs.Steps.{opening}
use Rattle.part_laws.proofs.DeviceStays.{opening_spec, spec_from}
use Rattle.part_laws.proofs.RunSmall.{run_small}
use Rattle.part_laws.proofs.ValidFits.{valid_fits}
use Rattle.promise_defs.specs.Contract.{first_break}
use Rattle.report_defs.specs.ReportText.{has_break}
use Rattle.run_defs.specs.Schedules.{listed}
use Rattle.run_defs.specs.Simulation.{IsScheduledRun, RunningPart, Simulation, answer_table, begins, events_count}
use Rattle.run_defs.specs.Simulation.{journal_of, journals_of}
use Rattle.sim_run.proofs.Reaching.{none_at_first, one_event_more, seats_of_runs}
use Rattle.sim_run.specs.Reached.{AreSeatsOf, IsSeatOf}

-- ---- the parts

pub seats_led : (scenario : Scenario) (picks : List ℕ) (t : Simulation) → led (begins scenario) picks ≡ Some t
    → AreSeatsOf scenario.parts t.parts
seats_led scenario picks t h =
    subst (λ (x : Simulation). AreSeatsOf scenario.parts x.parts) (listed_run scenario picks t h)
    (seats_of_runs (listing scenario picks) (length picks))

-- a part is still made from its spec
pub seat_spec : (spec : PartSpec) (seat : RunningPart) → IsSeatOf spec seat → spec_of seat ≡ spec
seat_spec spec seat is =
    ap (λ p. p.spec) is.state ∙ spec_from (opening spec) seat.run.journal ∙ opening_spec spec

parts_left_by : (specs : List PartSpec) (seats : List RunningPart) → AreSeatsOf specs seats
    → map part_outcome seats ≡ parts_left specs (map journal_of seats)
unfolding parts_left
parts_left_by [] [] are = refl
parts_left_by [] (seat ∷ seats) are = absurd are
parts_left_by (spec ∷ specs) [] are = absurd are
parts_left_by (spec ∷ specs) (seat ∷ seats) are = ap₂ (λ (p : PartOutcome) ps. p ∷ ps)
    (ap (λ made. left_by made seat.run.journal seat.run.state) (seat_spec spec seat are.0)
    ∙ ap (left_by spec seat.run.journal) are.0.state)
    (parts_left_by specs seats are.1)

outcome_left_by : (specs : List PartSpec) (s : Simulation) → AreSeatsOf specs s.parts
    → outcome_of s ≡ outcome_by specs (journals_of s) (answer_table s)
unfolding outcome_of
outcome_left_by specs s are =
    ap {B = Outcome} (λ parts. record { answers = answer_table s; parts = parts }) (parts_left_by specs s.parts are)

pub outcome_left : (scenario : Scenario) (steps : ℕ) (path : Path) → IsOfLevel scenario steps path
    → outcome_of path.end ≡ outcome_by scenario.parts (journals_of path.end) (answer_table path.end)
outcome_left scenario steps path l = outcome_left_by scenario.parts path.end (seats_led scenario path.picks path.end l.led)

pub scheduled_left : (scenario : Scenario) (spec : ScheduleSpec) (s : Simulation) → IsScheduledRun (with_schedule scenario spec) s
    → outcome_of s ≡ outcome_by scenario.parts (journals_of s) (answer_table s)
scheduled_left scenario spec s r = outcome_left_by scenario.parts s
    (subst (λ (x : Simulation). AreSeatsOf scenario.parts x.parts) r.reached (seats_of_runs (with_schedule scenario spec) r.steps))

-- some part broke its contract exactly if some part's outcome has a clause
pub breaks_left : (specs : List PartSpec) (journals : List (List Event))
    → has_break specs journals ≡ list_any (λ (p : PartOutcome). is_some p.broken) (parts_left specs journals)
unfolding has_break parts_left
breaks_left [] journals = refl
breaks_left (spec ∷ specs) [] = refl
breaks_left (spec ∷ specs) (events ∷ journals) =
    ap₂ (λ a b. a || b) (is_clause (first_break spec.class spec.blocks events)) (breaks_left specs journals)
  where
    is_clause : (verdict : Option Break) → is_some verdict ≡ is_some (clause_of verdict)
    is_clause None = refl
    is_clause (Some b) = refl

-- ---- the events

counted : (picks : List ℕ) (s t : Simulation) → led s picks ≡ Some t
    → events_count (journals_of t) ≡ events_count (journals_of s) + length picks
unfolding led
counted [] s t h = ap (λ (x : Simulation). events_count (journals_of x)) (sym (same_inside h)) ∙ none (events_count (journals_of s))
  where
    none : (n : ℕ) → n ≡ n + 0
    none n = omega arith
counted (actor ∷ picks) s t h =
    let one : HasStep s actor picks t = led_step s t actor picks h in
    let step : IsListedStep s actor picks one.choice = listed_step s actor picks one.choice one.chosen in
    let more : events_count (journals_of (follows s one.choice)) ≡ events_count (journals_of s) + 1 =
    sym (ap (λ (x : Simulation). events_count (journals_of x)) step.step)
    ∙ one_event_more (with_order (listed (actor ∷ picks)) s) step.some in
    sum (events_count (journals_of t)) (events_count (journals_of (follows s one.choice))) (events_count (journals_of s))
    (length picks) (counted picks (follows s one.choice) t one.leads) more
  where
    sum : (a b c n : ℕ) → a ≡ b + n → b ≡ c + 1 → a ≡ c + suc n
    sum a b c n e f = omega arith

pub level_counted : (scenario : Scenario) (steps : ℕ) (path : Path) → IsOfLevel scenario steps path
    → events_count (journals_of path.end) ≡ steps
level_counted scenario steps path l =
    sum (events_count (journals_of path.end)) (events_count (journals_of (begins scenario))) (length path.picks) steps
    (counted path.picks (begins scenario) path.end l.led) (none_at_first scenario) l.count
  where
    sum : (a b n m : ℕ) → a ≡ b + n → b ≡ 0 → n ≡ m → a ≡ m
    sum a b n m e f g = omega arith

few_in_all : (specs : List PartSpec) (seats : List RunningPart) → AllByRecursion IsValidPart specs → AreSeatsOf specs seats
    → events_count (map journal_of seats) + length specs ≤ length specs * 2 ^ 23
few_in_all [] [] valid are = omega arith
few_in_all [] (seat ∷ seats) valid are = absurd are
few_in_all (spec ∷ specs) [] valid are = absurd are
few_in_all (spec ∷ specs) (seat ∷ seats) valid are =
    let here : length seat.run.journal < 2 ^ 23 =
    run_small spec seat.run.journal (valid_fits spec valid.0) valid.0.limit are.0.run in
    let more : events_count (map journal_of seats) + length specs ≤ length specs * 2 ^ 23 =
    few_in_all specs seats valid.1 are.1 in
    sum (length seat.run.journal) (events_count (map journal_of seats)) (length specs) here more
  where
    sum : (n m k : ℕ) → n < 2 ^ 23 → m + k ≤ k * 2 ^ 23 → n + m + suc k ≤ suc k * 2 ^ 23
    sum n m k a b = omega arith

pub order_ends : (scenario : Scenario) (steps : ℕ) (path : Path) → IsValidScenario scenario → IsOfLevel scenario steps path
    → steps < 2 ^ 26
order_ends scenario steps path v l =
    small (events_count (journals_of path.end)) steps (length scenario.parts) v.part_count.0 v.part_count.1
    (few_in_all scenario.parts path.end.parts (recursion_from_All IsValidPart scenario.parts v.parts)
    (seats_led scenario path.picks path.end l.led))
    (level_counted scenario steps path l)
  where
    small : (n steps k : ℕ) → 1 ≤ k → k ≤ 8 → n + k ≤ k * 2 ^ 23 → n ≡ steps → steps < 2 ^ 26
    small n steps k a b c e = omega arith
