use Rattle.std.proofs.Common.{◌≡◌, ℕ, zero, suc, ◌+◌, ◌*◌, ◌^◌, ◌<◌, ◌≤◌, true, Option, Some, None, List, [], ◌∷◌, ◌++◌, map, length, slice_get, slice_set, refl, sym, ap, ◌∙◌, subst, arith, length-append}
use Rattle.std.specs.List.{AllByRecursion}
use Rattle.std.proofs.lemmas.List.Elements.{recursion_from_All}
use Rattle.nook_data.specs.declared.scenario.PartSpec.{PartSpec}
use Rattle.nook_data.specs.declared.scenario.Scenario.{Scenario}
use Rattle.nook_data.specs.declared.steps.Step.{Step}
use Rattle.run_defs.specs.Simulation.{events_count}
use Rattle.part_defs.specs.Runs.{IsRun, IsRunFrom, state_of, state_from, event_of, state_after}
use Rattle.run_defs.specs.Schedules.{picked}
use Rattle.run_defs.specs.Simulation.{Choice, RunningPart, Simulation, actor_of, begins, choices_of, journal_of}
use Rattle.run_defs.specs.Simulation.{journals_of, opening_part, runs, part_after, stepped_by, taken}
use Rattle.run_defs.proofs.RunChanges.{taken_by}
use Rattle.part_defs.specs.Steps.{enabled, opening}
use Rattle.nook_data.specs.Valid.{IsValidPart, IsValidScenario}
use Rattle.part_laws.proofs.Indices.{length_map}
use Rattle.part_laws.proofs.RunSmall.{run_small}
use Rattle.part_laws.proofs.RunsDetermined.{run_more, state_more}
use Rattle.part_laws.proofs.ValidFits.{valid_fits}
use Rattle.sim_run.proofs.Choosing.{choices_open}
use Rattle.sim_run.proofs.Picking.{picked_within}
use Rattle.sim_run.specs.Published.{moved}
use Rattle.run_results.specs.Journals.{AreRuns}
use Rattle.sim_run.specs.Reached.{AreSeatsOf, IsSeatOf, MayTake, IsOpenChoice}

-- The effect of one step on a simulation.

pub at_position : {X : Type 0} (P : X → Type 0) (xs : List X) (i : ℕ) (x : X) → AllByRecursion P xs → slice_get xs i ≡ Some x → P x
at_position P [] i x all h = cc
at_position P (y ∷ xs) zero x all h = subst P (inner h) all.0
  where
    inner : {X : Type 0} {a b : X} → Some a ≡ Some b → a ≡ b
    inner h = cc
at_position P (y ∷ xs) (suc i) x all h = at_position P xs i x all.1 h

some_at : {X : Type 0} (xs : List X) (i : ℕ) → i < length xs → (x : X) × (slice_get xs i ≡ Some x)
some_at [] i l = absurd (omega arith)
some_at (x ∷ xs) zero l = (x, refl)
some_at (x ∷ xs) (suc i) l = some_at xs i (omega arith)

-- the picked choice and its part
pub record IsPicked (s : Simulation) (choices : List Choice) (c : Choice) (seat : RunningPart) : Type 0 where
  pub found : slice_get choices (picked s.order (map actor_of choices)).index ≡ Some c
  pub at_part : slice_get s.parts c.part ≡ Some seat
  pub may : enabled seat.run.state c.step ≡ true
  pub step : taken s choices ≡ stepped_by s (picked s.order (map actor_of choices)).order c (Some seat)

picked_part : (s : Simulation) (choices : List Choice) (c : Choice) (o : Option RunningPart)
    → slice_get choices (picked s.order (map actor_of choices)).index ≡ Some c → slice_get s.parts c.part ≡ o → MayTake o c.step
    → (seat : RunningPart) × IsPicked s choices c seat
unfolding taken
picked_part s choices c None h e may = absurd may
picked_part s choices c (Some seat) h e may = (
  seat,
  record {
    found = h;
    at_part = e;
    may = may;
    step = ap (taken_by s (picked s.order (map actor_of choices)).order) h
        ∙ ap (stepped_by s (picked s.order (map actor_of choices)).order c) e;
  },
)

pub picked_one : (s : Simulation) (choices : List Choice) → AllByRecursion (IsOpenChoice s.parts) choices → 0 < length choices
    → (c : Choice) × ((seat : RunningPart) × IsPicked s choices c seat)
picked_one s choices all l =
    let n : length (map actor_of choices) ≡ length choices = length_map actor_of choices in
    let w : (picked s.order (map actor_of choices)).index < length (map actor_of choices) = picked_within s.order (map actor_of choices) (omega arith) in
    let one = some_at choices (picked s.order (map actor_of choices)).index (omega arith) in (
      one.0,
      picked_part s choices one.0 (slice_get s.parts one.0.part) one.1 refl
          (at_position (IsOpenChoice s.parts) choices (picked s.order (map actor_of choices)).index one.0 all one.1),
    )

-- Each part stays in the state that its journal leads to.

seat_more : (spec : PartSpec) (seat : RunningPart) (s : Step) → IsSeatOf spec seat → enabled seat.run.state s ≡ true → IsSeatOf spec (part_after s seat)
seat_more spec seat s is may =
    let to : state_of spec seat.run.journal ≡ seat.run.state = sym is.state in
    record {
      run = subst (λ p. IsRun spec (seat.run.journal ++ event_of p s ∷ [])) to
          (run_more (opening spec) seat.run.journal s is.run (ap (λ p. enabled p s) to ∙ may));
      state = ap (λ p. state_after p s) is.state ∙ sym (state_more (opening spec) seat.run.journal s)
          ∙ ap (λ p. state_of spec (seat.run.journal ++ event_of p s ∷ [])) to;
    }

seats_set : (specs : List PartSpec) (seats : List RunningPart) (i : ℕ) (seat new : RunningPart) → slice_get seats i ≡ Some seat
    → ((spec : PartSpec) → IsSeatOf spec seat → IsSeatOf spec new) → AreSeatsOf specs seats → AreSeatsOf specs (slice_set seats i new)
seats_set [] [] i seat new e keep are = are
seats_set [] (x ∷ seats) i seat new e keep are = absurd are
seats_set (spec ∷ specs) [] i seat new e keep are = absurd are
seats_set (spec ∷ specs) (x ∷ seats) zero seat new e keep are = (keep spec (subst (IsSeatOf spec) (inner e) are.0), are.1)
  where
    inner : {a b : RunningPart} → Some a ≡ Some b → a ≡ b
    inner h = cc
seats_set (spec ∷ specs) (x ∷ seats) (suc i) seat new e keep are = (are.0, seats_set specs seats i seat new e keep are.1)

seats_picked : (specs : List PartSpec) (s : Simulation) (choices : List Choice) (c : Choice) (seat : RunningPart) → IsPicked s choices c seat
    → AreSeatsOf specs s.parts → AreSeatsOf specs (taken s choices).parts
seats_picked specs s choices c seat p are =
    subst (λ (x : Simulation). AreSeatsOf specs x.parts) (sym p.step)
    (seats_set specs s.parts c.part seat (part_after c.step seat) p.at_part (λ spec is. seat_more spec seat c.step is p.may) are)

-- Each step adds one event.

count_set : (seats : List RunningPart) (i : ℕ) (seat new : RunningPart) → slice_get seats i ≡ Some seat
    → length new.run.journal ≡ length seat.run.journal + 1
    → events_count (map journal_of (slice_set seats i new)) ≡ events_count (map journal_of seats) + 1
count_set [] i seat new e l = cc
count_set (x ∷ seats) zero seat new e l =
    let same : length x.run.journal ≡ length seat.run.journal = ap (λ (y : RunningPart). length y.run.journal) (inner e) in
    sum (length new.run.journal) (length x.run.journal) (events_count (map journal_of seats)) (l ∙ ap (λ n. n + 1) (sym same))
  where
    inner : {a b : RunningPart} → Some a ≡ Some b → a ≡ b
    inner h = cc

    sum : (n m k : ℕ) → n ≡ m + 1 → n + k ≡ m + k + 1
    sum n m k e = omega arith
count_set (x ∷ seats) (suc i) seat new e l =
    sum (length x.run.journal) _ _ (count_set seats i seat new e l)
  where
    sum : (k n m : ℕ) → n ≡ m + 1 → k + n ≡ k + m + 1
    sum k n m e = omega arith

count_picked : (s : Simulation) (choices : List Choice) (c : Choice) (seat : RunningPart) → IsPicked s choices c seat
    → events_count (journals_of (taken s choices)) ≡ events_count (journals_of s) + 1
count_picked s choices c seat p =
    ap (λ (x : Simulation). events_count (journals_of x)) p.step
    ∙ count_set s.parts c.part seat (part_after c.step seat) p.at_part (length-append seat.run.journal (event_of seat.run.state c.step ∷ []))

pub one_event_more : (s : Simulation) → 0 < length (choices_of s)
    → events_count (journals_of (taken s (choices_of s))) ≡ events_count (journals_of s) + 1
one_event_more s l =
    let one = picked_one s (choices_of s) (choices_open s) l in
    count_picked s (choices_of s) one.0 one.1.0 one.1.1

-- Runs, split at their last step.

pub runs_still : (n : ℕ) (s : Simulation) → choices_of s ≡ [] → runs n s ≡ s
unfolding runs
runs_still zero s e = refl
runs_still (suc n) s e = rw (e, runs) refl

pub runs_front : (n : ℕ) (s : Simulation) → runs (suc n) s ≡ runs n (moved s (choices_of s))
unfolding runs
runs_front n s = by_choices (choices_of s) refl
  where
    by_choices : (choices : List Choice) → choices_of s ≡ choices → runs (suc n) s ≡ runs n (moved s choices)
    by_choices [] e = rw (e, runs) (sym (runs_still n s e))
    by_choices (c ∷ choices) e = rw (e, runs) refl

pub runs_back : (n : ℕ) (s : Simulation) → runs (suc n) s ≡ moved (runs n s) (choices_of (runs n s))
unfolding runs
runs_back zero s = runs_front 0 s
runs_back (suc n) s =
    runs_front (suc n) s ∙ runs_back n (moved s (choices_of s))
    ∙ ap (λ (x : Simulation). moved x (choices_of x)) (sym (runs_front n s))

-- Properties of every reached simulation.

moved_seats : (specs : List PartSpec) (s : Simulation) (choices : List Choice) → AllByRecursion (IsOpenChoice s.parts) choices
    → AreSeatsOf specs s.parts → AreSeatsOf specs (moved s choices).parts
moved_seats specs s [] all are = are
moved_seats specs s (c ∷ choices) all are =
    let one = picked_one s (c ∷ choices) all (omega arith) in
    seats_picked specs s (c ∷ choices) one.0 one.1.0 one.1.1 are

runs_seats : (specs : List PartSpec) (n : ℕ) (s : Simulation) → AreSeatsOf specs s.parts → AreSeatsOf specs (runs n s).parts
unfolding runs
runs_seats specs zero s are = are
runs_seats specs (suc n) s are =
    subst (λ (x : Simulation). AreSeatsOf specs x.parts) (sym (runs_front n s))
    (runs_seats specs n (moved s (choices_of s)) (moved_seats specs s (choices_of s) (choices_open s) are))

opening_seats : (specs : List PartSpec) → AreSeatsOf specs (map opening_part specs)
unfolding IsRunFrom state_from
opening_seats [] = tt
opening_seats (spec ∷ specs) = (record { run = tt; state = refl }, opening_seats specs)

pub seats_of_runs : (scenario : Scenario) (n : ℕ) → AreSeatsOf scenario.parts (runs n (begins scenario)).parts
unfolding begins
seats_of_runs scenario n = runs_seats scenario.parts n (begins scenario) (opening_seats scenario.parts)

-- every journal is a run of its part
pub runs_of_seats : (specs : List PartSpec) (seats : List RunningPart) → AreSeatsOf specs seats → AreRuns specs (map journal_of seats)
runs_of_seats [] [] are = tt
runs_of_seats [] (seat ∷ seats) are = absurd are
runs_of_seats (spec ∷ specs) [] are = absurd are
runs_of_seats (spec ∷ specs) (seat ∷ seats) are = (are.0.run, runs_of_seats specs seats are.1)

-- Runs are short.

count_low : (specs : List PartSpec) (seats : List RunningPart) → AllByRecursion IsValidPart specs → AreSeatsOf specs seats
    → events_count (map journal_of seats) + length specs ≤ length specs * 2 ^ 23
count_low [] [] valid are = omega arith
count_low [] (seat ∷ seats) valid are = absurd are
count_low (spec ∷ specs) [] valid are = absurd are
count_low (spec ∷ specs) (seat ∷ seats) valid are =
    let here : length seat.run.journal < 2 ^ 23 = run_small spec seat.run.journal (valid_fits spec valid.0) valid.0.limit are.0.run in
    let more : events_count (map journal_of seats) + length specs ≤ length specs * 2 ^ 23 = count_low specs seats valid.1 are.1 in
    sum (length seat.run.journal) (events_count (map journal_of seats)) (length specs) here more
  where
    sum : (n m k : ℕ) → n < 2 ^ 23 → m + k ≤ k * 2 ^ 23 → n + m + suc k ≤ suc k * 2 ^ 23
    sum n m k a b = omega arith

pub few_events : (scenario : Scenario) (n : ℕ) → IsValidScenario scenario → events_count (journals_of (runs n (begins scenario))) < 2 ^ 26
few_events scenario n v =
    let low = count_low scenario.parts (runs n (begins scenario)).parts (recursion_from_All IsValidPart scenario.parts v.parts) (seats_of_runs scenario n) in
    small (events_count (journals_of (runs n (begins scenario)))) (length scenario.parts) v.part_count.0 v.part_count.1 low
  where
    small : (n k : ℕ) → 1 ≤ k → k ≤ 8 → n + k ≤ k * 2 ^ 23 → n < 2 ^ 26
    small n k a b c = omega arith

pub none_at_first : (scenario : Scenario) → events_count (journals_of (begins scenario)) ≡ 0
unfolding begins
none_at_first scenario = none_of scenario.parts
  where
    none_of : (specs : List PartSpec) → events_count (map journal_of (map opening_part specs)) ≡ 0
    none_of [] = refl
    none_of (spec ∷ specs) = sum (events_count (map journal_of (map opening_part specs))) (none_of specs)
      where
        sum : (n : ℕ) → n ≡ 0 → 0 + n ≡ 0
        sum n e = omega arith
