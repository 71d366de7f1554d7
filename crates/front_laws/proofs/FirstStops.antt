-- The trap at the first break of a scenario's run is the first trap of the guarded run, and the first that is found.
use Rattle.std.proofs.Common.{◌≡◌, ◌<◌, ℕ, zero, suc, ◌+◌, ◌-◌, Option, Some, None, List, [], ◌∷◌, ◌++◌, map, option_map, slice_get, slice_set, refl, sym, ap, subst, ◌∙◌, arith, append_assoc}
use Rattle.nook_data.proofs.Options.{none_is_some, same_inside}
use Rattle.nook_data.specs.Members.{struck}
use Rattle.nook_data.specs.declared.clause.Clause.{Clause}
use Rattle.nook_data.specs.declared.scenario.Fault.{Fault}
use Rattle.nook_data.specs.declared.scenario.PartSpec.{PartSpec}
use Rattle.nook_data.specs.declared.scenario.Scenario.{Scenario}
use Rattle.nook_data.specs.declared.steps.Step.{Step}
use Rattle.nook_data.specs.declared.steps.Step.TheVariants as step
use Rattle.guard_defs.specs.declared.stop.Stop.{Stop}
use Rattle.guard_defs.specs.FirstBreaks.{IsFirstStop, NoneBreaks, picked_choice}
use Rattle.guard_defs.specs.Guard.{guard, guard_trap, guarded, known_at_first, trap_for, with_own, with_trap}
use Rattle.guard_defs.specs.GuardedRuns.{guarded_moved, guarded_runs, guarded_seat, guarded_taken, known_of, spec_of, stop_at, stop_by, stop_made, stop_of, stops_found, reported_clause}
use Rattle.part_defs.specs.Runs.{event_of}
use Rattle.part_defs.specs.State.{PartState}
use Rattle.part_defs.specs.Steps.{opening}
use Rattle.part_laws.proofs.DeviceStays.{opening_spec, spec_after}
use Rattle.part_laws.proofs.Indices.{get_map}
use Rattle.part_laws.proofs.RunsDetermined.{step_named}
use Rattle.promise_defs.specs.Contract.{Known, broken, first_break}
use Rattle.run_defs.proofs.RunChanges.{taken_by}
use Rattle.run_defs.specs.Schedules.{Order}
use Rattle.run_defs.specs.Simulation.{Choice, IsScheduledRun, RunningPart, Simulation, begins, choices_of, opening_part, part_after, runs, stepped_by, taken}
use Rattle.front_laws.specs.FirstTrap.{IsFirstTrap}
use Rattle.front_laws.specs.GuardedParts.{IsGuardedPart}
use Rattle.front_laws.specs.Owned.{owned, seat_with, struck_at}
use Rattle.front_laws.proofs.FirstTrap.{alike_then, before_then, guarded_more, guarded_with, kept_before, put_first, runs_more, runs_still, struck_then}
use Rattle.front_laws.proofs.Free.{free_by, free_runs, free_step, grown, own_step}
use Rattle.front_laws.proofs.GuardRun.{guarded_kept, step_free, step_kept}
use Rattle.front_laws.proofs.GuardedParts.{guarded_part}
use Rattle.front_laws.proofs.GuardedRuns.{AreOf, begins_of, guarded_by, guarded_on, guarded_runs_is}
use Rattle.front_laws.proofs.Owned.{choices_same, get_owning, go_on, order_of, pick_of, seat_at}
use Rattle.front_laws.proofs.Unique.{guarded_still}
use Rattle.front_laws.proofs.WholeRuns.{At, next_seat, struck_here}

-- ---- the parts of a run have the specs that the scenario gives them

set_specs : (parts : List RunningPart) (i : ℕ) (seat new : RunningPart) → slice_get parts i ≡ Some seat → spec_of new ≡ spec_of seat
    → map spec_of (slice_set parts i new) ≡ map spec_of parts
set_specs [] i seat new at same = refl
set_specs (x ∷ parts) zero seat new at same =
    ap (λ (spec : PartSpec). spec ∷ map spec_of parts) (same ∙ ap (λ (y : RunningPart). spec_of y) (sym (same_inside at)))
set_specs (x ∷ parts) (suc i) seat new at same = ap (λ (specs : List PartSpec). spec_of x ∷ specs) (set_specs parts i seat new at same)

kept_specs : (s : Simulation) (order : Order) (o : Option Choice) → map spec_of (taken_by s order o).parts ≡ map spec_of s.parts
kept_specs s order None = refl
kept_specs s order (Some c) = by_part (slice_get s.parts c.part) refl
  where
    by_part : (x : Option RunningPart) → slice_get s.parts c.part ≡ x → map spec_of (stepped_by s order c x).parts ≡ map spec_of s.parts
    by_part None e = refl
    by_part (Some seat) e = set_specs s.parts c.part seat (part_after c.step seat) e (spec_after seat.run.state c.step)

run_specs : (n : ℕ) (s : Simulation) → map spec_of (runs n s).parts ≡ map spec_of s.parts
unfolding runs taken
run_specs zero s = refl
run_specs (suc more) s = by_choices (choices_of s) (run_specs more)
  where
    by_choices : (choices : List Choice) → ((x : Simulation) → map spec_of (runs more x).parts ≡ map spec_of x.parts)
        → map spec_of (go_on more s choices).parts ≡ map spec_of s.parts
    by_choices [] again = refl
    by_choices (c ∷ choices) again =
        again (taken s (c ∷ choices)) ∙ kept_specs s (order_of s (c ∷ choices)) (pick_of s (c ∷ choices))

opened_specs : (specs : List PartSpec) → map spec_of (map opening_part specs) ≡ specs
opened_specs [] = refl
opened_specs (spec ∷ specs) =
    ap (λ (x : PartSpec). x ∷ map spec_of (map opening_part specs)) (opening_spec spec)
    ∙ ap (λ (xs : List PartSpec). spec ∷ xs) (opened_specs specs)

pub specs_of_run : (scenario : Scenario) (n : ℕ) → map spec_of (runs n (begins scenario)).parts ≡ scenario.parts
unfolding begins
specs_of_run scenario n = run_specs n (begins scenario) ∙ opened_specs scenario.parts

pub spec_there : (scenario : Scenario) (n index : ℕ) (seat : RunningPart) → At (runs n (begins scenario)) index seat
    → slice_get scenario.parts index ≡ Some (spec_of seat)
spec_there scenario n index seat at =
    ap (λ (specs : List PartSpec). slice_get specs index) (sym (specs_of_run scenario n))
    ∙ get_map spec_of (runs n (begins scenario)).parts index seat at

-- ---- its trap is the first one

pub guard_is : (p : PartState) (k : Known) (s : Step) (context : ℕ) (clause : Clause) (more : List Clause) → s ≡ step.Burst context
    → broken k (event_of p (step.Burst context)) ≡ clause ∷ more → guard p k s ≡ Some (guard_trap context p k)
guard_is p k s context clause more named some =
    ap (guard p k) named ∙ ap (λ (clauses : List Clause). trap_for clauses (guard_trap context p k)) some

stop_guard : (scenario : Scenario) (stop : Stop) (h : IsFirstStop scenario stop)
    → guard h.seat.run.state (known_of h.seat) h.choice.step ≡ Some stop.trap
stop_guard scenario stop h =
    guard_is h.seat.run.state (known_of h.seat) h.choice.step h.context h.first.clause h.first.more h.first.burst h.first.breaks
    ∙ ap (λ (f : Fault). Some f) (sym h.trap)

pub first_trap : (scenario : Scenario) (stop : Stop) (h : IsFirstStop scenario stop) → IsFirstTrap scenario stop.part stop.trap h.steps
first_trap scenario stop h = record {
  spec = spec_of h.seat;
  there = ap (slice_get scenario.parts) h.part ∙ spec_there scenario h.steps h.choice.part h.seat h.first.at;
  kept = h.first.kept;
  choice = h.choice;
  picks = h.first.picks;
  part = sym h.part;
  seat = h.seat;
  at = ap (slice_get (runs h.steps (begins scenario)).parts) h.part ∙ h.first.at;
  trap = stop_guard scenario stop h;
}

-- ---- a guarded run breaks nothing

spec_at : (parts : List RunningPart) (specs : List PartSpec) (i : ℕ) (seat : RunningPart) → AreOf parts specs → slice_get parts i ≡ Some seat
    → (spec : PartSpec) × (slice_get specs i ≡ Some spec)
unfolding AreOf
spec_at [] specs i seat a h = none_is_some h
spec_at (x ∷ parts) [] i seat a h = absurd a
spec_at (x ∷ parts) (spec ∷ specs) zero seat a h = (spec, refl)
spec_at (x ∷ parts) (spec ∷ specs) (suc i) seat a h = spec_at parts specs i seat a.1 h

pub guarded_keeps : (scenario : Scenario) (n : ℕ) → NoneBreaks (guarded_runs n (begins scenario))
unfolding first_break
guarded_keeps scenario n = λ index seat at.
    let there = spec_at (guarded_runs n (begins scenario)).parts scenario.parts index seat (begins_of scenario n) at in
    let g : IsGuardedPart there.0 seat = guarded_part scenario index n there.0 seat there.1 at in
    ap (λ (spec : PartSpec). first_break spec.class spec.blocks seat.run.journal) g.faults
    ∙ guarded_kept 1 (opening there.0) (known_at_first there.0) seat.run.journal g.run

-- ---- with the trap from the start nothing is broken before or by its burst

unstopped : (p : PartState) (k : Known) (s : Step) → guard p k s ≡ None → guarded p k s ≡ p
unfolding guarded
unstopped p k s none = ap (λ (o : Option Fault). with_trap o p) none

one_alike : (t : Simulation) (c : Choice) (seat : RunningPart) → pick_of t (choices_of t) ≡ Some c → At t c.part seat
    → guard seat.run.state (known_of seat) c.step ≡ None → guarded_runs (suc zero) t ≡ runs (suc zero) t
unfolding guarded_runs runs guarded_taken taken
one_alike t c seat picks at none = by_choices (choices_of t) picks
  where
    seat_same : guarded_seat c.step seat ≡ seat
    seat_same =
        ap (λ (p : PartState). record seat { run = record seat.run { state = p } })
        (unstopped seat.run.state (known_of seat) c.step none)

    by_pick : (order : Order) → guarded_by t order (Some c) ≡ taken_by t order (Some c)
    by_pick order =
        ap (λ (o : Option RunningPart). stepped_by t order c (option_map (guarded_seat c.step) o)) at
        ∙ ap (λ (x : RunningPart). stepped_by t order c (Some x)) seat_same
        ∙ ap (stepped_by t order c) (sym at)

    by_choices : (choices : List Choice) → pick_of t choices ≡ Some c → guarded_on zero t choices ≡ go_on zero t choices
    by_choices [] h = refl
    by_choices (x ∷ choices) h =
        ap (guarded_by t (order_of t (x ∷ choices))) h
        ∙ by_pick (order_of t (x ∷ choices))
        ∙ ap (taken_by t (order_of t (x ∷ choices))) (sym h)

struck_free : (p : PartState) (k : Known) (s : Step) (f : Fault) → guard p k s ≡ Some f
    → guard (with_own (p.spec.faults ++ f ∷ []) p) k s ≡ None
struck_free p k s f e =
    subst (λ (q : PartState). guard q k s ≡ None) (guarded_with p k s f e)
    (step_free (guarded p k s) k s (step_kept p k s (event_of (guarded p k s) s) (sym (step_named (guarded p k s) s)) refl)).0

struck_alike : (scenario : Scenario) (index : ℕ) (f : Fault) (steps : ℕ) → IsFirstTrap scenario index f steps
    → guarded_runs (suc steps) (begins (struck scenario index f)) ≡ runs (suc steps) (begins (struck scenario index f))
struck_alike scenario index f steps h =
    let c : Choice = h.choice in
    let t : Simulation = runs steps (begins scenario) in
    let change : ℕ → List Fault → List Fault = struck_at c.part f in
    let s : Simulation = begins (struck scenario c.part f) in
    let there : slice_get scenario.parts c.part ≡ Some h.spec = ap (slice_get scenario.parts) h.part ∙ h.there in
    let at : At t c.part h.seat = ap (slice_get t.parts) h.part ∙ h.at in
    let with : RunningPart = seat_with (h.seat.run.state.spec.faults ++ f ∷ []) h.seat in
    let runs_to : runs steps s ≡ owned change t =
    struck_then scenario f steps h.spec c there h.kept h.picks h.seat at h.trap steps 0 (omega arith) in
    let guarded_to : guarded_runs steps s ≡ owned change t =
    before_then scenario f steps h.spec c there h.kept h.picks h.seat at h.trap steps 0 (omega arith)
    ∙ ap (owned change) (alike_then scenario f steps h.spec c there h.kept h.picks h.seat at h.trap steps 0 (omega arith)) in
    let picks : pick_of (owned change t) (choices_of (owned change t)) ≡ Some c = ap (pick_of t) (choices_same change t) ∙ h.picks in
    let with_at : At (owned change t) c.part with =
    get_owning change 0 c.part c.part t.parts (omega arith) ∙ ap (option_map (seat_at change c.part)) at
    ∙ ap (λ (own : List Fault). Some (seat_with own h.seat)) (struck_here c.part f h.seat.run.state.spec.faults) in
    subst (λ (i : ℕ). guarded_runs (suc steps) (begins (struck scenario i f)) ≡ runs (suc steps) (begins (struck scenario i f))) h.part
    (guarded_more steps (suc zero) (suc steps) s (omega arith)
    ∙ ap (guarded_runs (suc zero)) guarded_to
    ∙ one_alike (owned change t) c with picks with_at (struck_free h.seat.run.state (known_of h.seat) c.step f h.trap)
    ∙ ap (runs (suc zero)) (sym runs_to)
    ∙ sym (runs_more steps (suc zero) (suc steps) s (omega arith)))

pub struck_keeps : (scenario : Scenario) (index : ℕ) (f : Fault) (steps : ℕ) → IsFirstTrap scenario index f steps
    → NoneBreaks (runs (suc steps) (begins (struck scenario index f)))
struck_keeps scenario index f steps h =
    subst NoneBreaks (struck_alike scenario index f steps h) (guarded_keeps (struck scenario index f) (suc steps))

-- ---- the traps found in a number of steps, and in some more

guarded_front : (n : ℕ) (s : Simulation) → guarded_runs (suc n) s ≡ guarded_runs n (guarded_moved s (choices_of s))
guarded_front n s = guarded_runs_is n s ∙ by_choices (choices_of s) refl
  where
    by_choices : (choices : List Choice) → choices_of s ≡ choices → guarded_on n s choices ≡ guarded_runs n (guarded_moved s choices)
    by_choices [] none = sym (guarded_still n s none)
    by_choices (c ∷ choices) some = refl

pub stops_more : (a b n : ℕ) (s : Simulation) → n ≡ a + b → stops_found n s ≡ stops_found a s ++ stops_found b (guarded_runs a s)
unfolding stops_found guarded_runs
stops_more zero b n s e = let same : n ≡ b = omega arith in ap (λ (k : ℕ). stops_found k s) same
stops_more (suc a) b zero s e = absurd (omega arith)
stops_more (suc a) b (suc n) s e =
    let next : Simulation = guarded_moved s (choices_of s) in
    ap (λ (stops : List Stop). stop_made s (choices_of s) ++ stops) (stops_more a b n next (omega arith))
    ∙ sym (append_assoc (stop_made s (choices_of s)) (stops_found a next) (stops_found b (guarded_runs a next)))
    ∙ ap (λ (x : Simulation). (stop_made s (choices_of s) ++ stops_found a next) ++ stops_found b x) (sym (guarded_front a s))

pub stops_still : (n : ℕ) (s : Simulation) → choices_of s ≡ [] → stops_found n s ≡ []
unfolding stops_found stop_made
stops_still zero s h = refl
stops_still (suc n) s h =
    ap (λ (choices : List Choice). stop_made s choices ++ stops_found n (guarded_moved s choices)) h ∙ stops_still n s h

-- ---- if nothing is broken, no trap is found

none_at : (c : Choice) (o : Option RunningPart)
    → ((seat : RunningPart) → o ≡ Some seat → guard seat.run.state (known_of seat) c.step ≡ None) → stop_at c o ≡ []
none_at c None h = refl
none_at c (Some seat) h = ap (λ (o : Option Fault). stop_of c.part o (reported_clause seat.run.state (known_of seat) c.step)) (h seat refl)

none_by : (more : ℕ) (s : Simulation) (choices : List Choice) (o : Option Choice) → pick_of s choices ≡ o
    → NoneBreaks (runs more (taken s choices)) → stop_by s.parts o ≡ []
none_by more s choices None picked kept = refl
none_by more s choices (Some c) picked kept = none_at c (slice_get s.parts c.part) unbroken
  where
    unbroken : (seat : RunningPart) → slice_get s.parts c.part ≡ Some seat → guard seat.run.state (known_of seat) c.step ≡ None
    unbroken seat e =
        let next = next_seat s c.part seat choices e in
        let later = grown more (taken s choices) c.part next.0 next.1 in
        (free_step c seat later.0 (own_step c seat next.0 later.0 (pick_of s choices) picked next.2 later.2) (kept c.part later.0 later.1)).0

pub none_found : (n : ℕ) (s : Simulation) → NoneBreaks (runs n s) → stops_found n s ≡ []
unfolding stops_found stop_made runs guarded_taken taken
none_found zero s kept = refl
none_found (suc more) s kept = by_choices (choices_of s) refl kept (none_found more)
  where
    by_choices : (choices : List Choice) → choices_of s ≡ choices → NoneBreaks (go_on more s choices)
        → ((x : Simulation) → NoneBreaks (runs more x) → stops_found more x ≡ [])
        → stop_made s choices ++ stops_found more (guarded_moved s choices) ≡ []
    by_choices [] none kept' again = stops_still more s none
    by_choices (c ∷ choices) some kept' again =
        ap (λ (stops : List Stop). stops ++ stops_found more (guarded_taken s (c ∷ choices)))
        (none_by more s (c ∷ choices) (pick_of s (c ∷ choices)) refl kept')
        ∙ ap (stops_found more) (free_by more s (c ∷ choices) (pick_of s (c ∷ choices)) refl kept')
        ∙ again (taken s (c ∷ choices)) kept'

pub never_found : (scenario : Scenario) (s : Simulation) (n : ℕ) → IsScheduledRun scenario s → NoneBreaks s
    → stops_found n (begins scenario) ≡ []
never_found scenario s n run kept =
    none_found n (begins scenario)
    (kept_before n run.steps (n + run.steps) (begins scenario) refl
    (subst NoneBreaks (sym (later (n + run.steps) (omega arith))) kept))
  where
    later : (m : ℕ) → m ≡ run.steps + n → runs m (begins scenario) ≡ s
    later m e =
        runs_more run.steps n m (begins scenario) e ∙ ap (runs n) run.reached ∙ runs_still n s run.ended

-- ---- the first trap that is found

abbrev one_stop : ℕ → Fault → Clause → List Stop
one_stop part f clause = record { part = part; trap = f; clause = clause } ∷ []

made_at : (t : Simulation) (c : Choice) (seat : RunningPart) → picked_choice t ≡ Some c → At t c.part seat
    → stop_made t (choices_of t)
    ≡ stop_of c.part (guard seat.run.state (known_of seat) c.step) (reported_clause seat.run.state (known_of seat) c.step)
unfolding stop_made
made_at t c seat picks at = ap (stop_by t.parts) picks ∙ ap (stop_at c) at

stop_is_made : (scenario : Scenario) (stop : Stop) (h : IsFirstStop scenario stop)
    → stop_made (runs h.steps (begins scenario)) (choices_of (runs h.steps (begins scenario))) ≡ stop ∷ []
stop_is_made scenario stop h =
    let p : PartState = h.seat.run.state in
    let k : Known = known_of h.seat in
    let reported : reported_clause p k h.choice.step ≡ Some stop.clause = ap (reported_clause p k) h.first.burst ∙ h.clause in
    made_at (runs h.steps (begins scenario)) h.choice h.seat h.first.picks h.first.at
    ∙ ap (λ (o : Option Fault). stop_of h.choice.part o (reported_clause p k h.choice.step)) (stop_guard scenario stop h)
    ∙ ap (λ (o : Option Clause). stop_of h.choice.part (Some stop.trap) o) reported
    ∙ ap (λ (part : ℕ). one_stop part stop.trap stop.clause) (sym h.part)

pub stop_found : (scenario : Scenario) (stop : Stop) (h : IsFirstStop scenario stop) → stops_found (suc h.steps) (begins scenario) ≡ stop ∷ []
unfolding stops_found
stop_found scenario stop h =
    let s : Simulation = begins scenario in
    let t : Simulation = runs h.steps s in
    stops_more h.steps (suc zero) (suc h.steps) s (omega arith)
    ∙ ap (λ (stops : List Stop). stops ++ stops_found (suc zero) (guarded_runs h.steps s)) (none_found h.steps s h.first.kept)
    ∙ ap (stops_found (suc zero)) (free_runs h.steps s h.first.kept)
    ∙ ap (λ (stops : List Stop). stops ++ stops_found zero (guarded_moved t (choices_of t))) (stop_is_made scenario stop h)

pub found_first : (scenario : Scenario) (stop : Stop) (h : IsFirstStop scenario stop) (n : ℕ) → h.steps < n
    → stops_found n (begins scenario) ≡ stop ∷ stops_found n (begins (struck scenario stop.part stop.trap))
found_first scenario stop h n l =
    let first : ℕ = suc h.steps in
    let rest : ℕ = n - suc h.steps in
    let s : Simulation = begins scenario in
    let with : Simulation = begins (struck scenario stop.part stop.trap) in
    let trap : IsFirstTrap scenario stop.part stop.trap h.steps = first_trap scenario stop h in
    stops_more first rest n s (omega arith)
    ∙ ap (λ (stops : List Stop). stops ++ stops_found rest (guarded_runs first s)) (stop_found scenario stop h)
    ∙ ap (λ (x : Simulation). stop ∷ stops_found rest x)
    (sym ((put_first scenario stop.part stop.trap h.steps trap).after first (omega arith)))
    ∙ ap (λ (stops : List Stop). stop ∷ (stops ++ stops_found rest (guarded_runs first with)))
    (sym (none_found first with (struck_keeps scenario stop.part stop.trap h.steps trap)))
    ∙ ap (λ (stops : List Stop). stop ∷ stops) (sym (stops_more first rest n with (omega arith)))
