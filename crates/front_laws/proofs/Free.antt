-- If no part breaks a clause, the guarded run is the scheduled run.
use Rattle.std.proofs.Common.{◌≡◌, inl, inr, ℕ, zero, suc, Option, Some, None, List, [], ◌∷◌, ◌++◌, fold, option_map, slice_get, refl, sym, ap, subst, ◌∙◌, append_assoc, append-nil}
use Rattle.nook_data.specs.declared.scenario.PartSpec.{PartSpec}
use Rattle.nook_data.specs.declared.scenario.Scenario.{Scenario}
use Rattle.nook_data.specs.declared.steps.Event.{Event}
use Rattle.guard_defs.specs.Guard.{guard, guarded, known_at_first}
use Rattle.guard_defs.specs.GuardedRuns.{IsGuardedSchedule, guarded_runs, guarded_seat, guarded_taken, known_of}
use Rattle.part_defs.specs.Runs.{event_of}
use Rattle.part_defs.specs.State.{PartState}
use Rattle.part_laws.proofs.DeviceStays.{spec_after}
use Rattle.promise_defs.specs.Contract.{Known, break_from, broken, first_break, known_after}
use Rattle.run_defs.proofs.RunChanges.{taken_by}
use Rattle.run_defs.specs.Simulation.{Choice, IsScheduledRun, RunningPart, Simulation, begins, choices_of, part_after, runs, stepped_by, taken}
use Rattle.guard_defs.specs.FirstBreaks.{NoneBreaks}
use Rattle.front_laws.proofs.GuardRun.{first_kept, step_free}
use Rattle.front_laws.proofs.GuardedRuns.{guarded_by, guarded_on}
use Rattle.front_laws.proofs.Owned.{go_on, order_of, pick_of}
use Rattle.front_laws.proofs.WholeRuns.{At, IsNextSeat, next_seat}

-- an event within a journal that breaks nothing breaks nothing
kept_at : (number : ℕ) (k : Known) (front : List Event) (e : Event) (more : List Event) → break_from number k (front ++ (e ∷ more)) ≡ None
    → broken (fold known_after k front) e ≡ []
kept_at number k [] e more h = (first_kept number k e more h).0
kept_at number k (x ∷ front) e more h =
    kept_at (suc number) (known_after k x) front e more (first_kept number k x (front ++ (e ∷ more)) h).1

-- a part keeps its spec, and its journal grows at its end
pub record Grows (seat later : RunningPart) : Type 0 where
  pub spec : later.run.state.spec ≡ seat.run.state.spec
  pub more : List Event
  pub journal : later.run.journal ≡ seat.run.journal ++ more

same_grows : (seat : RunningPart) → Grows seat seat
same_grows seat = record { spec = refl; more = []; journal = sym (append-nil seat.run.journal) }

grows_on : (a b c : RunningPart) → Grows a b → Grows b c → Grows a c
grows_on a b c x y = record {
  spec = y.spec ∙ x.spec;
  more = x.more ++ y.more;
  journal = y.journal ∙ ap (λ (l : List Event). l ++ y.more) x.journal ∙ append_assoc a.run.journal x.more y.more;
}

grows_by : (seat next : RunningPart) (o : Option Choice) (number : ℕ) → IsNextSeat seat o number next → Grows seat next
grows_by seat next None number e = subst (Grows seat) (sym e) (same_grows seat)
grows_by seat next (Some c) number (inl e) = subst (Grows seat) (sym e.1) (same_grows seat)
grows_by seat next (Some c) number (inr e) = subst (Grows seat) (sym e.1)
    (record { spec = spec_after seat.run.state c.step; more = event_of seat.run.state c.step ∷ []; journal = refl })

abbrev pub HasLater : Simulation → ℕ → RunningPart → Type 0
HasLater t number seat = (later : RunningPart) × At t number later × Grows seat later

pub grown : (n : ℕ) (s : Simulation) (number : ℕ) (seat : RunningPart) → At s number seat → HasLater (runs n s) number seat
unfolding runs
grown zero s number seat at = (seat, at, same_grows seat)
grown (suc more) s number seat at = by_choices (choices_of s) (λ x next there. grown more x number next there)
  where
    by_choices : (choices : List Choice)
        → ((x : Simulation) (next : RunningPart) → At x number next → HasLater (runs more x) number next) → HasLater (go_on more s choices) number seat
    by_choices [] again = (seat, at, same_grows seat)
    by_choices (c ∷ choices) again =
        let next = next_seat s number seat (c ∷ choices) at in
        let later = again (taken s (c ∷ choices)) next.0 next.1 in
        (later.0, later.1, grows_on seat next.0 later.0 (grows_by seat next.0 (pick_of s (c ∷ choices)) number next.2) later.2)

-- a part whose event breaks nothing is not stopped
pub free_step : (c : Choice) (seat later : RunningPart) → Grows (part_after c.step seat) later
    → first_break later.run.state.spec.class later.run.state.spec.blocks later.run.journal ≡ None
    → (guard seat.run.state (known_of seat) c.step ≡ None) × (guarded seat.run.state (known_of seat) c.step ≡ seat.run.state)
unfolding first_break
free_step c seat later g kept =
    let e : Event = event_of seat.run.state c.step in
    let spec : later.run.state.spec ≡ seat.run.state.spec = g.spec ∙ spec_after seat.run.state c.step in
    let journal : later.run.journal ≡ seat.run.journal ++ (e ∷ g.more) = g.journal ∙ append_assoc seat.run.journal (e ∷ []) g.more in
    let none : break_from 1 (known_at_first seat.run.state.spec) (seat.run.journal ++ (e ∷ g.more)) ≡ None =
    ap (λ (x : PartSpec). break_from 1 (known_at_first x) (seat.run.journal ++ (e ∷ g.more))) (sym spec)
    ∙ ap (break_from 1 (known_at_first later.run.state.spec)) (sym journal) ∙ kept in
    step_free seat.run.state (known_of seat) c.step (kept_at 1 (known_at_first seat.run.state.spec) seat.run.journal e g.more none)

free_seat : (c : Choice) (seat later : RunningPart) → Grows (part_after c.step seat) later
    → first_break later.run.state.spec.class later.run.state.spec.blocks later.run.journal ≡ None → guarded_seat c.step seat ≡ seat
free_seat c seat later g kept =
    ap (λ (p : PartState). record seat { run = record seat.run { state = p } }) (free_step c seat later g kept).1

own_grows : (c : Choice) (seat next later : RunningPart) → IsNextSeat seat (Some c) c.part next → Grows next later → Grows (part_after c.step seat) later
own_grows c seat next later (inl apart) g = absurd (apart.0 refl)
own_grows c seat next later (inr e) g = subst (λ (x : RunningPart). Grows x later) e.1 g

pub own_step : (c : Choice) (seat next later : RunningPart) (o : Option Choice) → o ≡ Some c → IsNextSeat seat o c.part next → Grows next later
    → Grows (part_after c.step seat) later
own_step c seat next later o same is g =
    own_grows c seat next later (subst (λ (x : Option Choice). IsNextSeat seat x c.part next) same is) g

pub free_by : (more : ℕ) (s : Simulation) (choices : List Choice) (o : Option Choice) → pick_of s choices ≡ o
    → NoneBreaks (runs more (taken s choices)) → guarded_by s (order_of s choices) o ≡ taken_by s (order_of s choices) o
free_by more s choices None picked kept = refl
free_by more s choices (Some c) picked kept = by_part (slice_get s.parts c.part) refl
  where
    by_part : (x : Option RunningPart) → slice_get s.parts c.part ≡ x
        → stepped_by s (order_of s choices) c (option_map (guarded_seat c.step) x) ≡ stepped_by s (order_of s choices) c x
    by_part None e = refl
    by_part (Some seat) e =
        let next = next_seat s c.part seat choices e in
        let later = grown more (taken s choices) c.part next.0 next.1 in
        ap (λ (x : RunningPart). stepped_by s (order_of s choices) c (Some x))
        (free_seat c seat later.0 (own_step c seat next.0 later.0 (pick_of s choices) picked next.2 later.2) (kept c.part later.0 later.1))

pub free_runs : (n : ℕ) (s : Simulation) → NoneBreaks (runs n s) → guarded_runs n s ≡ runs n s
unfolding guarded_runs runs guarded_taken taken
free_runs zero s kept = refl
free_runs (suc more) s kept = by_choices (choices_of s) kept (free_runs more)
  where
    by_choices : (choices : List Choice) → NoneBreaks (go_on more s choices)
        → ((x : Simulation) → NoneBreaks (runs more x) → guarded_runs more x ≡ runs more x) → guarded_on more s choices ≡ go_on more s choices
    by_choices [] kept' again = refl
    by_choices (c ∷ choices) kept' again =
        ap (guarded_runs more) (free_by more s (c ∷ choices) (pick_of s (c ∷ choices)) refl kept') ∙ again (taken s (c ∷ choices)) kept'

pub free_scheduled : (scenario : Scenario) (s : Simulation) → IsScheduledRun scenario s → NoneBreaks s → IsGuardedSchedule scenario s
free_scheduled scenario s run kept = record {
  steps = run.steps;
  reached = free_runs run.steps (begins scenario) (subst NoneBreaks (sym run.reached) kept) ∙ run.reached;
  ended = run.ended;
}
