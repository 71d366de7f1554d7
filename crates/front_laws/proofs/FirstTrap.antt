-- The first trap of a guarded run may be put into the scenario.
use Rattle.std.proofs.Common.{◌≡◌, ◌≤◌, ◌<◌, ℕ, zero, suc, ◌+◌, ◌-◌, cond, Option, Some, None, List, [], ◌∷◌, ◌++◌, option_map, slice_get, slice_set, refl, sym, ap, subst, ◌∙◌, arith}
use Rattle.nook_data.proofs.Options.{none_is_some, same_inside}
use Rattle.nook_data.specs.Members.{struck}
use Rattle.nook_data.specs.declared.scenario.Fault.{Fault}
use Rattle.nook_data.specs.declared.scenario.PartSpec.{PartSpec}
use Rattle.nook_data.specs.declared.scenario.Scenario.{Scenario}
use Rattle.nook_data.specs.declared.steps.Event.{Event}
use Rattle.nook_data.specs.declared.steps.Step.{Step}
use Rattle.guard_defs.specs.Guard.{guard, guarded, known_at_first, with_own, with_trap}
use Rattle.guard_defs.specs.GuardedRuns.{IsGuardedSchedule, guarded_runs, guarded_seat, guarded_taken, known_of}
use Rattle.part_defs.specs.Runs.{event_of, state_after, state_from, step_of}
use Rattle.part_defs.specs.State.{PartState}
use Rattle.part_defs.specs.Steps.{opening}
use Rattle.part_laws.proofs.RunsDetermined.{step_named}
use Rattle.promise_defs.specs.Contract.{Known, break_from, first_break, known_after}
use Rattle.run_defs.specs.Schedules.{Order}
use Rattle.run_defs.specs.Simulation.{Choice, RunningPart, Simulation, begins, choices_of, opening_part, part_after, runs, stepped_by, taken}
use Rattle.front_laws.specs.FirstTrap.{IsFirstTrap, IsPutFirst}
use Rattle.front_laws.specs.Fronts.{IsPastFrom, IsUnreached}
use Rattle.guard_defs.specs.FirstBreaks.{NoneBreaks}
use Rattle.front_laws.specs.Owned.{owned, owning, seat_with, struck_at}
use Rattle.front_laws.proofs.Free.{free_runs}
use Rattle.front_laws.proofs.Free as free
use Rattle.front_laws.proofs.GuardRun.{IsTrapOf, first_kept, step_free, step_kept, trap_is}
use Rattle.front_laws.proofs.GuardedRuns.{guarded_by, guarded_on, guarded_runs_is, guarded_taken_is}
use Rattle.front_laws.proofs.Owned.{choices_same, get_owning, go_on, order_of, pick_of, seat_at, seat_same}
use Rattle.front_laws.proofs.Unique.{guarded_still}
use Rattle.front_laws.proofs.Unreached.{bursts_after, is_burst_step, later_step}
use Rattle.front_laws.proofs.WholeRuns.{At, Follows, begins_at, follows_next, grown, next_seat, opening_follows, owning_none}
use Rattle.front_laws.proofs.WholeRuns.{struck_here, struck_other, whole_same}

-- ---- a number of steps, and some more

pub guarded_more : (a b n : ℕ) (s : Simulation) → n ≡ a + b → guarded_runs n s ≡ guarded_runs b (guarded_runs a s)
unfolding guarded_runs
guarded_more zero b n s e = let same : n ≡ b = omega arith in ap (λ (k : ℕ). guarded_runs k s) same
guarded_more (suc a) b zero s e = absurd (omega arith)
guarded_more (suc a) b (suc n) s e = by_choices (choices_of s) refl (λ x. guarded_more a b n x (omega arith))
  where
    by_choices : (choices : List Choice) → choices_of s ≡ choices → ((x : Simulation) → guarded_runs n x ≡ guarded_runs b (guarded_runs a x))
        → guarded_on n s choices ≡ guarded_runs b (guarded_on a s choices)
    by_choices [] none again = sym (guarded_still b s none)
    by_choices (c ∷ choices) some again = again (guarded_taken s (c ∷ choices))

pub runs_still : (n : ℕ) (s : Simulation) → choices_of s ≡ [] → runs n s ≡ s
unfolding runs
runs_still zero s h = refl
runs_still (suc n) s h = ap (go_on n s) h

pub runs_more : (a b n : ℕ) (s : Simulation) → n ≡ a + b → runs n s ≡ runs b (runs a s)
unfolding runs
runs_more zero b n s e = let same : n ≡ b = omega arith in ap (λ (k : ℕ). runs k s) same
runs_more (suc a) b zero s e = absurd (omega arith)
runs_more (suc a) b (suc n) s e = by_choices (choices_of s) refl (λ x. runs_more a b n x (omega arith))
  where
    by_choices : (choices : List Choice) → choices_of s ≡ choices → ((x : Simulation) → runs n x ≡ runs b (runs a x))
        → go_on n s choices ≡ runs b (go_on a s choices)
    by_choices [] none again = sym (runs_still b s none)
    by_choices (c ∷ choices) some again = again (taken s (c ∷ choices))

-- ---- what holds of a run holds of each prefix of it

front_kept : (number : ℕ) (k : Known) (front more : List Event) → break_from number k (front ++ more) ≡ None → break_from number k front ≡ None
unfolding break_from
front_kept number k [] more h = refl
front_kept number k (e ∷ front) more h =
    let first = first_kept number k e (front ++ more) h in
    rw (first.0, break_from) (front_kept (suc number) (known_after k e) front more first.1)

seat_kept : (seat later : RunningPart) → free.Grows seat later
    → first_break later.run.state.spec.class later.run.state.spec.blocks later.run.journal ≡ None
    → first_break seat.run.state.spec.class seat.run.state.spec.blocks seat.run.journal ≡ None
unfolding first_break
seat_kept seat later g kept =
    front_kept 1 (known_at_first seat.run.state.spec) seat.run.journal g.more
    (ap (λ (x : PartSpec). break_from 1 (known_at_first x) (seat.run.journal ++ g.more)) (sym g.spec)
    ∙ ap (break_from 1 (known_at_first later.run.state.spec)) (sym g.journal) ∙ kept)

pub kept_before : (n d steps : ℕ) (s : Simulation) → steps ≡ n + d → NoneBreaks (runs steps s) → NoneBreaks (runs n s)
kept_before n d steps s e kept = λ number seat at.
    let later = free.grown d (runs n s) number seat at in
    let there : At (runs steps s) number later.0 = ap (λ (x : Simulation). slice_get x.parts number) (runs_more n d steps s e) ∙ later.1 in
    seat_kept seat later.0 later.2 (kept number later.0 there)

past_front : (f : Fault) (p : PartState) (front more : List Event) → IsPastFrom f p (front ++ more) → IsPastFrom f p front
unfolding IsPastFrom
past_front f p [] more h = tt
past_front f p (e ∷ front) more h = (h.0, past_front f (state_after p (step_of e)) front more h.1)

-- ---- a journal before the burst of a fault does not reach it

bursts_rise : (p : PartState) (events : List Event) → p.bursts ≤ (state_from p events).bursts
unfolding state_from
bursts_rise p [] = omega arith
bursts_rise p (e ∷ events) =
    let one : (state_after p (step_of e)).bursts ≡ p.bursts + cond (is_burst_step (step_of e)) 1 0 = bursts_after p (step_of e) in
    let more : (state_after p (step_of e)).bursts ≤ (state_from (state_after p (step_of e)) events).bursts =
    bursts_rise (state_after p (step_of e)) events in
    omega arith

past_before : (f : Fault) (p : PartState) (events : List Event) → (state_from p events).bursts < f.burst → IsPastFrom f p events
unfolding IsPastFrom state_from
past_before f p [] h = tt
past_before f p (e ∷ events) h =
    let one : (state_after p (step_of e)).bursts ≡ p.bursts + cond (is_burst_step (step_of e)) 1 0 = bursts_after p (step_of e) in
    let more : (state_after p (step_of e)).bursts ≤ (state_from (state_after p (step_of e)) events).bursts =
    bursts_rise (state_after p (step_of e)) events in
    (later_step f p (step_of e) (omega arith), past_before f (state_after p (step_of e)) events h)

abbrev HasFollowed : PartState → Simulation → ℕ → Type 0
HasFollowed p t number = (later : RunningPart) × At t number later × Follows p later

followed : (p : PartState) (n : ℕ) (s : Simulation) (number : ℕ) (seat : RunningPart) → At s number seat → Follows p seat → HasFollowed p (runs n s) number
unfolding runs
followed p zero s number seat at h = (seat, at, h)
followed p (suc more) s number seat at h = by_choices (choices_of s) (λ x next there follows. followed p more x number next there follows)
  where
    by_choices : (choices : List Choice)
        → ((x : Simulation) (next : RunningPart) → At x number next → Follows p next → HasFollowed p (runs more x) number)
        → HasFollowed p (go_on more s choices) number
    by_choices [] again = (seat, at, h)
    by_choices (c ∷ choices) again =
        let next = next_seat s number seat (c ∷ choices) at in
        again (taken s (c ∷ choices)) next.0 next.1 (follows_next p seat next.0 (pick_of s (c ∷ choices)) number h next.2)

-- ---- the step that is stopped

guarded_again : (p : PartState) (k : Known) (s : Step) → guarded (guarded p k s) k s ≡ guarded p k s
guarded_again p k s =
    (step_free (guarded p k s) k s (step_kept p k s (event_of (guarded p k s) s) (sym (step_named (guarded p k s) s)) refl)).1

pub guarded_with : (p : PartState) (k : Known) (s : Step) (f : Fault) → guard p k s ≡ Some f → guarded p k s ≡ with_own (p.spec.faults ++ f ∷ []) p
unfolding guarded
guarded_with p k s f e = ap (λ (o : Option Fault). with_trap o p) e

seat_stopped : (s : Step) (seat : RunningPart) (f : Fault) → guard seat.run.state (known_of seat) s ≡ Some f
    → guarded_seat s (seat_with (seat.run.state.spec.faults ++ f ∷ []) seat) ≡ guarded_seat s seat
seat_stopped s seat f e =
    ap (λ (q : PartState). record seat { run = record seat.run { state = q } })
    (ap (λ (q : PartState). guarded q (known_of seat) s) (sym (guarded_with seat.run.state (known_of seat) s f e))
    ∙ guarded_again seat.run.state (known_of seat) s)

-- another part at the index hides what the part there had
set_hides : (c : ℕ → List Fault → List Fault) (n i j : ℕ) (parts : List RunningPart) (x : RunningPart) → j ≡ n + i
    → ((k : ℕ) (own : List Fault) → (k ≡ j → ⊥) → c k own ≡ own) → slice_set (owning c n parts) i x ≡ slice_set parts i x
set_hides c n i j [] x h other = refl
set_hides c n zero j (seat ∷ parts) x h other =
    ap (λ (xs : List RunningPart). x ∷ xs) (owning_none c (n + 1) parts (λ k own l. other k own (far k l)))
  where
    far : (k : ℕ) → n + 1 ≤ k → k ≡ j → ⊥
    far k l e = omega arith
set_hides c n (suc i) j (seat ∷ parts) x h other =
    ap (λ (xs : List RunningPart). seat_with (c n seat.run.state.spec.faults) seat ∷ xs) (set_hides c (n + 1) i j parts x (omega arith) other)
    ∙ ap (λ (y : RunningPart). y ∷ slice_set parts i x)
    (seat_same seat (c n seat.run.state.spec.faults) (other n seat.run.state.spec.faults (near j h)))
  where
    near : (j : ℕ) → j ≡ n + suc i → n ≡ j → ⊥
    near j e same = omega arith

stopped_same : (f : Fault) (t : Simulation) (order : Order) (c : Choice) (seat : RunningPart) → At t c.part seat
    → guard seat.run.state (known_of seat) c.step ≡ Some f
    → guarded_by (owned (struck_at c.part f) t) order (Some c) ≡ guarded_by t order (Some c)
stopped_same f t order c seat at e =
    let change : ℕ → List Fault → List Fault = struck_at c.part f in
    ap (λ (o : Option RunningPart). stepped_by (owned change t) order c (option_map (guarded_seat c.step) o))
    (get_owning change 0 c.part c.part t.parts (omega arith) ∙ ap (option_map (seat_at change c.part)) at
    ∙ ap (λ (own : List Fault). Some (seat_with own seat)) (struck_here c.part f seat.run.state.spec.faults))
    ∙ ap (λ (x : RunningPart). stepped_by (owned change t) order c (Some x)) (seat_stopped c.step seat f e)
    ∙ ap (λ (parts : List RunningPart). record (stepped_by t order c (Some (guarded_seat c.step seat))) { parts = parts })
    (set_hides change 0 c.part c.part t.parts (part_after c.step (guarded_seat c.step seat)) (omega arith) (struck_other c.part f))
    ∙ ap (λ (o : Option RunningPart). stepped_by t order c (option_map (guarded_seat c.step) o)) (sym at)

rest_same : (more : ℕ) (f : Fault) (t : Simulation) (c : Choice) (seat : RunningPart) → pick_of t (choices_of t) ≡ Some c → At t c.part seat
    → guard seat.run.state (known_of seat) c.step ≡ Some f
    → guarded_runs (suc more) (owned (struck_at c.part f) t) ≡ guarded_runs (suc more) t
rest_same more f t c seat picks at e =
    let change : ℕ → List Fault → List Fault = struck_at c.part f in
    guarded_runs_is more (owned change t) ∙ ap (guarded_on more (owned change t)) (choices_same change t)
    ∙ by_choices (choices_of t) picks ∙ sym (guarded_runs_is more t)
  where
    by_choices : (choices : List Choice) → pick_of t choices ≡ Some c
        → guarded_on more (owned (struck_at c.part f) t) choices ≡ guarded_on more t choices
    by_choices [] h = none_is_some h
    by_choices (x ∷ choices) h =
        ap (guarded_runs more)
        (guarded_taken_is (owned (struck_at c.part f) t) (x ∷ choices)
        ∙ ap (guarded_by (owned (struck_at c.part f) t) (order_of t (x ∷ choices))) h
        ∙ stopped_same f t (order_of t (x ∷ choices)) c seat at e
        ∙ ap (guarded_by t (order_of t (x ∷ choices))) (sym h)
        ∙ sym (guarded_taken_is t (x ∷ choices)))

-- ---- a part with other faults breaks no clause that it does not break without them

owned_kept : (change : ℕ → List Fault → List Fault) (t : Simulation) → NoneBreaks t → NoneBreaks (owned change t)
owned_kept change t kept = λ number seat at.
    by_part number seat (slice_get t.parts number) refl (sym (get_owning change 0 number number t.parts (omega arith)) ∙ at)
  where
    by_part : (number : ℕ) (seat : RunningPart) (o : Option RunningPart) → slice_get t.parts number ≡ o → option_map (seat_at change number) o ≡ Some seat
        → first_break seat.run.state.spec.class seat.run.state.spec.blocks seat.run.journal ≡ None
    by_part number seat None e h = none_is_some h
    by_part number seat (Some x) e h =
        subst (λ (y : RunningPart). first_break y.run.state.spec.class y.run.state.spec.blocks y.run.journal ≡ None) (same_inside h) (kept number x e)

-- ---- the whole scenario

trap_burst : (p : PartState) (s : Step) (f : Fault) (q : PartState) (o : Option Fault) → o ≡ Some f → IsTrapOf p s o q → f.burst ≡ p.bursts + 1
trap_burst p s f q None e h = none_is_some e
trap_burst p s f q (Some g) e h = ap (λ (x : Fault). x.burst) (sym (same_inside e)) ∙ h.0

module _ (scenario : Scenario) (f : Fault) (steps : ℕ) (spec : PartSpec) (c : Choice) (there : slice_get scenario.parts c.part ≡ Some spec)
    (kept : NoneBreaks (runs steps (begins scenario)))
    (picks : pick_of (runs steps (begins scenario)) (choices_of (runs steps (begins scenario))) ≡ Some c)
    (seat : RunningPart) (at : At (runs steps (begins scenario)) c.part seat)
    (trap : guard seat.run.state (known_of seat) c.step ≡ Some f) where
  abbrev with_it : Scenario
  with_it = struck scenario c.part f

  abbrev change : ℕ → List Fault → List Fault
  change = struck_at c.part f

  unreached : IsUnreached f spec seat.run.journal
  unreached =
      let last = followed (opening spec) steps (begins scenario) c.part (opening_part spec) (begins_at scenario c.part spec there) (opening_follows spec) in
      let one : last.0 ≡ seat = same_inside (sym last.1 ∙ at) in
      let follows : Follows (opening spec) seat = subst (Follows (opening spec)) one last.2 in
      let burst : f.burst ≡ seat.run.state.bursts + 1 =
      trap_burst seat.run.state c.step f (guarded seat.run.state (known_of seat) c.step) (guard seat.run.state (known_of seat) c.step) trap
      (trap_is seat.run.state (known_of seat) c.step) in
      let bursts : seat.run.state.bursts ≡ (state_from (opening spec) seat.run.journal).bursts = ap (λ (p : PartState). p.bursts) follows in
      past_before f (opening spec) seat.run.journal (omega arith)

  module _ (n d : ℕ) (e : steps ≡ n + d) where
    kept_then : NoneBreaks (runs n (begins scenario))
    kept_then = kept_before n d steps (begins scenario) e kept

    pub alike_then : guarded_runs n (begins scenario) ≡ runs n (begins scenario)
    alike_then = free_runs n (begins scenario) kept_then

    pub struck_then : runs n (begins with_it) ≡ owned change (runs n (begins scenario))
    struck_then =
        let now = followed (opening spec) n (begins scenario) c.part (opening_part spec) (begins_at scenario c.part spec there) (opening_follows spec) in
        let later = grown d (runs n (begins scenario)) c.part now.0 now.1 in
        let last : At (runs steps (begins scenario)) c.part later.0 =
        ap (λ (x : Simulation). slice_get x.parts c.part) (runs_more n d steps (begins scenario) e) ∙ later.1 in
        let one : later.0 ≡ seat = same_inside (sym last ∙ at) in
        let journal : seat.run.journal ≡ now.0.run.journal ++ later.2.0 = ap (λ (x : RunningPart). x.run.journal) (sym one) ∙ later.2.1 in
        whole_same scenario c.part f n spec now.0 there now.1
        (past_front f (opening spec) now.0.run.journal later.2.0 (subst (IsPastFrom f (opening spec)) journal unreached))

    pub before_then : guarded_runs n (begins with_it) ≡ owned change (guarded_runs n (begins scenario))
    before_then =
        free_runs n (begins with_it) (subst NoneBreaks (sym struck_then) (owned_kept change (runs n (begins scenario)) kept_then))
        ∙ struck_then ∙ ap (owned change) (sym alike_then)

  pub after_then : (n more : ℕ) → n ≡ steps + suc more → guarded_runs n (begins with_it) ≡ guarded_runs n (begins scenario)
  after_then n more e =
      let t : Simulation = runs steps (begins scenario) in
      guarded_more steps (suc more) n (begins with_it) e
      ∙ ap (guarded_runs (suc more)) (before_then steps 0 (omega arith) ∙ ap (owned change) (alike_then steps 0 (omega arith)))
      ∙ rest_same more f t c seat picks at trap
      ∙ ap (guarded_runs (suc more)) (sym (alike_then steps 0 (omega arith)))
      ∙ sym (guarded_more steps (suc more) n (begins scenario) e)

pub put_first : (scenario : Scenario) (number : ℕ) (f : Fault) (steps : ℕ) → IsFirstTrap scenario number f steps → IsPutFirst scenario number f steps
put_first scenario number f steps h = subst (λ (i : ℕ). IsPutFirst scenario i f steps) h.part (record {
  alike = λ n l. alike_then scenario f steps h.spec h.choice there h.kept h.picks h.seat at h.trap n (steps - n) (omega arith);
  before = λ n l. before_then scenario f steps h.spec h.choice there h.kept h.picks h.seat at h.trap n (steps - n) (omega arith);
  after = λ n l. after_then scenario f steps h.spec h.choice there h.kept h.picks h.seat at h.trap n (n - suc steps) (omega arith);
})
  where
    there : slice_get scenario.parts h.choice.part ≡ Some h.spec
    there = ap (slice_get scenario.parts) h.part ∙ h.there

    at : At (runs steps (begins scenario)) h.choice.part h.seat
    at = ap (slice_get (runs steps (begins scenario)).parts) h.part ∙ h.at

-- a run that has ended does not change
ended_later : (n steps : ℕ) (s t : Simulation) → guarded_runs n s ≡ t → choices_of t ≡ [] → guarded_runs (n + suc steps) s ≡ t
ended_later n steps s t e ended =
    guarded_more n (suc steps) (n + suc steps) s refl ∙ ap (guarded_runs (suc steps)) e ∙ guarded_still (suc steps) t ended

pub first_there : (scenario : Scenario) (number : ℕ) (f : Fault) (steps : ℕ) (s : Simulation) → IsFirstTrap scenario number f steps
    → IsGuardedSchedule (struck scenario number f) s → IsGuardedSchedule scenario s
first_there scenario number f steps s h g = record {
  steps = g.steps + suc steps;
  reached = sym ((put_first scenario number f steps h).after (g.steps + suc steps) (omega arith))
      ∙ ended_later g.steps steps (begins (struck scenario number f)) s g.reached g.ended;
  ended = g.ended;
}

pub first_back : (scenario : Scenario) (number : ℕ) (f : Fault) (steps : ℕ) (s : Simulation) → IsFirstTrap scenario number f steps
    → IsGuardedSchedule scenario s → IsGuardedSchedule (struck scenario number f) s
first_back scenario number f steps s h g = record {
  steps = g.steps + suc steps;
  reached = (put_first scenario number f steps h).after (g.steps + suc steps) (omega arith)
      ∙ ended_later g.steps steps (begins scenario) s g.reached g.ended;
  ended = g.ended;
}
