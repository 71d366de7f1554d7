-- The guarded run of a scenario is the scheduled run of the guarded scenario.
use Rattle.std.proofs.Common.{◌≡◌, ◌⊎◌, ◌≤◌, inl, inr, ℕ, zero, suc, ◌+◌, Option, Some, None, List, [], ◌∷◌, ◌++◌, map, option_map, slice_get, slice_set, refl, sym, ap, subst, ◌∙◌, arith, append_assoc, append-nil}
use Rattle.std.proofs.lemmas.Bool.{cases_eq}
use Rattle.nook_data.proofs.Options.{none_is_some, same_inside}
use Rattle.nook_data.specs.declared.scenario.Fault.{Fault}
use Rattle.nook_data.specs.declared.scenario.PartSpec.{PartSpec}
use Rattle.nook_data.specs.declared.scenario.Scenario.{Scenario}
use Rattle.nook_data.specs.declared.steps.Step.{Step}
use Rattle.guard_defs.specs.Guard.{guard, guarded, with_own}
use Rattle.guard_defs.specs.GuardedRuns.{IsGuardedSchedule, guarded_runs, guarded_scenario, guarded_seat, guarded_taken, known_of, spec_of}
use Rattle.part_defs.specs.Runs.{state_after}
use Rattle.part_defs.specs.State.{PartState}
use Rattle.part_defs.specs.Steps.{opening}
use Rattle.part_laws.proofs.DeviceStays.{spec_after}
use Rattle.part_laws.proofs.Indices.{get_set_other, get_set_same}
use Rattle.run_defs.proofs.RunChanges.{taken_by}
use Rattle.run_defs.specs.Schedules.{Order}
use Rattle.run_defs.specs.Simulation.{Choice, IsScheduledRun, RunningPart, Simulation, begins, choices_of, opening_part}
use Rattle.run_defs.specs.Simulation.{part_after, runs, stepped_by, taken}
use Rattle.front_laws.specs.Owned.{owned, owning, seat_with}
use Rattle.front_laws.proofs.GuardRun.{AreLater, IsTrapOf, bursts_low, later_same, sooner, trap_is}
use Rattle.front_laws.proofs.Owned.{IsSameIn, choices_same, get_owning, go_on, opens_with, order_of, pick_of, seat_at, seat_same, stepped_seat}
use Rattle.front_laws.proofs.Same.{IsSameBurst}

-- a choice under the guard, by the one that is picked

abbrev pub guarded_by : Simulation → Order → Option Choice → Simulation
guarded_by s order None = record s { order = order }
guarded_by s order (Some c) = stepped_by s order c (option_map (guarded_seat c.step) (slice_get s.parts c.part))

pub guarded_taken_is : (s : Simulation) (choices : List Choice) → guarded_taken s choices ≡ guarded_by s (order_of s choices) (pick_of s choices)
unfolding guarded_taken
guarded_taken_is s choices = refl

abbrev pub guarded_on : ℕ → Simulation → List Choice → Simulation
guarded_on more s [] = s
guarded_on more s (c ∷ choices) = guarded_runs more (guarded_taken s (c ∷ choices))

pub guarded_runs_is : (more : ℕ) (s : Simulation) → guarded_runs (suc more) s ≡ guarded_on more s (choices_of s)
unfolding guarded_runs
guarded_runs_is more s = by_choices (choices_of s)
  where
    by_choices : (choices : List Choice) → guarded_on more s choices ≡ guarded_on more s choices
    by_choices choices = refl

-- ---- faults of later bursts are appended to those of a part

abbrev pub At : Simulation → ℕ → RunningPart → Type 0
At s index seat = slice_get s.parts index ≡ Some seat

-- the later part has the same spec with more faults appended, all of bursts after the earlier part's
pub record HasMore (p q : PartState) : Type 0 where
  pub later : List Fault
  pub spec : q.spec ≡ record p.spec { faults = p.spec.faults ++ later }
  pub after : AreLater p.bursts later
  pub bursts_rise : p.bursts ≤ q.bursts

more_same : (p : PartState) → HasMore p p
more_same p = record {
  later = [];
  spec = ap (λ (faults : List Fault). record p.spec { faults = faults }) (sym (append-nil p.spec.faults));
  after = tt;
  bursts_rise = omega arith;
}

later_both : (n : ℕ) (a b : List Fault) → AreLater n a → AreLater n b → AreLater n (a ++ b)
later_both n [] b ha hb = hb
later_both n (f ∷ a) b ha hb = (ha.0, later_both n a b ha.1 hb)

more_more : (p q r : PartState) → HasMore p q → HasMore q r → HasMore p r
more_more p q r a b = record {
  later = a.later ++ b.later;
  spec = b.spec
      ∙ ap (λ (spec : PartSpec). record spec { faults = spec.faults ++ b.later }) a.spec
      ∙ ap (λ (faults : List Fault). record p.spec { faults = faults }) (append_assoc p.spec.faults a.later b.later);
  after = later_both p.bursts a.later b.later a.after (sooner p.bursts q.bursts b.later a.bursts_rise b.after);
  bursts_rise = let x = a.bursts_rise in let y = b.bursts_rise in omega arith;
}

pub trap_more : (p q : PartState) (s : Step) (o : Option Fault) → IsTrapOf p s o q → HasMore p (state_after q s)
trap_more p q s None h = record {
  later = [];
  spec = spec_after q s ∙ ap (λ (r : PartState). r.spec) h
      ∙ ap (λ (faults : List Fault). record p.spec { faults = faults }) (sym (append-nil p.spec.faults));
  after = tt;
  bursts_rise = bursts_low p q s None h;
}
trap_more p q s (Some f) h = record {
  later = f ∷ [];
  spec = spec_after q s ∙ ap (λ (r : PartState). r.spec) h.2;
  after = (let e : f.burst ≡ p.bursts + 1 = h.0 in omega arith, tt);
  bursts_rise = bursts_low p q s (Some f) h;
}

-- the part after a choice under the guard

abbrev pub IsNextSeat : RunningPart → Option Choice → ℕ → RunningPart → Type 0
IsNextSeat seat None index next = next ≡ seat
IsNextSeat seat (Some c) index next =
    ((c.part ≡ index → ⊥) × (next ≡ seat)) ⊎ ((c.part ≡ index) × (next ≡ part_after c.step (guarded_seat c.step seat)))

abbrev HasNext : Simulation → RunningPart → Option Choice → ℕ → Type 0
HasNext t seat o index = (next : RunningPart) × At t index next × IsNextSeat seat o index next

pub next_by : (s : Simulation) (index : ℕ) (seat : RunningPart) (order : Order) (o : Option Choice) → At s index seat
    → HasNext (guarded_by s order o) seat o index
next_by s index seat order None at = (seat, at, refl)
next_by s index seat order (Some c) at = by_part (slice_get s.parts c.part) refl
  where
    by_part : (x : Option RunningPart) → slice_get s.parts c.part ≡ x
        → HasNext (stepped_by s order c (option_map (guarded_seat c.step) x)) seat (Some c) index
    by_part None e = (seat, at, inl (λ same. none_is_some (sym e ∙ ap (slice_get s.parts) same ∙ at), refl))
    by_part (Some other) e =
        elim (cases_eq c.part index) as (λ w. HasNext (stepped_by s order c (Some (guarded_seat c.step other))) seat (Some c) index) [
          | inl same ↦
              let one : other ≡ seat = same_inside (sym e ∙ ap (slice_get s.parts) same ∙ at) in
              let new : RunningPart = part_after c.step (guarded_seat c.step other) in
              let here : slice_get (slice_set s.parts c.part new) c.part ≡ Some new = get_set_same s.parts c.part other new e in (
                new,
                ap (slice_get (slice_set s.parts c.part new)) (sym same) ∙ here,
                inr (same, ap (λ (x : RunningPart). part_after c.step (guarded_seat c.step x)) one),
              )
          | inr apart ↦ (
            seat,
            get_set_other s.parts index c.part (part_after c.step (guarded_seat c.step other)) (λ h. apart (sym h)) ∙ at,
            inl (apart, refl),
          )
        ]

more_next : (seat next : RunningPart) (o : Option Choice) (index : ℕ) → IsNextSeat seat o index next → HasMore seat.run.state next.run.state
more_next seat next None index e = subst (λ (x : RunningPart). HasMore seat.run.state x.run.state) (sym e) (more_same seat.run.state)
more_next seat next (Some c) index (inl e) = subst (λ (x : RunningPart). HasMore seat.run.state x.run.state) (sym e.1) (more_same seat.run.state)
more_next seat next (Some c) index (inr e) =
    subst (λ (x : RunningPart). HasMore seat.run.state x.run.state) (sym e.1)
    (trap_more seat.run.state (guarded seat.run.state (known_of seat) c.step) c.step (guard seat.run.state (known_of seat) c.step)
    (trap_is seat.run.state (known_of seat) c.step))

abbrev HasLater : Simulation → ℕ → RunningPart → Type 0
HasLater t index seat = (later : RunningPart) × At t index later × HasMore seat.run.state later.run.state

pub grown : (n : ℕ) (s : Simulation) (index : ℕ) (seat : RunningPart) → At s index seat → HasLater (guarded_runs n s) index seat
unfolding guarded_runs
grown zero s index seat at = (seat, at, more_same seat.run.state)
grown (suc more) s index seat at = by_choices (choices_of s) (λ x next there. grown more x index next there)
  where
    by_choices : (choices : List Choice)
        → ((x : Simulation) (next : RunningPart) → At x index next → HasLater (guarded_runs more x) index next) → HasLater (guarded_on more s choices) index seat
    by_choices [] again = (seat, at, more_same seat.run.state)
    by_choices (c ∷ choices) again =
        let next = next_by s index seat (order_of s (c ∷ choices)) (pick_of s (c ∷ choices)) at in
        let there : At (guarded_taken s (c ∷ choices)) index next.0 =
        subst (λ (t : Simulation). At t index next.0) (sym (guarded_taken_is s (c ∷ choices))) next.1 in
        let later = again (guarded_taken s (c ∷ choices)) next.0 there in (
          later.0,
          later.1,
          more_more seat.run.state next.0.run.state later.0.run.state
              (more_next seat next.0 (pick_of s (c ∷ choices)) index next.2) later.2,
        )

-- ---- the run with all the traps

-- the faults that a part has at the end
abbrev pub faults_in : Option RunningPart → List Fault
faults_in None = []
faults_in (Some seat) = seat.run.state.spec.faults

abbrev pub at_end : Simulation → ℕ → List Fault → List Fault
at_end t index own = faults_in (slice_get t.parts index)

guarded_owned : (faults : List Fault) (seat : RunningPart) (s : Step) → seat_with faults seat ≡ seat_with faults (guarded_seat s seat)
guarded_owned faults seat s = ap (λ (p : PartState). record seat { run = record seat.run { state = p } })
    (by_trap (guard seat.run.state (known_of seat) s) (guarded seat.run.state (known_of seat) s) (trap_is seat.run.state (known_of seat) s))
  where
    by_trap : (o : Option Fault) (q : PartState) → IsTrapOf seat.run.state s o q → with_own faults seat.run.state ≡ with_own faults q
    by_trap None q h = ap (with_own faults) (sym h)
    by_trap (Some f) q h = ap (with_own faults) (sym h.2)

-- the simulation reaches the end by steps under the guard
module _ (t : Simulation) where
  abbrev change : ℕ → List Fault → List Fault
  change = at_end t

  -- each part of it is also there at the end, with more faults of later bursts
  abbrev LeadsTo : Simulation → Type 0
  LeadsTo s = (index : ℕ) (seat : RunningPart) → At s index seat → HasLater t index seat

  same_in : (s : Simulation) (order : Order) (c : Choice) (seat : RunningPart) → At s c.part seat
      → LeadsTo (guarded_by s order (Some c)) → IsSameIn change c.part c.step (Some (guarded_seat c.step seat))
  same_in s order c seat at leads =
      let new : RunningPart = part_after c.step (guarded_seat c.step seat) in
      let q : PartState = guarded seat.run.state (known_of seat) c.step in
      let here : At (guarded_by s order (Some c)) c.part new =
      ap (λ (o : Option RunningPart). slice_get (stepped_by s order c (option_map (guarded_seat c.step) o)).parts c.part) at
      ∙ get_set_same s.parts c.part seat new at in
      let later = leads c.part new here in
      let more : HasMore (state_after q c.step) later.0.run.state = later.2 in
      let faults : change c.part q.spec.faults ≡ q.spec.faults ++ more.later =
      ap faults_in later.1 ∙ ap (λ (spec : PartSpec). spec.faults) more.spec
      ∙ ap (λ (spec : PartSpec). spec.faults ++ more.later) (spec_after q c.step) in
      subst (λ (xs : List Fault). IsSameBurst xs q c.step) (sym faults) (later_same more.later q c.step more.after)

  taken_by_same : (s : Simulation) (order : Order) (o : Option Choice) → LeadsTo (guarded_by s order o)
      → taken_by (owned change s) order o ≡ owned change (guarded_by s order o)
  taken_by_same s order None leads = refl
  taken_by_same s order (Some c) leads =
      ap (stepped_by (owned change s) order c) (get_owning change 0 c.part c.part s.parts (omega arith)) ∙ by_part (slice_get s.parts c.part) refl
    where
      by_part : (x : Option RunningPart) → slice_get s.parts c.part ≡ x
          → stepped_by (owned change s) order c (option_map (seat_at change c.part) x)
          ≡ owned change (stepped_by s order c (option_map (guarded_seat c.step) x))
      by_part None e = refl
      by_part (Some seat) e =
          ap (λ (x : RunningPart). stepped_by (owned change s) order c (Some x)) (guarded_owned (faults_in (slice_get t.parts c.part)) seat c.step)
          ∙ stepped_seat change s order c (guarded_seat c.step seat) (same_in s order c seat e leads)

  leads_from : (more : ℕ) (s : Simulation) (order : Order) (o : Option Choice) → guarded_runs more (guarded_by s order o) ≡ t → LeadsTo (guarded_by s order o)
  leads_from more s order o e = λ index seat at.
      subst (λ (x : Simulation). HasLater x index seat) e (grown more (guarded_by s order o) index seat at)

  pub runs_guarded : (n : ℕ) (s : Simulation) → guarded_runs n s ≡ t → runs n (owned change s) ≡ owned change t
  unfolding guarded_runs runs taken guarded_taken
  runs_guarded zero s e = ap (owned change) e
  runs_guarded (suc more) s e = ap (go_on more (owned change s)) (choices_same change s) ∙ by_choices (choices_of s) e (runs_guarded more)
    where
      by_choices : (choices : List Choice) → guarded_on more s choices ≡ t
          → ((x : Simulation) → guarded_runs more x ≡ t → runs more (owned change x) ≡ owned change t) → go_on more (owned change s) choices ≡ owned change t
      by_choices [] e' again = ap (owned change) e'
      by_choices (c ∷ choices) e' again =
          ap (runs more) (taken_by_same s (order_of s (c ∷ choices)) (pick_of s (c ∷ choices))
          (leads_from more s (order_of s (c ∷ choices)) (pick_of s (c ∷ choices)) e'))
          ∙ again (guarded_taken s (c ∷ choices)) e'

-- the faults of the parts at the end are their own

owning_self : (c : ℕ → List Fault → List Fault) (n : ℕ) (parts : List RunningPart)
    → ((i j : ℕ) (seat : RunningPart) (own : List Fault) → j ≡ n + i → slice_get parts i ≡ Some seat → c j own ≡ seat.run.state.spec.faults)
    → owning c n parts ≡ parts
owning_self c n [] h = refl
owning_self c n (seat ∷ parts) h =
    ap (λ (xs : List RunningPart). seat_with (c n seat.run.state.spec.faults) seat ∷ xs)
    (owning_self c (n + 1) parts (λ i j x own e at. h (suc i) j x own (omega arith) at))
    ∙ ap (λ (x : RunningPart). x ∷ parts) (seat_same seat (c n seat.run.state.spec.faults) (h zero n seat seat.run.state.spec.faults (omega arith) refl))

at_end_is : (t : Simulation) (i j : ℕ) (seat : RunningPart) (own : List Fault) → j ≡ 0 + i → slice_get t.parts i ≡ Some seat
    → at_end t j own ≡ seat.run.state.spec.faults
at_end_is t i j seat own e at = let same : j ≡ i = omega arith in ap (λ (k : ℕ). faults_in (slice_get t.parts k)) same ∙ ap faults_in at

pub owned_end : (t : Simulation) → owned (at_end t) t ≡ t
owned_end t = ap (λ (parts : List RunningPart). record t { parts = parts }) (owning_self (at_end t) 0 t.parts (at_end_is t))

-- the specs of the parts are those of the scenario, except for faults

abbrev pub IsOf : RunningPart → PartSpec → Type 0
IsOf seat spec = seat.run.state.spec ≡ record spec { faults = seat.run.state.spec.faults }

unfoldable pub AreOf : List RunningPart → List PartSpec → Type 0
AreOf [] [] = Unit {0}
AreOf [] (spec ∷ specs) = ⊥
AreOf (seat ∷ parts) [] = ⊥
AreOf (seat ∷ parts) (spec ∷ specs) = IsOf seat spec × AreOf parts specs

opening_of : (specs : List PartSpec) → AreOf (map opening_part specs) specs
unfolding AreOf opening
opening_of [] = tt
opening_of (spec ∷ specs) = (refl, opening_of specs)

set_of : (parts : List RunningPart) (specs : List PartSpec) (i : ℕ) (seat new : RunningPart) → slice_get parts i ≡ Some seat
    → ((spec : PartSpec) → IsOf seat spec → IsOf new spec) → AreOf parts specs → AreOf (slice_set parts i new) specs
unfolding AreOf
set_of [] [] i seat new at h a = tt
set_of [] (spec ∷ specs) i seat new at h a = a
set_of (x ∷ parts) [] i seat new at h a = absurd a
set_of (x ∷ parts) (spec ∷ specs) zero seat new at h a =
    (h spec (subst (λ (y : RunningPart). IsOf y spec) (same_inside at) a.0), a.1)
set_of (x ∷ parts) (spec ∷ specs) (suc i) seat new at h a = (a.0, set_of parts specs i seat new at h a.1)

pub more_of : (seat new : RunningPart) (spec : PartSpec) → HasMore seat.run.state new.run.state → IsOf seat spec → IsOf new spec
more_of seat new spec more is =
    let e : new.run.state.spec ≡ record spec { faults = seat.run.state.spec.faults ++ more.later } =
    more.spec ∙ ap (λ (x : PartSpec). record x { faults = seat.run.state.spec.faults ++ more.later }) is in
    e ∙ ap (λ (x : PartSpec). record spec { faults = x.faults }) (sym e)

step_of_specs : (s : Simulation) (specs : List PartSpec) (order : Order) (o : Option Choice) → AreOf s.parts specs → AreOf (guarded_by s order o).parts specs
step_of_specs s specs order None a = a
step_of_specs s specs order (Some c) a = by_part (slice_get s.parts c.part) refl
  where
    by_part : (x : Option RunningPart) → slice_get s.parts c.part ≡ x
        → AreOf (stepped_by s order c (option_map (guarded_seat c.step) x)).parts specs
    by_part None e = a
    by_part (Some seat) e =
        set_of s.parts specs c.part seat (part_after c.step (guarded_seat c.step seat)) e
        (λ spec is. more_of seat (part_after c.step (guarded_seat c.step seat)) spec
        (trap_more seat.run.state (guarded seat.run.state (known_of seat) c.step) c.step (guard seat.run.state (known_of seat) c.step)
        (trap_is seat.run.state (known_of seat) c.step)) is) a

runs_of : (n : ℕ) (s : Simulation) (specs : List PartSpec) → AreOf s.parts specs → AreOf (guarded_runs n s).parts specs
unfolding guarded_runs guarded_taken
runs_of zero s specs a = a
runs_of (suc more) s specs a = by_choices (choices_of s) (λ x h. runs_of more x specs h)
  where
    by_choices : (choices : List Choice) → ((x : Simulation) → AreOf x.parts specs → AreOf (guarded_runs more x).parts specs) → AreOf (guarded_on more s choices).parts specs
    by_choices [] again = a
    by_choices (c ∷ choices) again =
        again (guarded_taken s (c ∷ choices)) (step_of_specs s specs (order_of s (c ∷ choices)) (pick_of s (c ∷ choices)) a)

opened_of : (c : ℕ → List Fault → List Fault) (n : ℕ) (parts : List RunningPart) (specs : List PartSpec) → AreOf parts specs
    → ((i j : ℕ) (seat : RunningPart) (own : List Fault) → j ≡ n + i → slice_get parts i ≡ Some seat → c j own ≡ seat.run.state.spec.faults)
    → map opening_part (map spec_of parts) ≡ owning c n (map opening_part specs)
unfolding AreOf
opened_of c n [] [] a h = refl
opened_of c n [] (spec ∷ specs) a h = absurd a
opened_of c n (seat ∷ parts) [] a h = absurd a
opened_of c n (seat ∷ parts) (spec ∷ specs) a h =
    ap (λ (x : PartSpec). opening_part x ∷ map opening_part (map spec_of parts)) a.0
    ∙ ap (λ (x : RunningPart). x ∷ map opening_part (map spec_of parts))
    (opens_with seat.run.state.spec.faults spec
    ∙ ap (λ (faults : List Fault). seat_with faults (opening_part spec))
    (sym (h zero n seat (opening spec).spec.faults (omega arith) refl)))
    ∙ ap (λ (xs : List RunningPart). seat_with (c n (opening spec).spec.faults) (opening_part spec) ∷ xs)
    (opened_of c (n + 1) parts specs a.1 (λ i j x own e at. h (suc i) j x own (omega arith) at))

pub begins_of : (scenario : Scenario) (n : ℕ) → AreOf (guarded_runs n (begins scenario)).parts scenario.parts
unfolding begins
begins_of scenario n = runs_of n (begins scenario) scenario.parts (opening_of scenario.parts)

begins_guarded : (scenario : Scenario) (t : Simulation) → AreOf t.parts scenario.parts
    → begins (guarded_scenario scenario t) ≡ owned (at_end t) (begins scenario)
unfolding begins
begins_guarded scenario t a =
    ap (λ (parts : List RunningPart). record (begins scenario) { parts = parts }) (opened_of (at_end t) 0 t.parts scenario.parts a (at_end_is t))

-- the guarded run is that of the guarded scenario, step by step
pub guarded_reaches : (scenario : Scenario) (n : ℕ) (t : Simulation) → guarded_runs n (begins scenario) ≡ t
    → runs n (begins (guarded_scenario scenario t)) ≡ t
guarded_reaches scenario n t e =
    ap (runs n) (begins_guarded scenario t (subst (λ (x : Simulation). AreOf x.parts scenario.parts) e (begins_of scenario n)))
    ∙ runs_guarded t n (begins scenario) e ∙ owned_end t

pub guarded_scheduled : (scenario : Scenario) (t : Simulation) → IsGuardedSchedule scenario t → IsScheduledRun (guarded_scenario scenario t) t
guarded_scheduled scenario t g = record { steps = g.steps; reached = guarded_reaches scenario g.steps t g.reached; ended = g.ended }
