-- A guarded run of a part.
use Rattle.std.proofs.Common.{◌≡◌, ◌≤◌, ◌<◌, ℕ, suc, ◌+◌, true, false, cond, Option, Some, None, List, [], ◌∷◌, ◌++◌, length, refl, sym, ap, subst, ◌∙◌, arith, append_assoc, append-nil}
use Rattle.std.proofs.lemmas.Bool.{ne_eqb}
use Rattle.std.specs.List.{AllByRecursion}
use Rattle.nook_data.specs.declared.clause.Clause.{Clause}
use Rattle.nook_data.specs.declared.scenario.Fault.{Fault}
use Rattle.nook_data.specs.declared.scenario.PartSpec.{PartSpec}
use Rattle.nook_data.specs.declared.steps.Event.{Event}
use Rattle.nook_data.specs.declared.steps.Event.TheVariants as event
use Rattle.nook_data.specs.declared.steps.Step.{Step}
use Rattle.nook_data.specs.declared.steps.Step.TheVariants as step
use Rattle.guard_defs.specs.Guard.{IsGuardedFrom, IsGuardedRun, guard, guard_trap, guarded, guarded_from, known_at_first, trap_for, traps_from, traps_of}
use Rattle.guard_defs.specs.Guard.{with_after, with_first, with_own, with_trap}
use Rattle.machine_defs.specs.BurstFaults.{faults_of_burst}
use Rattle.part_defs.specs.Domain.{domain_burst}
use Rattle.part_defs.specs.Runs.{IsRun, IsRunFrom, event_of, state_after, state_from, step_of}
use Rattle.part_defs.specs.State.{PartState}
use Rattle.part_defs.specs.Steps.{enabled, opening}
use Rattle.part_laws.proofs.Counts.{run_measured}
use Rattle.part_laws.proofs.DeviceStays.{spec_after}
use Rattle.part_laws.proofs.RunBound.{count_more}
use Rattle.part_laws.specs.Bound.{carries_failure, failures_of}
use Rattle.part_laws.specs.Fit.{IsFitSpec}
use Rattle.promise_defs.specs.Contract.{Known, break_from, broken, first_break, known_after}
use Rattle.front_laws.specs.Guarded.{IsGuardedWell}
use Rattle.front_laws.proofs.Unreached.{bursts_after, is_burst_step}
use Rattle.front_laws.proofs.GuardStep.{stopped}
use Rattle.front_laws.proofs.Ordered.{other_burst}
use Rattle.front_laws.proofs.Same.{IsSameBurst, after_same, enabled_same, event_same, opening_with}

-- faults of later bursts

abbrev pub AreLater : ℕ → List Fault → Type 0
AreLater bursts faults = AllByRecursion (λ f. bursts < f.burst) faults

pub later_faults : (n : ℕ) (own later : List Fault) → AreLater n later → faults_of_burst n (own ++ later) ≡ faults_of_burst n own
later_faults n own [] h = ap (faults_of_burst n) (append-nil own)
later_faults n own (f ∷ later) h =
    ap (faults_of_burst n) (sym (append_assoc own (f ∷ []) later))
    ∙ later_faults n (own ++ f ∷ []) later h.1
    ∙ other_burst n own f (ne_eqb f.burst n (λ same. let less : n < f.burst = h.0 in omega arith))

pub sooner : (n m : ℕ) (faults : List Fault) → n ≤ m → AreLater m faults → AreLater n faults
sooner n m [] h a = tt
sooner n m (f ∷ faults) h a = (let less : m < f.burst = a.0 in omega arith, sooner n m faults h a.1)

-- a burst of a part, with faults of later bursts after its own
pub later_same : (later : List Fault) (p : PartState) (s : Step) → AreLater (state_after p s).bursts later
    → IsSameBurst (p.spec.faults ++ later) p s
later_same later p (step.Invoke thread o) h = tt
later_same later p (step.Enter thread) h = tt
later_same later p step.Stage h = tt
later_same later p (step.Arrive frame) h = tt
later_same later p (step.Burst context) h =
    ap (λ (faults : List Fault). domain_burst context faults p.domain)
    (later_faults (p.bursts + 1) p.spec.faults later
    (subst (λ (n : ℕ). AreLater n later) (bursts_after p (step.Burst context)) h))

-- the guard's trap of a step

abbrev pub IsTrapOf : PartState → Step → Option Fault → PartState → Type 0
IsTrapOf p s None q = q ≡ p
IsTrapOf p s (Some f) q = (f.burst ≡ p.bursts + 1) × (is_burst_step s ≡ true) × (q ≡ with_own (p.spec.faults ++ f ∷ []) p)

pub trap_is : (p : PartState) (k : Known) (s : Step) → IsTrapOf p s (guard p k s) (guarded p k s)
unfolding guarded
trap_is p k (step.Invoke thread o) = refl
trap_is p k (step.Enter thread) = refl
trap_is p k step.Stage = refl
trap_is p k (step.Arrive frame) = refl
trap_is p k (step.Burst context) = by_clauses (broken k (event_of p (step.Burst context)))
  where
    by_clauses : (cs : List Clause) → IsTrapOf p (step.Burst context) (trap_for cs (guard_trap context p k)) (with_trap (trap_for cs (guard_trap context p k)) p)
    by_clauses [] = refl
    by_clauses (c ∷ more) = (refl, refl, refl)

guarded_bursts : (p q : PartState) (s : Step) (o : Option Fault) → IsTrapOf p s o q → q.bursts ≡ p.bursts
guarded_bursts p q s None h = ap (λ (r : PartState). r.bursts) h
guarded_bursts p q s (Some f) h = ap (λ (r : PartState). r.bursts) h.2

pub bursts_low : (p q : PartState) (s : Step) (o : Option Fault) → IsTrapOf p s o q → p.bursts ≤ (state_after q s).bursts
bursts_low p q s o h =
    let a : q.bursts ≡ p.bursts = guarded_bursts p q s o h in
    let b : (state_after q s).bursts ≡ q.bursts + cond (is_burst_step s) 1 0 = bursts_after q s in
    omega arith

first_later : (p q : PartState) (s : Step) (o : Option Fault) (rest : List Fault) → IsTrapOf p s o q → AreLater p.bursts rest
    → AreLater p.bursts (with_first o rest)
first_later p q s None rest h a = a
first_later p q s (Some f) rest h a = (let e : f.burst ≡ p.bursts + 1 = h.0 in omega arith, a)

-- the traps of later steps belong to later bursts
pub traps_later : (p : PartState) (k : Known) (events : List Event) → AreLater p.bursts (traps_from p k events)
unfolding traps_from
traps_later p k [] = tt
traps_later p k (e ∷ events) =
    let q : PartState = guarded p k (step_of e) in
    let h : IsTrapOf p (step_of e) (guard p k (step_of e)) q = trap_is p k (step_of e) in
    first_later p q (step_of e) (guard p k (step_of e)) (traps_from (state_after q (step_of e)) (known_after k e) events) h
    (sooner p.bursts (state_after q (step_of e)).bursts (traps_from (state_after q (step_of e)) (known_after k e) events)
    (bursts_low p q (step_of e) (guard p k (step_of e)) h) (traps_later (state_after q (step_of e)) (known_after k e) events))

-- the part with all its traps is the guarded part with the later ones
with_all : (p q : PartState) (s : Step) (o : Option Fault) (rest : List Fault) → IsTrapOf p s o q
    → with_own (p.spec.faults ++ with_first o rest) p ≡ with_own (q.spec.faults ++ rest) q
with_all p q s None rest h = ap (λ (r : PartState). with_own (r.spec.faults ++ rest) r) (sym h)
with_all p q s (Some f) rest h =
    ap (λ (faults : List Fault). with_own faults p) (sym (append_assoc p.spec.faults (f ∷ []) rest))
    ∙ ap (λ (r : PartState). with_own (r.spec.faults ++ rest) r) (sym h.2)

-- the run with the traps

pub record IsRunWith (p : PartState) (k : Known) (events : List Event) : Type 0 where
  pub run : IsRunFrom (with_own (p.spec.faults ++ traps_from p k events) p) events
  pub state : state_from (with_own (p.spec.faults ++ traps_from p k events) p) events ≡ guarded_from p k events

own_is : (p : PartState) → with_own (p.spec.faults ++ []) p ≡ p
own_is p = ap (λ (faults : List Fault). with_own faults p) (append-nil p.spec.faults)

pub guarded_run : (p : PartState) (k : Known) (events : List Event) → IsGuardedFrom p k events → IsRunWith p k events
unfolding IsGuardedFrom IsRunFrom state_from traps_from guarded_from
guarded_run p k [] g = record { run = tt; state = own_is p }
guarded_run p k (e ∷ events) g =
    let s : Step = step_of e in
    let q : PartState = guarded p k s in
    let r : PartState = state_after q s in
    let rest : List Fault = traps_from r (known_after k e) events in
    let all : with_own (p.spec.faults ++ with_first (guard p k s) rest) p ≡ with_own (q.spec.faults ++ rest) q =
    with_all p q s (guard p k s) rest (trap_is p k s) in
    let same : IsSameBurst (q.spec.faults ++ rest) q s = later_same rest q s (traps_later r (known_after k e) events) in
    let next : state_after (with_own (q.spec.faults ++ rest) q) s ≡ with_own (r.spec.faults ++ rest) r =
    after_same (q.spec.faults ++ rest) q s same
    ∙ ap (λ (spec : PartSpec). with_own (spec.faults ++ rest) r) (sym (spec_after q s)) in
    let more : IsRunWith r (known_after k e) events = guarded_run r (known_after k e) events g.2 in
    record {
      run = subst (λ (t : PartState). IsRunFrom t (e ∷ events)) (sym all) (
        enabled_same (q.spec.faults ++ rest) q s ∙ g.0,
        event_same (q.spec.faults ++ rest) q s same ∙ g.1,
        subst (λ (t : PartState). IsRunFrom t events) (sym next) more.run,
      );
      state = ap (λ (t : PartState). state_from t (e ∷ events)) all ∙ ap (λ (t : PartState). state_from t events) next ∙ more.state;
    }

-- no clause is broken

not_burst : (k : Known) (e : Event) → is_burst_step (step_of e) ≡ false → broken k e ≡ []
not_burst k (event.Invoke call thread o answer) h = refl
not_burst k (event.Enter call thread attempt answer) h = refl
not_burst k (event.Burst context call burst count end acts answer failure) h = let no : true ≡ false = h in absurd cc
not_burst k (event.Stage s answers released) h = refl
not_burst k (event.Arrive frame kept) h = refl

pub step_kept : (p : PartState) (k : Known) (s : Step) (e : Event) → s ≡ step_of e → event_of (guarded p k s) s ≡ e → broken k e ≡ []
unfolding guarded
step_kept p k (step.Invoke thread o) e named h = not_burst k e (ap is_burst_step (sym named))
step_kept p k (step.Enter thread) e named h = not_burst k e (ap is_burst_step (sym named))
step_kept p k step.Stage e named h = not_burst k e (ap is_burst_step (sym named))
step_kept p k (step.Arrive frame) e named h = not_burst k e (ap is_burst_step (sym named))
step_kept p k (step.Burst context) e named h = by_clauses (broken k (event_of p (step.Burst context))) refl
  where
    by_clauses : (cs : List Clause) → broken k (event_of p (step.Burst context)) ≡ cs → broken k e ≡ []
    by_clauses [] none =
        ap (broken k) (sym h) ∙ ap (λ (xs : List Clause). broken k (event_of (with_trap (trap_for xs (guard_trap context p k)) p) (step.Burst context))) none ∙ none
    by_clauses (c ∷ more) some = ap (broken k) (sym h) ∙ (stopped context p k c more some).kept

pub guarded_kept : (number : ℕ) (p : PartState) (k : Known) (events : List Event) → IsGuardedFrom p k events → break_from number k events ≡ None
unfolding IsGuardedFrom break_from
guarded_kept number p k [] g = refl
guarded_kept number p k (e ∷ events) g =
    rw (step_kept p k (step_of e) e refl g.1, break_from)
    (guarded_kept (suc number) (state_after (guarded p k (step_of e)) (step_of e)) (known_after k e) events g.2)

-- each trap is a failure

step_fails : (p : PartState) (k : Known) (s : Step) (e : Event) (rest : List Fault) → event_of (guarded p k s) s ≡ e
    → length (with_first (guard p k s) rest) ≤ cond (carries_failure e) 1 0 + length rest
unfolding guarded
step_fails p k (step.Invoke thread o) e rest h = omega arith
step_fails p k (step.Enter thread) e rest h = omega arith
step_fails p k step.Stage e rest h = omega arith
step_fails p k (step.Arrive frame) e rest h = omega arith
step_fails p k (step.Burst context) e rest h = by_clauses (broken k (event_of p (step.Burst context))) refl
  where
    by_clauses : (cs : List Clause) → broken k (event_of p (step.Burst context)) ≡ cs
        → length (with_first (trap_for cs (guard_trap context p k)) rest) ≤ cond (carries_failure e) 1 0 + length rest
    by_clauses [] none = omega arith
    by_clauses (c ∷ more) some =
        let fails : ◌≡◌ {A = ℕ} (cond (carries_failure e) 1 0) 1 =
        ap (λ (x : Event). cond (carries_failure x) 1 0) (sym h ∙ (stopped context p k c more some).made) in
        omega arith

pub guarded_fails : (p : PartState) (k : Known) (events : List Event) → IsGuardedFrom p k events → length (traps_from p k events) ≤ failures_of events
unfolding IsGuardedFrom traps_from
guarded_fails p k [] g = omega arith
guarded_fails p k (e ∷ events) g =
    let q : PartState = state_after (guarded p k (step_of e)) (step_of e) in
    let rest : List Fault = traps_from q (known_after k e) events in
    let one : length (with_first (guard p k (step_of e)) rest) ≤ cond (carries_failure e) 1 0 + length rest = step_fails p k (step_of e) e rest g.1 in
    let more : length rest ≤ failures_of events = guarded_fails q (known_after k e) events g.2 in
    let sum : failures_of (e ∷ events) ≡ cond (carries_failure e) 1 0 + failures_of events = count_more carries_failure e events in
    omega arith

-- all together

opening_own : (spec : PartSpec) → (opening spec).spec.faults ≡ spec.faults
unfolding opening
opening_own spec = refl

pub opening_after : (spec : PartSpec) (faults : List Fault) → opening (with_after faults spec) ≡ with_own ((opening spec).spec.faults ++ faults) (opening spec)
opening_after spec faults =
    opening_with (spec.faults ++ faults) spec ∙ ap (λ (own : List Fault). with_own (own ++ faults) (opening spec)) (sym (opening_own spec))

pub fit_following : (spec : PartSpec) (faults : List Fault) → IsFitSpec spec → IsFitSpec (with_after faults spec)
fit_following spec faults h = record { text = h.text; initial = h.initial }

pub guarded_well : (spec : PartSpec) (journal : List Event) → IsFitSpec spec → IsGuardedRun spec journal → IsGuardedWell spec journal
unfolding first_break
guarded_well spec journal fits g =
    let traps : List Fault = traps_of spec journal in
    let with : IsRunWith (opening spec) (known_at_first spec) journal = guarded_run (opening spec) (known_at_first spec) journal g in
    let e : opening (with_after traps spec) ≡ with_own ((opening spec).spec.faults ++ traps) (opening spec) = opening_after spec traps in
    let run : IsRun (with_after traps spec) journal = subst (λ (t : PartState). IsRunFrom t journal) (sym e) with.run in
    let failing : length traps ≤ failures_of journal = guarded_fails (opening spec) (known_at_first spec) journal g in
    let few : failures_of journal ≤ spec.limit + 1 = (run_measured (with_after traps spec) journal (fit_following spec traps fits) run).few_failures in
    record {
      run = run;
      state = ap (λ (t : PartState). state_from t journal) e ∙ with.state;
      kept = guarded_kept 1 (opening spec) (known_at_first spec) journal g;
      failing = failing;
      few = omega arith;
    }

-- if no clause is broken, there is no trap

pub step_free : (p : PartState) (k : Known) (s : Step) → broken k (event_of p s) ≡ [] → (guard p k s ≡ None) × (guarded p k s ≡ p)
unfolding guarded
step_free p k (step.Invoke thread o) h = (refl, refl)
step_free p k (step.Enter thread) h = (refl, refl)
step_free p k step.Stage h = (refl, refl)
step_free p k (step.Arrive frame) h = (refl, refl)
step_free p k (step.Burst context) h = (
  ap (λ (cs : List Clause). trap_for cs (guard_trap context p k)) h,
  ap (λ (cs : List Clause). with_trap (trap_for cs (guard_trap context p k)) p) h,
)

pub first_kept : (number : ℕ) (k : Known) (e : Event) (events : List Event) → break_from number k (e ∷ events) ≡ None
    → (broken k e ≡ []) × (break_from (suc number) (known_after k e) events ≡ None)
unfolding break_from
first_kept number k e events h = by_clauses (broken k e) refl
  where
    by_clauses : (cs : List Clause) → broken k e ≡ cs → (broken k e ≡ []) × (break_from (suc number) (known_after k e) events ≡ None)
    by_clauses [] none = (none, rw (none, break_from) at h)
    by_clauses (c ∷ more) some = let no = rw (some, break_from) at h in absurd cc

pub record IsFree (p : PartState) (k : Known) (events : List Event) : Type 0 where
  pub guarded : IsGuardedFrom p k events
  pub traps : traps_from p k events ≡ []

pub free_from : (number : ℕ) (p : PartState) (k : Known) (events : List Event) → IsRunFrom p events → break_from number k events ≡ None
    → IsFree p k events
unfolding IsGuardedFrom IsRunFrom traps_from
free_from number p k [] r h = record { guarded = tt; traps = refl }
free_from number p k (e ∷ events) r h =
    let first = first_kept number k e events h in
    let free = step_free p k (step_of e) (ap (broken k) r.1 ∙ first.0) in
    let more : IsFree (state_after p (step_of e)) (known_after k e) events =
    free_from (suc number) (state_after p (step_of e)) (known_after k e) events r.2 first.1 in
    record {
      guarded = (
        ap (λ (q : PartState). enabled q (step_of e)) free.1 ∙ r.0,
        ap (λ (q : PartState). event_of q (step_of e)) free.1 ∙ r.1,
        subst (λ (q : PartState). IsGuardedFrom (state_after q (step_of e)) (known_after k e) events) (sym free.1) more.guarded,
      );
      traps = ap (λ (q : PartState). with_first (guard p k (step_of e)) (traps_from (state_after q (step_of e)) (known_after k e) events)) free.1
          ∙ ap (λ (o : Option Fault). with_first o (traps_from (state_after p (step_of e)) (known_after k e) events)) free.0
          ∙ more.traps;
    }

pub free_run : (spec : PartSpec) (journal : List Event) → IsRun spec journal → first_break spec.class spec.blocks journal ≡ None
    → IsGuardedRun spec journal × (traps_of spec journal ≡ [])
unfolding first_break
free_run spec journal r h =
    let free : IsFree (opening spec) (known_at_first spec) journal = free_from 1 (opening spec) (known_at_first spec) journal r h in
    (free.guarded, free.traps)
