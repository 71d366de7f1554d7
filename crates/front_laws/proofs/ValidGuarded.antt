-- The guarded scenario is valid if its parts have room for the traps.
use Rattle.std.proofs.Common.{◌≡◌, ◌≤◌, ◌<◌, ◌^◌, ℕ, zero, suc, ◌+◌, Option, Some, None, List, [], ◌∷◌, ◌++◌, All, map, length, slice_get, refl, sym, ap, subst, ◌∙◌, arith, length-append, cond}
use Rattle.std.proofs.lemmas.List.Elements.{All-append, All-from_recursion, recursion_from_All}
use Rattle.std.specs.List.{AllByRecursion}
use Rattle.nook_data.proofs.Options.{none_is_some, same_inside}
use Rattle.nook_data.specs.Valid.{FitsClass, IsValidFault, IsValidKind, IsValidPart, IsValidScenario, IsValidThread, are_distinct, part_names}
use Rattle.nook_data.specs.declared.clause.Clause.{Clause}
use Rattle.nook_data.specs.declared.classes.Class.{Class}
use Rattle.nook_data.specs.declared.classes.Class.TheVariants as class
use Rattle.nook_data.specs.declared.scenario.Fault.{Fault}
use Rattle.nook_data.specs.declared.scenario.FaultKind.TheVariants as fault
use Rattle.nook_data.specs.declared.scenario.PartSpec.{PartSpec}
use Rattle.nook_data.specs.declared.scenario.Scenario.{Scenario}
use Rattle.nook_data.specs.declared.steps.Event.{Event}
use Rattle.nook_data.specs.declared.steps.Step.{Step}
use Rattle.nook_data.specs.declared.steps.Step.TheVariants as step
use Rattle.guard_defs.specs.Guard.{HasRoom, IsGuardedRun, guard, guard_trap, guarded, guarded_from, known_at_first, trap_for, traps_from, traps_of}
use Rattle.guard_defs.specs.Guard.{with_after, with_first}
use Rattle.guard_defs.specs.GuardedRuns.{guarded_runs, guarded_scenario, spec_of}
use Rattle.part_defs.specs.Runs.{event_of, state_after, state_of, step_of}
use Rattle.part_defs.specs.State.{PartState}
use Rattle.part_defs.specs.Steps.{opening}
use Rattle.part_laws.proofs.RunSmall.{run_few_bursts}
use Rattle.part_laws.proofs.ValidFits.{valid_fits}
use Rattle.part_laws.specs.Fit.{IsFitSpec}
use Rattle.promise_defs.specs.Contract.{Known, broken, known_after}
use Rattle.run_defs.specs.Simulation.{RunningPart, Simulation, begins}
use Rattle.front_laws.specs.Guarded.{IsGuardedWell, guarded_at}
use Rattle.front_laws.specs.GuardedParts.{IsGuardedPart}
use Rattle.front_laws.proofs.GuardRun.{IsTrapOf, bursts_low, fit_following, guarded_well, trap_is}
use Rattle.front_laws.proofs.GuardStep.{stopped}
use Rattle.front_laws.proofs.GuardedParts.{guarded_part}
use Rattle.front_laws.proofs.GuardedRuns.{AreOf, begins_of}
use Rattle.front_laws.proofs.Unreached.{bursts_after, is_burst_step}

-- each trap belongs to a burst that was done, at a position that a burst can reach

pub record IsTrapWithin (most : ℕ) (f : Fault) : Type 0 where
  pub numbered : 1 ≤ f.burst
  pub made : f.burst ≤ most
  pub point : f.after ≤ 4095
  pub kind : f.kind ≡ fault.Trap

abbrev TrapFits : ℕ → Option Fault → Type 0
TrapFits most None = Unit {0}
TrapFits most (Some f) = IsTrapWithin most f

position_of : (context : ℕ) (p : PartState) (k : Known) (clause : Clause) (more : List Clause)
    → broken k (event_of p (step.Burst context)) ≡ clause ∷ more → (guard_trap context p k).after ≤ 4095
position_of context p k clause more h = let low = (stopped context p k clause more h).within in omega arith

trap_fits : (p : PartState) (k : Known) (s : Step) (most : ℕ) → p.bursts + cond (is_burst_step s) 1 0 ≤ most → TrapFits most (guard p k s)
trap_fits p k (step.Invoke thread o) most h = tt
trap_fits p k (step.Enter thread) most h = tt
trap_fits p k step.Stage most h = tt
trap_fits p k (step.Arrive frame) most h = tt
trap_fits p k (step.Burst context) most h = by_clauses (broken k (event_of p (step.Burst context))) refl
  where
    by_clauses : (cs : List Clause) → broken k (event_of p (step.Burst context)) ≡ cs → TrapFits most (trap_for cs (guard_trap context p k))
    by_clauses [] none = tt
    by_clauses (c ∷ more) some =
        record { numbered = omega arith; made = omega arith; point = position_of context p k c more some; kind = refl }

first_fits : (most : ℕ) (o : Option Fault) (rest : List Fault) → TrapFits most o → AllByRecursion (IsTrapWithin most) rest
    → AllByRecursion (IsTrapWithin most) (with_first o rest)
first_fits most None rest h a = a
first_fits most (Some f) rest h a = (h, a)

guarded_rises : (p : PartState) (k : Known) (events : List Event) → p.bursts ≤ (guarded_from p k events).bursts
unfolding guarded_from
guarded_rises p k [] = omega arith
guarded_rises p k (e ∷ events) =
    let q : PartState = guarded p k (step_of e) in
    let one : p.bursts ≤ (state_after q (step_of e)).bursts =
    bursts_low p q (step_of e) (guard p k (step_of e)) (trap_is p k (step_of e)) in
    let more : (state_after q (step_of e)).bursts ≤ (guarded_from (state_after q (step_of e)) (known_after k e) events).bursts =
    guarded_rises (state_after q (step_of e)) (known_after k e) events in
    omega arith

same_bursts : (p q : PartState) (s : Step) (o : Option Fault) → IsTrapOf p s o q → q.bursts ≡ p.bursts
same_bursts p q s None h = ap (λ (r : PartState). r.bursts) h
same_bursts p q s (Some f) h = ap (λ (r : PartState). r.bursts) h.2

pub traps_fit : (most : ℕ) (p : PartState) (k : Known) (events : List Event) → (guarded_from p k events).bursts ≤ most
    → AllByRecursion (IsTrapWithin most) (traps_from p k events)
unfolding traps_from guarded_from
traps_fit most p k [] h = tt
traps_fit most p k (e ∷ events) h =
    let q : PartState = guarded p k (step_of e) in
    let r : PartState = state_after q (step_of e) in
    let same : q.bursts ≡ p.bursts = same_bursts p q (step_of e) (guard p k (step_of e)) (trap_is p k (step_of e)) in
    let one : r.bursts ≡ q.bursts + cond (is_burst_step (step_of e)) 1 0 = bursts_after q (step_of e) in
    let rises : r.bursts ≤ (guarded_from r (known_after k e) events).bursts = guarded_rises r (known_after k e) events in
    first_fits most (guard p k (step_of e)) (traps_from r (known_after k e) events)
    (trap_fits p k (step_of e) most (omega arith)) (traps_fit most r (known_after k e) events h)

valid_trap : (f : Fault) → IsTrapWithin (2 ^ 23) f → IsValidFault f
valid_trap f h = record {
  burst = (h.numbered, let m = h.made in omega arith);
  after = h.point;
  kind = subst (λ k. IsValidKind k) (sym h.kind) tt;
}

valid_traps : (faults : List Fault) → AllByRecursion (IsTrapWithin (2 ^ 23)) faults → AllByRecursion IsValidFault faults
valid_traps [] a = tt
valid_traps (f ∷ faults) a = (valid_trap f a.0, valid_traps faults a.1)

-- a part with its traps

fits_after : (c : Class) (spec : PartSpec) (faults : List Fault) → FitsClass c spec → FitsClass c (with_after faults spec)
fits_after class.Block spec faults h = h
fits_after class.Net spec faults h = h
fits_after class.Sound spec faults h = h

pub valid_part : (spec : PartSpec) (journal : List Event) → IsValidPart spec → HasRoom spec → IsGuardedRun spec journal
    → IsValidPart (with_after (traps_of spec journal) spec)
valid_part spec journal valid room run =
    let fits : IsFitSpec spec = valid_fits spec valid in
    let traps : List Fault = traps_of spec journal in
    let well : IsGuardedWell spec journal = guarded_well spec journal fits run in
    let few : length traps ≤ spec.limit + 1 = well.few in
    let limit : spec.limit ≤ 16 = valid.limit in
    let small : (state_of (with_after traps spec) journal).bursts < 2 ^ 23 =
    run_few_bursts (with_after traps spec) journal (fit_following spec traps fits) limit well.run in
    let same : (state_of (with_after traps spec) journal).bursts ≡ (guarded_at spec journal).bursts = ap (λ (p : PartState). p.bursts) well.state in
    let sum : length (spec.faults ++ traps) ≡ length spec.faults + length traps = length-append spec.faults traps in
    record {
      name = valid.name;
      fits = fits_after spec.class spec traps valid.fits;
      bad_count = valid.bad_count;
      bad = valid.bad;
      limit = valid.limit;
      class = valid.class;
      image = valid.image;
      fault_count = omega arith;
      faults = All-append IsValidFault spec.faults traps valid.faults
          (All-from_recursion IsValidFault traps
          (valid_traps traps (traps_fit (2 ^ 23) (opening spec) (known_at_first spec) journal (omega arith))));
    }

-- the parts of a scenario

each_part : (P : PartSpec → Type 0) (parts : List RunningPart) (specs : List PartSpec) → AreOf parts specs
    → ((i : ℕ) (spec : PartSpec) (seat : RunningPart) → slice_get specs i ≡ Some spec → slice_get parts i ≡ Some seat → P (spec_of seat))
    → AllByRecursion P (map spec_of parts)
unfolding AreOf
each_part P [] [] a h = tt
each_part P [] (spec ∷ specs) a h = absurd a
each_part P (seat ∷ parts) [] a h = absurd a
each_part P (seat ∷ parts) (spec ∷ specs) a h =
    (h zero spec seat refl refl, each_part P parts specs a.1 (λ i x y hx hy. h (suc i) x y hx hy))

pub all_at : (P : PartSpec → Type 0) (specs : List PartSpec) (i : ℕ) (spec : PartSpec) → AllByRecursion P specs → slice_get specs i ≡ Some spec → P spec
all_at P [] i spec a h = none_is_some h
all_at P (x ∷ specs) zero spec a h = subst P (same_inside h) a.0
all_at P (x ∷ specs) (suc i) spec a h = all_at P specs i spec a.1 h

same_count : (parts : List RunningPart) (specs : List PartSpec) → AreOf parts specs → length (map spec_of parts) ≡ length specs
unfolding AreOf
same_count [] [] a = refl
same_count [] (spec ∷ specs) a = absurd a
same_count (seat ∷ parts) [] a = absurd a
same_count (seat ∷ parts) (spec ∷ specs) a = ap suc (same_count parts specs a.1)

same_names : (parts : List RunningPart) (specs : List PartSpec) → AreOf parts specs → part_names (map spec_of parts) ≡ part_names specs
unfolding AreOf
same_names [] [] a = refl
same_names [] (spec ∷ specs) a = absurd a
same_names (seat ∷ parts) [] a = absurd a
same_names (seat ∷ parts) (spec ∷ specs) a =
    ap (λ (x : PartSpec). x.name ∷ part_names (map spec_of parts)) a.0 ∙ ap (λ (xs : List (List ℕ)). spec.name ∷ xs) (same_names parts specs a.1)

pub guarded_valid : (scenario : Scenario) (steps : ℕ) → IsValidScenario scenario → All HasRoom scenario.parts
    → IsValidScenario (guarded_scenario scenario (guarded_runs steps (begins scenario)))
guarded_valid scenario steps valid room =
    let t : Simulation = guarded_runs steps (begins scenario) in
    let a : AreOf t.parts scenario.parts = begins_of scenario steps in
    let count : length (map spec_of t.parts) ≡ length scenario.parts = same_count t.parts scenario.parts a in
    let part : (i : ℕ) (spec : PartSpec) (seat : RunningPart) → slice_get scenario.parts i ≡ Some spec → slice_get t.parts i ≡ Some seat
    → IsValidPart (spec_of seat) = λ i spec seat hs hp.
    let g : IsGuardedPart spec seat = guarded_part scenario i steps spec seat hs hp in
    subst IsValidPart (sym g.faults)
    (valid_part spec seat.run.journal (all_at IsValidPart scenario.parts i spec (recursion_from_All IsValidPart scenario.parts valid.parts) hs)
    (all_at HasRoom scenario.parts i spec (recursion_from_All HasRoom scenario.parts room) hs) g.run) in
    record {
      schedule = valid.schedule;
      part_count = subst (λ (n : ℕ). (1 ≤ n) × (n ≤ 8)) (sym count) valid.part_count;
      parts = All-from_recursion IsValidPart (map spec_of t.parts) (each_part IsValidPart t.parts scenario.parts a part);
      part_names = ap are_distinct (same_names t.parts scenario.parts a) ∙ valid.part_names;
      thread_count = valid.thread_count;
      threads = subst (λ (n : ℕ). All (IsValidThread n) scenario.threads) (sym count) valid.threads;
      thread_names = valid.thread_names;
    }
