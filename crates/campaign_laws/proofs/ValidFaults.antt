-- Every fault that strikes in a valid part's run is a valid fault.
use Rattle.std.proofs.Common.{◌≡◌, ◌∙◌, ◌≤◌, ◌<◌, ◌^◌, ℕ, zero, suc, ◌+◌, List, [], ◌∷◌, map, All, cond, Option, Some, None, refl, sym, ap, subst, arith}
use Rattle.std.proofs.lemmas.List.Elements.{All-append, All-map, All-nil, All-weaker}
use Rattle.front_laws.proofs.GuardRun.{IsTrapOf, fit_following, guarded_well, trap_is}
use Rattle.front_laws.proofs.GuardStep.{stopped}
use Rattle.front_laws.proofs.Past.{turns_high}
use Rattle.front_laws.proofs.Unreached.{bursts_after, is_burst_step}
use Rattle.front_laws.specs.Guarded.{IsGuardedWell, guarded_at}
use Rattle.guard_defs.specs.Every.{every_fault, every_fault_guarded, every_from, every_guarded_from, faults_in, faults_of_step, open_turns, put_at, turns_made}
use Rattle.guard_defs.specs.Guard.{IsGuardedRun, guard, guard_trap, guarded, guarded_from, known_at_first, trap_for, traps_of, with_after}
use Rattle.machine_defs.specs.BurstFaults.{faults_of_burst}
use Rattle.nook_data.specs.Valid.{IsValidFault, IsValidKind, IsValidPart}
use Rattle.nook_data.specs.declared.clause.Clause.{Clause}
use Rattle.nook_data.specs.declared.machine.Context.{Context}
use Rattle.nook_data.specs.declared.scenario.Fault.{Fault}
use Rattle.nook_data.specs.declared.scenario.FaultKind.{FaultKind}
use Rattle.nook_data.specs.declared.scenario.PartSpec.{PartSpec}
use Rattle.nook_data.specs.declared.steps.Event.{Event}
use Rattle.nook_data.specs.declared.steps.Step.{Step}
use Rattle.nook_data.specs.declared.steps.Step.TheVariants as step
use Rattle.part_defs.specs.Domain.{context_of, machine_of}
use Rattle.part_defs.specs.Runs.{IsRun, event_of, state_after, state_from, state_of, step_of}
use Rattle.part_defs.specs.State.{PartState}
use Rattle.part_defs.specs.Steps.{opening}
use Rattle.part_laws.proofs.RunSmall.{run_few_bursts}
use Rattle.part_laws.proofs.ValidFits.{valid_fits}
use Rattle.part_laws.specs.Fit.{IsFitSpec}
use Rattle.promise_defs.specs.Contract.{Known, broken, known_after}

-- ---- the faults of a burst

put_valid : (burst after : ℕ) → 1 ≤ burst → burst < 2 ^ 32 → after ≤ 4095 → (kind : FaultKind) → IsValidKind kind
    → IsValidFault (put_at burst after kind)
put_valid burst after first low index kind is = record { burst = (first, low); after = index; kind = is }

kinds_valid : (kinds : List FaultKind) (burst after : ℕ) → 1 ≤ burst → burst < 2 ^ 32 → after ≤ 4095 → All IsValidKind kinds
    → All IsValidFault (map (put_at burst after) kinds)
kinds_valid kinds burst after first low index are =
    All-map IsValidFault (put_at burst after) kinds
    (All-weaker IsValidKind (λ kind. IsValidFault (put_at burst after kind)) (put_valid burst after first low index) kinds are)

burst_valid : (kinds : List FaultKind) (burst after turns : ℕ) → 1 ≤ burst → burst < 2 ^ 32 → after + turns ≤ 4096
    → All IsValidKind kinds → All IsValidFault (faults_in kinds burst after turns)
unfolding faults_in
burst_valid kinds burst after zero first low index are = All-nil IsValidFault
burst_valid kinds burst after (suc turns) first low index are =
    All-append IsValidFault (map (put_at burst after) kinds) (faults_in kinds burst (after + 1) turns)
    (kinds_valid kinds burst after first low (omega (arith, index)) are)
    (burst_valid kinds burst (after + 1) turns first low (omega (arith, index)) are)

-- ---- the instructions before which one more fault strikes

few_turns : (p : PartState) (o : Option Context) → turns_made p o ≤ 4096
few_turns p None = omega arith
few_turns p (Some x) = turns_high 4096 p.domain.entries (faults_of_burst (p.bursts + 1) p.spec.faults) (machine_of x p.domain) []

few_open : (context : ℕ) (p : PartState) (k : Known) → open_turns p context (guard p k (step.Burst context)) ≤ 4096
few_open context p k = by_clauses (broken k (event_of p (step.Burst context))) refl
  where
    by_clauses : (cs : List Clause) → broken k (event_of p (step.Burst context)) ≡ cs
        → open_turns p context (trap_for cs (guard_trap context p k)) ≤ 4096
    by_clauses [] none = few_turns p (context_of context p.domain.contexts)
    by_clauses (c ∷ more) some =
        let low : (guard_trap context p k).after < 4096 = (stopped context p k c more some).within in omega (arith, low)

-- ---- the faults of a step

step_valid : (kinds : List FaultKind) (p : PartState) (o : Option Fault) (s : Step) → p.bursts + cond (is_burst_step s) 1 0 < 2 ^ 32
    → ((context : ℕ) → s ≡ step.Burst context → open_turns p context o ≤ 4096) → All IsValidKind kinds
    → All IsValidFault (faults_of_step kinds p o s)
step_valid kinds p o (step.Invoke thread op) low few are = All-nil IsValidFault
step_valid kinds p o (step.Enter thread) low few are = All-nil IsValidFault
step_valid kinds p o step.Stage low few are = All-nil IsValidFault
step_valid kinds p o (step.Arrive frame) low few are = All-nil IsValidFault
step_valid kinds p o (step.Burst context) low few are =
    let turns : open_turns p context o ≤ 4096 = few context refl in
    burst_valid kinds (p.bursts + 1) 0 (open_turns p context o) (omega arith) (omega (arith, low)) (omega (arith, turns)) are

-- ---- the faults of a run

rises : (p : PartState) (events : List Event) → p.bursts ≤ (state_from p events).bursts
unfolding state_from
rises p [] = omega arith
rises p (e ∷ events) =
    let next : PartState = state_after p (step_of e) in
    let one : next.bursts ≡ p.bursts + cond (is_burst_step (step_of e)) 1 0 = bursts_after p (step_of e) in
    let more : next.bursts ≤ (state_from next events).bursts = rises next events in
    omega (arith, one, more)

from_valid : (kinds : List FaultKind) (p : PartState) (events : List Event) → (state_from p events).bursts < 2 ^ 32
    → All IsValidKind kinds → All IsValidFault (every_from kinds p events)
unfolding every_from state_from
from_valid kinds p [] low are = All-nil IsValidFault
from_valid kinds p (e ∷ events) low are =
    let next : PartState = state_after p (step_of e) in
    let one : next.bursts ≡ p.bursts + cond (is_burst_step (step_of e)) 1 0 = bursts_after p (step_of e) in
    let more : next.bursts ≤ (state_from next events).bursts = rises next events in
    All-append IsValidFault (faults_of_step kinds p None (step_of e)) (every_from kinds next events)
    (step_valid kinds p None (step_of e) (omega (arith, one, more, low))
    (λ context is. few_turns p (context_of context p.domain.contexts)) are)
    (from_valid kinds next events low are)

pub every_is_valid : (kinds : List FaultKind) (spec : PartSpec) (journal : List Event) → IsValidPart spec → IsRun spec journal
    → All IsValidKind kinds → All IsValidFault (every_fault kinds spec journal)
every_is_valid kinds spec journal valid run are =
    let few : (state_of spec journal).bursts < 2 ^ 23 = run_few_bursts spec journal (valid_fits spec valid) valid.limit run in
    from_valid kinds (opening spec) journal (omega (arith, few)) are

-- ---- the faults of a guarded run

same_bursts : (p q : PartState) (s : Step) (o : Option Fault) → IsTrapOf p s o q → q.bursts ≡ p.bursts
same_bursts p q s None h = ap (λ (r : PartState). r.bursts) h
same_bursts p q s (Some f) h = ap (λ (r : PartState). r.bursts) h.2

-- the bursts after a guarded step
guarded_after : (p : PartState) (k : Known) (s : Step)
    → (state_after (guarded p k s) s).bursts ≡ p.bursts + cond (is_burst_step s) 1 0
guarded_after p k s =
    bursts_after (guarded p k s) s
    ∙ ap (λ (n : ℕ). n + cond (is_burst_step s) 1 0) (same_bursts p (guarded p k s) s (guard p k s) (trap_is p k s))

guarded_rises : (p : PartState) (k : Known) (events : List Event) → p.bursts ≤ (guarded_from p k events).bursts
unfolding guarded_from
guarded_rises p k [] = omega arith
guarded_rises p k (e ∷ events) =
    let next : PartState = state_after (guarded p k (step_of e)) (step_of e) in
    let one : next.bursts ≡ p.bursts + cond (is_burst_step (step_of e)) 1 0 = guarded_after p k (step_of e) in
    let more : next.bursts ≤ (guarded_from next (known_after k e) events).bursts = guarded_rises next (known_after k e) events in
    omega (arith, one, more)

guarded_from_valid : (kinds : List FaultKind) (p : PartState) (k : Known) (events : List Event)
    → (guarded_from p k events).bursts < 2 ^ 32 → All IsValidKind kinds → All IsValidFault (every_guarded_from kinds p k events)
unfolding every_guarded_from guarded_from
guarded_from_valid kinds p k [] low are = All-nil IsValidFault
guarded_from_valid kinds p k (e ∷ events) low are =
    let next : PartState = state_after (guarded p k (step_of e)) (step_of e) in
    let one : next.bursts ≡ p.bursts + cond (is_burst_step (step_of e)) 1 0 = guarded_after p k (step_of e) in
    let more : next.bursts ≤ (guarded_from next (known_after k e) events).bursts = guarded_rises next (known_after k e) events in
    All-append IsValidFault (faults_of_step kinds p (guard p k (step_of e)) (step_of e))
    (every_guarded_from kinds next (known_after k e) events)
    (step_valid kinds p (guard p k (step_of e)) (step_of e) (omega (arith, one, more, low))
    (λ context is. subst (λ (s : Step). open_turns p context (guard p k s) ≤ 4096) (sym is) (few_open context p k)) are)
    (guarded_from_valid kinds next (known_after k e) events low are)

pub every_guarded_is_valid : (kinds : List FaultKind) (spec : PartSpec) (journal : List Event) → IsValidPart spec
    → IsGuardedRun spec journal → All IsValidKind kinds → All IsValidFault (every_fault_guarded kinds spec journal)
every_guarded_is_valid kinds spec journal valid run are =
    let fits : IsFitSpec spec = valid_fits spec valid in
    let traps : List Fault = traps_of spec journal in
    let well : IsGuardedWell spec journal = guarded_well spec journal fits run in
    let few : (state_of (with_after traps spec) journal).bursts < 2 ^ 23 =
    run_few_bursts (with_after traps spec) journal (fit_following spec traps fits) valid.limit well.run in
    let same : (state_of (with_after traps spec) journal).bursts ≡ (guarded_at spec journal).bursts =
    ap (λ (p : PartState). p.bursts) well.state in
    guarded_from_valid kinds (opening spec) (known_at_first spec) journal (omega (arith, few, same)) are
