-- Each trap is needed.
use Rattle.std.proofs.Common.{◌≡◌, ℕ, suc, ◌+◌, true, Some, List, [], ◌∷◌, ◌++◌, length, fold, refl, ap, subst, ◌∙◌, arith}
use Rattle.nook_data.specs.Clauses.{clause_number}
use Rattle.nook_data.specs.declared.clause.Clause.{Clause}
use Rattle.nook_data.specs.declared.scenario.PartSpec.{PartSpec}
use Rattle.nook_data.specs.declared.steps.Event.{Event}
use Rattle.nook_data.specs.declared.steps.Step.TheVariants as step
use Rattle.guard_defs.specs.Guard.{IsGuardedFrom, IsGuardedRun, guarded, known_at_first, traps_of, with_after}
use Rattle.part_defs.specs.Runs.{IsRun, event_of, state_after, state_of, step_of}
use Rattle.part_defs.specs.State.{PartState}
use Rattle.part_defs.specs.Steps.{enabled, opening}
use Rattle.part_laws.proofs.RunsDetermined.{run_more}
use Rattle.part_laws.specs.Fit.{IsFitSpec}
use Rattle.promise_defs.specs.Contract.{Known, break_from, broken, first_break, known_after}
use Rattle.front_laws.specs.Guarded.{IsGuardedWell, IsNeeded, guarded_at, known_at}
use Rattle.front_laws.proofs.GuardRun.{guarded_well, step_kept}

-- the first break is at an event if those before it break nothing
breaks_last : (number : ℕ) (p : PartState) (k : Known) (front : List Event) (e : Event) (c : Clause) (more : List Clause) → IsGuardedFrom p k front
    → broken (fold known_after k front) e ≡ c ∷ more
    → break_from number k (front ++ e ∷ []) ≡ Some (record { event = number + length front; clause = clause_number c })
unfolding IsGuardedFrom break_from
breaks_last number p k [] e c more g h =
    rw (h, break_from) (ap (λ (n : ℕ). Some (record { event = n; clause = clause_number c })) (zero_more number))
  where
    zero_more : (n : ℕ) → n ≡ n + 0
    zero_more n = omega arith
breaks_last number p k (x ∷ front) e c more g h =
    rw (step_kept p k (step_of x) x refl g.1, break_from)
    (breaks_last (suc number) (state_after (guarded p k (step_of x)) (step_of x)) (known_after k x) front e c more g.2 h
    ∙ ap (λ (n : ℕ). Some (record { event = n; clause = clause_number c })) (one_more number (length front)))
  where
    one_more : (a b : ℕ) → suc a + b ≡ a + suc b
    one_more a b = omega arith

pub trap_needed : (spec : PartSpec) (front : List Event) (context : ℕ) (clause : Clause) (more : List Clause) → IsFitSpec spec
    → IsGuardedRun spec front → enabled (guarded_at spec front) (step.Burst context) ≡ true
    → broken (known_at spec front) (event_of (guarded_at spec front) (step.Burst context)) ≡ clause ∷ more
    → IsNeeded spec front context clause
unfolding first_break
trap_needed spec front context clause more fits g may h =
    let well : IsGuardedWell spec front = guarded_well spec front fits g in
    let with : PartSpec = with_after (traps_of spec front) spec in
    let grown : IsRun with (front ++ event_of (state_of with front) (step.Burst context) ∷ []) =
    run_more (opening with) front (step.Burst context) well.run
    (ap (λ (q : PartState). enabled q (step.Burst context)) well.state ∙ may) in
    record {
      run = subst (λ (q : PartState). IsRun with (front ++ event_of q (step.Burst context) ∷ [])) well.state grown;
      breaks_there = breaks_last 1 (opening spec) (known_at_first spec) front (event_of (guarded_at spec front) (step.Burst context)) clause more g h
          ∙ ap (λ (n : ℕ). Some (record { event = n; clause = clause_number clause })) (one_more (length front));
    }
  where
    one_more : (n : ℕ) → 1 + n ≡ suc n
    one_more n = omega arith
