use Rattle.std.proofs.Common.{◌≡◌, ◌⊎◌, inl, inr, ℕ, ◌<◌, ◌≤◌, ◌==◌, nat_lt, not, is_some, true, false, Option, Some, None, List, [], ◌∷◌, refl, ap, ◌∙◌, subst, arith, true≢false}
use Rattle.std.specs.List.{list_any, AllByRecursion}
use Rattle.std.proofs.lemmas.Bool.{and_left, and_right, and_cases, and_from, or_from, eq-eqb, ne_eqb, le-ltb, both_ways}
use Rattle.nook_data.specs.declared.calls.CallEntry.{CallEntry}
use Rattle.nook_data.specs.declared.classes.Class.{Class}
use Rattle.nook_data.specs.declared.steps.Event.{Event}
use Rattle.nook_data.specs.declared.steps.Mode.{Mode}
use Rattle.nook_data.specs.declared.steps.Mode.TheVariants as mode
use Rattle.nook_data.specs.declared.scenario.PartSpec.{PartSpec}
use Rattle.nook_data.specs.declared.steps.Step.{Step}
use Rattle.nook_data.specs.declared.steps.Step.TheVariants as step
use Rattle.nook_data.specs.Classes.{conflicts}
use Rattle.part_defs.specs.Log.{call_of_thread, is_blocked, blocks_call}
use Rattle.std.specs.Option.{option_or}
use Rattle.part_defs.specs.Runs.{if_enabled, next_for, next_recovery, next_of_calls, next_any, state_from, IsRun}
use Rattle.part_defs.specs.Stages.{stage_due}
use Rattle.part_defs.specs.State.{PartState}
use Rattle.part_defs.specs.Steps.{opening, enabled, is_running, is_driven, is_ready, is_inside}
use Rattle.part_defs.proofs.NextSteps.{next_for_case, next_for_none}
use Rattle.machine_defs.proofs.BurstKeeps.{split}
use Rattle.part_laws.proofs.RunBound.{run_tied}
use Rattle.part_laws.proofs.StepsFit.{run_fit}
use Rattle.part_laws.proofs.TiedSteps.{threads_of_fit}
use Rattle.part_laws.specs.Fit.{IsFitSpec, IsFit}
use Rattle.part_laws.specs.Progress.{IsStill, HasProgress}
use Rattle.part_laws.specs.Tied.{IsRising, IsTiedCall, IsTied}
use Rattle.nook_data.proofs.Options.{none_is_some, same_inside}

-- Progress: if a call is open, some step may be taken.

-- the next step may be taken

IsOkNext : PartState → Option Step → Type 0
IsOkNext p o = (s : Step) → o ≡ Some s → enabled p s ≡ true

if_enabled_ok : (p : PartState) (s : Step) (others : Option Step) → IsOkNext p others → IsOkNext p (if_enabled p s others)
unfolding IsOkNext
if_enabled_ok p s others ok s' h = split (enabled p s)
    (λ e. subst (λ x. enabled p x ≡ true) (same_inside (rw e at h)) e)
    (λ e. ok s' (rw e at h))

or_step_ok : (p : PartState) (a b : Option Step) → IsOkNext p a → IsOkNext p b → IsOkNext p (option_or a b)
unfolding IsOkNext
or_step_ok p None b oka okb = okb
or_step_ok p (Some s) b oka okb = oka

none_ok : (p : PartState) → IsOkNext p None
unfolding IsOkNext
none_ok p s h = none_is_some h

next_for_ok : (p : PartState) (thread : ℕ) → IsOkNext p (next_for p thread)
unfolding IsOkNext
next_for_ok p thread next h = next_for_case (λ s. enabled p s ≡ true) p thread next (λ may. may) (λ may. may) h

next_recovery_ok : (p : PartState) → IsOkNext p (next_recovery p)
unfolding next_recovery
next_recovery_ok p =
    if_enabled_ok p step.Stage (if_enabled p (step.Burst 16) None) (if_enabled_ok p (step.Burst 16) None (none_ok p))

next_of_calls_ok : (p : PartState) (calls : List CallEntry) → IsOkNext p (next_of_calls p calls)
next_of_calls_ok p [] = none_ok p
next_of_calls_ok p (c ∷ calls) = or_step_ok p (next_for p c.thread) (next_of_calls p calls) (next_for_ok p c.thread) (next_of_calls_ok p calls)

pub next_enabled : (p : PartState) (s : Step) → next_any p ≡ Some s → enabled p s ≡ true
unfolding next_any IsOkNext
next_enabled p s h =
    or_step_ok p (next_recovery p) (next_of_calls p p.log.pending) (next_recovery_ok p) (next_of_calls_ok p p.log.pending) s h

-- if there is none

or_none : (a b : Option Step) → option_or a b ≡ None → (a ≡ None) × (b ≡ None)
or_none None b h = (refl, h)
or_none (Some s) b h = cc

if_none : (p : PartState) (s : Step) (others : Option Step) → if_enabled p s others ≡ None → (enabled p s ≡ false) × (others ≡ None)
if_none p s others h = split (enabled p s)
    (λ e. not_none (rw e at h))
    (λ e. (e, rw e at h))
  where
    not_none : {G : Type 0} → Some s ≡ None → G
    not_none h = cc

above_not_blocking : (class : Class) (c : CallEntry) (low count : ℕ) (pending : List CallEntry) → c.call ≤ low → IsRising low count pending
    → list_any (blocks_call class c) pending ≡ false
above_not_blocking class c low count [] h r = refl
above_not_blocking class c low count (d ∷ pending) h r =
    let a : low < d.call = r.0 in
    or_from (blocks_call class c d) (list_any (blocks_call class c) pending)
    (and_left (nat_lt d.call c.call) (conflicts class c.op d.op) (le-ltb d.call c.call (omega arith)))
    (above_not_blocking class c d.call count pending (omega arith) r.2)

first_not_blocked : (class : Class) (c : CallEntry) (low count : ℕ) (pending : List CallEntry) → IsRising low count (c ∷ pending)
    → is_blocked class c (c ∷ pending) ≡ false
first_not_blocked class c low count pending r =
    or_from (blocks_call class c c) (list_any (blocks_call class c) pending)
    (and_left (nat_lt c.call c.call) (conflicts class c.op c.op) (le-ltb c.call c.call (omega arith)))
    (above_not_blocking class c c.call count pending (omega arith) r.2)

first_found : (c : CallEntry) (pending : List CallEntry) → call_of_thread c.thread (c ∷ pending) ≡ Some c
first_found c pending = rw (eq-eqb c.thread c.thread refl)

first_enabled : (p : PartState) (c : CallEntry) (pending : List CallEntry) → p.log.pending ≡ c ∷ pending → p.mode ≡ mode.Running
    → IsRising 0 p.log.count (c ∷ pending) → c.thread < 16
    → (enabled p (step.Enter c.thread) ≡ true) ⊎ (enabled p (step.Burst c.thread) ≡ true)
unfolding enabled
first_enabled p c pending e running r low =
    let found : call_of_thread c.thread p.log.pending ≡ Some c = ap (call_of_thread c.thread) e ∙ first_found c pending in
    let runs : is_running p.mode ≡ true = ap is_running running in
    split c.inside
    (λ inside. inr (rw (ne_eqb c.thread 16 (λ s. apart c.thread low s))
    (and_from (is_running p.mode) (is_inside (call_of_thread c.thread p.log.pending)) runs (ap is_inside found ∙ inside))))
    (λ held. inl (and_from (is_running p.mode) (is_ready p (call_of_thread c.thread p.log.pending)) runs
    (ap (is_ready p) found
    ∙ and_from (not c.inside) (not (is_blocked p.spec.class c p.log.pending)) (ap not held)
    (ap not (ap (is_blocked p.spec.class c) e ∙ first_not_blocked p.spec.class c 0 p.log.count pending r)))))
  where
    apart : (t : ℕ) → t < 16 → t ≡ 16 → ⊥
    apart t h e = omega arith

not_due : (p : PartState) → enabled p step.Stage ≡ false → enabled p (step.Burst 16) ≡ false → is_some (stage_due p.mode) ≡ false
unfolding enabled
not_due p a b = elim (and_cases (is_some (stage_due p.mode)) (not (is_driven p)) a) [
  | inl none' ↦ none'
  | inr driven ↦ absurd (both_ways (not (is_driven p)) driven (ap not b))
]

no_call_open : (p : PartState) (pending : List CallEntry) (m : Mode) → IsFit p → IsTied p → p.log.pending ≡ pending → p.mode ≡ m
    → is_some (stage_due m) ≡ false → next_of_calls p pending ≡ None → p.log.pending ≡ []
no_call_open p [] m f t e mode' due none' = e
no_call_open p (c ∷ pending) (mode.Boot s) f t e mode' due none' = absurd (true≢false due)
no_call_open p (c ∷ pending) (mode.Recovering s) f t e mode' due none' = absurd (true≢false due)
no_call_open p (c ∷ pending) (mode.Dead collected) f t e mode' due none' =
    absurd ((subst (λ xs. AllByRecursion (IsTiedCall (mode.Dead collected) p.failures p.domain.contexts) xs) e
    (subst (λ m. AllByRecursion (IsTiedCall m p.failures p.domain.contexts) p.log.pending) mode' t.calls)).0)
no_call_open p (c ∷ pending) mode.Running f t e mode' due none' =
    let mine = or_none (next_for p c.thread) (next_of_calls p pending) none' in
    let found : call_of_thread c.thread p.log.pending ≡ Some c = ap (call_of_thread c.thread) e ∙ first_found c pending in
    let neither = next_for_none p c.thread c found mine.0 in
    let low : c.thread < 16 = (subst (λ xs. AllByRecursion (λ z. z.thread < 16) xs) e (threads_of_fit p f)).0 in
    elim (first_enabled p c pending e mode' (subst (IsRising 0 p.log.count) e t.rising) low) [
      | inl h ↦ absurd (both_ways (enabled p (step.Enter c.thread)) neither.0 h)
      | inr h ↦ absurd (both_ways (enabled p (step.Burst c.thread)) neither.1 h)
    ]

still_enter : (p : PartState) (thread : ℕ) → p.log.pending ≡ [] → enabled p (step.Enter thread) ≡ false
unfolding enabled
still_enter p thread e =
    and_right (is_running p.mode) (is_ready p (call_of_thread thread p.log.pending)) (ap (λ (xs : List CallEntry). is_ready p (call_of_thread thread xs)) e)

still_burst : (p : PartState) (context : ℕ) → p.log.pending ≡ [] → enabled p (step.Burst 16) ≡ false → enabled p (step.Burst context) ≡ false
unfolding enabled
still_burst p context e own = split (context == 16)
    (λ same. rw same own)
    (λ other. rw other (and_right (is_running p.mode) (is_inside (call_of_thread context p.log.pending))
    (ap (λ (xs : List CallEntry). is_inside (call_of_thread context xs)) e)))

pub none_still : (p : PartState) → IsFit p → IsTied p → next_any p ≡ None → IsStill p
unfolding next_any next_recovery
none_still p f t h =
    let parts = or_none (next_recovery p) (next_of_calls p p.log.pending) h in
    let stages = if_none p step.Stage (if_enabled p (step.Burst 16) None) parts.0 in
    let own = if_none p (step.Burst 16) None stages.1 in
    let calls : p.log.pending ≡ [] = no_call_open p p.log.pending p.mode f t refl refl (not_due p stages.0 own.0) parts.1 in
    record {
      calls = calls;
      stage = stages.0;
      enter = λ thread. still_enter p thread calls;
      burst = λ context. still_burst p context calls own.0;
    }

pub progress : (p : PartState) → IsFit p → IsTied p → HasProgress p
progress p f t = record { enabled = next_enabled p; still = none_still p f t }

pub run_progress : (spec : PartSpec) (journal : List Event) → IsFitSpec spec → IsRun spec journal
    → HasProgress (state_from (opening spec) journal)
run_progress spec journal s r =
    progress (state_from (opening spec) journal) (run_fit spec journal s r) (run_tied spec journal s r)
