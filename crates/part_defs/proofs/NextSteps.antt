-- What a thread's next step is, and when it has none.
use Rattle.std.proofs.Common.{◌≡◌, ℕ, Bool, true, false, is_some, if◌then◌else◌, Option, Some, None, refl, subst}
use Rattle.nook_data.specs.declared.calls.CallEntry.{CallEntry}
use Rattle.nook_data.specs.declared.steps.Step.{Step}
use Rattle.nook_data.specs.declared.steps.Step.TheVariants as step
use Rattle.part_defs.specs.Log.{call_of_thread}
use Rattle.part_defs.specs.Runs.{if_enabled, next_for}
use Rattle.part_defs.specs.State.{PartState}
use Rattle.part_defs.specs.Steps.{enabled}
use Rattle.nook_data.proofs.Options.{same_inside}

-- the returned step is the first, which may be taken, or one of the others
pub if_enabled_case : (P : Step → Type 0) (p : PartState) (first next : Step) (others : Option Step)
    → (enabled p first ≡ true → P first) → (others ≡ Some next → P next) → if_enabled p first others ≡ Some next → P next
if_enabled_case P p first next others here more h = by_test (enabled p first) refl h
  where
    by_test : (b : Bool) → enabled p first ≡ b → (if b then Some first else others) ≡ Some next → P next
    by_test true may e = subst P (same_inside e) (here may)
    by_test false may e = more e

-- if no step is returned, the first may not be taken, and the others return none
if_enabled_none : (p : PartState) (first : Step) (others : Option Step) → if_enabled p first others ≡ None → (enabled p first ≡ false) × (others ≡ None)
if_enabled_none p first others h = by_test (enabled p first) refl h
  where
    by_test : (b : Bool) → enabled p first ≡ b → (if b then Some first else others) ≡ None → (enabled p first ≡ false) × (others ≡ None)
    by_test true may e = cc
    by_test false may e = (may, e)

-- a thread's next step is an Enter or a Burst that may be taken
pub next_for_case : (P : Step → Type 0) (p : PartState) (thread : ℕ) (next : Step)
    → (enabled p (step.Enter thread) ≡ true → P (step.Enter thread)) → (enabled p (step.Burst thread) ≡ true → P (step.Burst thread))
    → next_for p thread ≡ Some next → P next
unfolding next_for
next_for_case P p thread next enters bursts h = by_call (is_some (call_of_thread thread p.log.pending)) h
  where
    by_call : (b : Bool)
        → (if b then if_enabled p (step.Enter thread) (if_enabled p (step.Burst thread) None) else None) ≡ Some next → P next
    by_call true e =
        if_enabled_case P p (step.Enter thread) next (if_enabled p (step.Burst thread) None) enters
        (if_enabled_case P p (step.Burst thread) next None bursts (λ no. cc)) e
    by_call false e = cc

-- a thread with an open call that has no next step may neither Enter nor Burst
pub next_for_none : (p : PartState) (thread : ℕ) (c : CallEntry) → call_of_thread thread p.log.pending ≡ Some c → next_for p thread ≡ None
    → (enabled p (step.Enter thread) ≡ false) × (enabled p (step.Burst thread) ≡ false)
unfolding next_for
next_for_none p thread c open_call h =
    let enter : (enabled p (step.Enter thread) ≡ false) × (if_enabled p (step.Burst thread) None ≡ None) =
    if_enabled_none p (step.Enter thread) (if_enabled p (step.Burst thread) None) (rw open_call at h) in
    (enter.0, (if_enabled_none p (step.Burst thread) None enter.1).0)

-- a thread without an open call has no next step
pub next_for_no_call : (p : PartState) (thread : ℕ) → call_of_thread thread p.log.pending ≡ None → next_for p thread ≡ None
unfolding next_for
next_for_no_call p thread no_call = rw no_call refl
