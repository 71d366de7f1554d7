-- What a step that may be taken may rely on, by what holds of every part.
use Rattle.std.proofs.Common.{◌≡◌, ℕ, ◌+◌, ◌≤◌, ◌<◌, ◌^◌, true, false, Bool, Option, Some, None, List, IfSome, IsSome, refl, sym, ap, ◌∙◌, arith, true≢false, length}
use Rattle.std.specs.List.{list_any}
use Rattle.std.proofs.lemmas.Bool.{and_parts}
use Rattle.part_laws.proofs.PartFacts.{burst_context_low, burst_context_goes_on, GoesOnWith, checked_read_count, checked_set_key, open_call_attempts, open_call_checked, open_call_fits_buffer, open_call_of_class, open_call_on_disk, open_call_thread, open_call_thread_low}
use Rattle.part_laws.proofs.StepLoans.{enter_free, due_free}
use Rattle.part_laws.specs.Loans.{is_unsettled}
use Rattle.nook_data.specs.declared.calls.CallEntry.{CallEntry}
use Rattle.nook_data.specs.declared.classes.Class.{Class}
use Rattle.nook_data.specs.declared.calls.Op.{Op}
use Rattle.nook_data.specs.declared.calls.Op.TheVariants as op
use Rattle.nook_data.specs.declared.steps.Stage.{Stage}
use Rattle.nook_data.specs.declared.steps.Stage.TheVariants as stage
use Rattle.nook_data.specs.declared.steps.Step.TheVariants as step
use Rattle.nook_data.specs.declared.machine.Context.{Context}
use Rattle.nook_data.specs.Classes.{static_check}
use Rattle.part_defs.specs.Domain.{attempt_bursts, context_of}
use Rattle.part_defs.proofs.PartCases.{bursts_of}
use Rattle.machine_defs.specs.Entries.{is_buffer_of}
use Rattle.part_defs.specs.Log.{call_of_thread}
use Rattle.part_defs.specs.Stages.{stage_due}
use Rattle.part_defs.specs.State.{PartState}
use Rattle.part_defs.specs.Steps.{enabled, is_ready, is_running}
use Rattle.part_core.specs.Crossings.{IsAnswerable, IsCrossable, IsWithin}
use Rattle.part_core.specs.Entering.{IsEnterable, IsEnterableCall}
use Rattle.part_core.specs.Kept.{IsSound}
use Rattle.part_core.specs.Staging.{IsReady}
use Rattle.part_laws.specs.Tied.{is_driving_stage}

-- Enter

some_open : (p : PartState) (found : Option CallEntry) → is_ready p found ≡ true → IsSome found
some_open p None ready = absurd (true≢false (sym ready))
some_open p (Some c) ready = search tt

is_open : (p : PartState) (thread : ℕ) → enabled p (step.Enter thread) ≡ true → IsSome (call_of_thread thread p.log.pending)
unfolding enabled
is_open p thread e =
    some_open p (call_of_thread thread p.log.pending) (and_parts (is_running p.mode) (is_ready p (call_of_thread thread p.log.pending)) e).1

free_for : (p : PartState) (thread other : ℕ) → other ≡ thread → list_any (is_buffer_of thread) p.domain.entries ≡ false
    → list_any (is_buffer_of other) p.domain.entries ≡ false
free_for p thread other e free = rw e free

enterable_call : (p : PartState) (thread : ℕ) (found : Option CallEntry) → call_of_thread thread p.log.pending ≡ found → IsSound p
    → enabled p (step.Enter thread) ≡ true → IfSome found (IsEnterableCall p)
enterable_call p thread None e k n = tt
enterable_call p thread (Some c) e k n = record {
  low = let low : c.thread < 16 = open_call_thread_low p k.fit thread c e in omega arith;
  of_class = open_call_of_class p k.fit thread c e;
  few = open_call_fits_buffer p k.fit thread c e;
  attempts =
      let most : c.attempts ≤ p.failures + 1 = open_call_attempts p k.tied thread c e in
      let failures : p.failures ≤ p.spec.limit + 1 = k.tied.limit in
      let limit : p.spec.limit ≤ 16 = k.limit in
      omega arith;
  free = free_for p thread c.thread (open_call_thread thread p.log.pending c e) (enter_free p thread k.fit k.tied k.loans n);
}

pub enterable : (p : PartState) (thread : ℕ) → IsSound p → enabled p (step.Enter thread) ≡ true → IsEnterable thread p
enterable p thread k n = record {
  some = is_open p thread n;
  call = enterable_call p thread (call_of_thread thread p.log.pending) refl k n;
}

-- Burst

within : (c : Class) (blocks : ℕ) (o : Op) → static_check c blocks o ≡ None → IsWithin o
within c blocks (op.Read first count) h = checked_read_count c blocks first count h
within c blocks (op.Write first words) h = tt
within c blocks (op.Send frame) h = tt
within c blocks op.Recv h = tt
within c blocks op.Open h = tt
within c blocks (op.Play samples) h = tt
within c blocks op.Close h = tt
within c blocks (op.Get key) h = tt
within c blocks (op.Set key value) h = checked_set_key c blocks key value h

answerable : (p : PartState) (context : ℕ) (found : Option CallEntry) → call_of_thread context p.log.pending ≡ found → IsSound p
    → IfSome found (IsAnswerable p.spec.class)
answerable p context None e k = tt
answerable p context (Some c) e k = record {
  low = let low : c.thread < 16 = open_call_thread_low p k.fit context c e in omega arith;
  of_class = open_call_of_class p k.fit context c e;
  range =
      let most = open_call_on_disk p k.fit context c e in
      let few : p.spec.blocks ≤ 256 = k.blocks in
      omega arith;
  within = within p.spec.class p.spec.blocks c.op (open_call_checked p k.fit context c e);
}

failures_low : (p : PartState) → IsSound p → p.failures < 2 ^ 31
failures_low p k =
    let failures : p.failures ≤ p.spec.limit + 1 = k.tied.limit in
    let limit : p.spec.limit ≤ 16 = k.limit in
    omega arith

pub crossable : (p : PartState) (context : ℕ) → IsSound p → enabled p (step.Burst context) ≡ true → IsCrossable context p
crossable p context k n = record {
  low = let low : context ≤ 16 = burst_context_low p context k.fit n in omega arith;
  failures = failures_low p k;
  call = answerable p context (call_of_thread context p.log.pending) refl k;
}

few_of : (x : Option Context) → GoesOnWith x → bursts_of x < 32
few_of x g = let few : g.0.bursts ≤ 31 = g.2 in let less : g.0.bursts < 32 = omega arith in rw (g.1) less

pub attempt_low : (p : PartState) (context : ℕ) → IsSound p → enabled p (step.Burst context) ≡ true → attempt_bursts context p.domain < 32
attempt_low p context k n = few_of (context_of context p.domain.contexts) (burst_context_goes_on p context k.tied n)

-- Stage

settled : (s : Stage) → is_driving_stage s ≡ true → is_unsettled s ≡ false
settled stage.Stop d = absurd (true≢false (sym d))
settled stage.Collect d = absurd (true≢false (sym d))
settled stage.Reset d = refl
settled stage.Load d = refl
settled stage.Init d = refl
settled (stage.ReplaySet key value) d = refl
settled stage.ReplayOpen d = refl
settled stage.Resume d = refl

ready_for : (p : PartState) (due : Option Stage) → stage_due p.mode ≡ due → IsSound p → IfSome due (λ s. IsReady s p)
ready_for p None e k = tt
ready_for p (Some s) e k = record {
  defaults = k.fit.log.defaults;
  text = k.fit.spec.text;
  initial = k.fit.spec.initial;
  free = λ d. due_free p s 16 k.loans e (settled s d);
}

pub ready : (p : PartState) → IsSound p → IfSome (stage_due p.mode) (λ s. IsReady s p)
ready p k = ready_for p (stage_due p.mode) refl k
