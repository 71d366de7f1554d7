-- A step that a part may take is the choice of an actor, if the part knows what its threads wait for.
use Rattle.std.proofs.Common.{◌≡◌, ℕ, zero, suc, ◌+◌, ◌*◌, ◌==◌, ◌&&◌, not, is_some, if◌then◌else◌, Bool, true, false, Option, Some, None, List, [], ◌∷◌, length, slice_get, refl, sym, ap, ◌∙◌, subst, arith, eqb-true, true≢false}
use Rattle.std.proofs.lemmas.Bool.{and_parts}
use Rattle.nook_data.specs.declared.calls.CallEntry.{CallEntry}
use Rattle.nook_data.specs.declared.calls.Op.{Op}
use Rattle.nook_data.specs.declared.limits.TheConstants.{SHADOW}
use Rattle.nook_data.specs.declared.scenario.ThreadSpec.{ThreadSpec}
use Rattle.nook_data.specs.declared.steps.Event.{Event}
use Rattle.nook_data.specs.declared.steps.Event.TheVariants as event
use Rattle.nook_data.specs.declared.steps.Step.{Step}
use Rattle.nook_data.specs.declared.steps.Step.TheVariants as step
use Rattle.nook_data.proofs.Options.{none_is_some, same_inside}
use Rattle.part_defs.specs.Log.{call_of_thread, is_blocked}
use Rattle.part_defs.specs.Runs.{if_enabled, next_for, next_recovery, step_of}
use Rattle.part_defs.specs.Stages.{stage_due}
use Rattle.part_defs.specs.State.{PartState}
use Rattle.part_defs.specs.Steps.{can_burst, enabled, is_driven, is_inside, is_ready, is_running}
use Rattle.part_laws.proofs.Indices.{split}
use Rattle.run_defs.specs.Simulation.{RunningPart, Simulation, ThreadState, Waiting, arrival, choices_of, going_on, invocation}
use Rattle.run_defs.proofs.ChoicesInOrder.{with_choice, with_invocation, with_thread}
use Rattle.run_laws.proofs.Numbers.{number, number_found}
use Rattle.run_laws.proofs.Threads.{AreThreadsOf, IsThreadOf, waits_in}
use Rattle.run_laws.specs.Audit.{arrival_of}
use Rattle.threaded_run.proofs.Counted.{if_false, if_true}
use Rattle.order_defs.specs.Taking.{IsNextOf, IsTimely}
use Rattle.order_laws.proofs.Chosen.{Finds, arrival_found, recovery_found, thread_found}

-- ---- what comes next in a part

some_call : {C : Type 0} (f : CallEntry → Bool) (o : Option CallEntry) → elim o as (λ x. Bool) [ None ↦ false | Some c ↦ f c ] ≡ true
    → ((c : CallEntry) → o ≡ Some c → f c ≡ true → C) → C
some_call f None h use_it = absurd (true≢false (sym h))
some_call f (Some c) h use_it = use_it c refl h

-- a thread's next step, with the number of its open call
record IsNextOfCall (p : PartState) (thread : ℕ) (x : Step) : Type 0 where
  call : ℕ
  open_call : number thread p.log.pending ≡ Some call
  next : next_for p thread ≡ Some x

enter_next : (p : PartState) (thread : ℕ) → enabled p (step.Enter thread) ≡ true → IsNextOfCall p thread (step.Enter thread)
unfolding enabled next_for
enter_next p thread may =
    let ready : is_ready p (call_of_thread thread p.log.pending) ≡ true = (and_parts (is_running p.mode) (is_ready p (call_of_thread thread p.log.pending)) may).1 in
    some_call (λ c. not c.inside && not (is_blocked p.spec.class c p.log.pending)) (call_of_thread thread p.log.pending) ready
    (λ c found free. record { call = c.call; open_call = number_found thread p.log.pending c found; next = next_is c found })
  where
    next_is : (c : CallEntry) → call_of_thread thread p.log.pending ≡ Some c → next_for p thread ≡ Some (step.Enter thread)
    next_is c found =
        if_true (is_some (call_of_thread thread p.log.pending)) (if_enabled p (step.Enter thread) (if_enabled p (step.Burst thread) None)) None (ap is_some found)
        ∙ if_true (enabled p (step.Enter thread)) (Some (step.Enter thread)) (if_enabled p (step.Burst thread) None) may

burst_next : (p : PartState) (thread : ℕ) → (thread == SHADOW) ≡ false → enabled p (step.Burst thread) ≡ true → IsNextOfCall p thread (step.Burst thread)
unfolding enabled next_for
burst_next p thread other may =
    let both : (is_running p.mode && is_inside (call_of_thread thread p.log.pending)) ≡ true =
    sym (if_false (thread == SHADOW) (is_driven p) (is_running p.mode && is_inside (call_of_thread thread p.log.pending)) other) ∙ may in
    some_call (λ c. c.inside) (call_of_thread thread p.log.pending) (and_parts (is_running p.mode) (is_inside (call_of_thread thread p.log.pending)) both).1
    (λ c found inside. record { call = c.call; open_call = number_found thread p.log.pending c found; next = next_is c found inside })
  where
    not_ready : (c : CallEntry) → c.inside ≡ true → is_ready p (Some c) ≡ false
    not_ready c inside = rw inside refl

    and_false : (a b : Bool) → b ≡ false → (a && b) ≡ false
    and_false true b h = h
    and_false false b h = refl

    next_is : (c : CallEntry) → call_of_thread thread p.log.pending ≡ Some c → c.inside ≡ true → next_for p thread ≡ Some (step.Burst thread)
    next_is c found inside =
        let not_entered : enabled p (step.Enter thread) ≡ false =
        and_false (is_running p.mode) (is_ready p (call_of_thread thread p.log.pending)) (ap (is_ready p) found ∙ not_ready c inside) in
        if_true (is_some (call_of_thread thread p.log.pending)) (if_enabled p (step.Enter thread) (if_enabled p (step.Burst thread) None)) None (ap is_some found)
        ∙ if_false (enabled p (step.Enter thread)) (Some (step.Enter thread)) (if_enabled p (step.Burst thread) None) not_entered
        ∙ if_true (enabled p (step.Burst thread)) (Some (step.Burst thread)) None may

shadow_next : (p : PartState) (context : ℕ) → (context == SHADOW) ≡ true → enabled p (step.Burst context) ≡ true → next_recovery p ≡ Some (step.Burst context)
unfolding next_recovery enabled
shadow_next p context shadow may =
    let is : context ≡ SHADOW = eqb-true context SHADOW shadow in
    let driven : is_driven p ≡ true = sym (if_true (context == SHADOW) (is_driven p) (is_running p.mode && is_inside (call_of_thread context p.log.pending)) shadow) ∙ may in
    let no_stage : enabled p step.Stage ≡ false = and_not (is_some (stage_due p.mode)) (is_driven p) driven in
    if_false (enabled p step.Stage) (Some step.Stage) (if_enabled p (step.Burst SHADOW) None) no_stage
    ∙ if_true (enabled p (step.Burst SHADOW)) (Some (step.Burst SHADOW)) None (subst (λ (k : ℕ). can_burst p k ≡ true) is may)
    ∙ ap {B = Option Step} (λ (k : ℕ). Some (step.Burst k)) (sym is)
  where
    and_not : (a b : Bool) → b ≡ true → (a && not b) ≡ false
    and_not true b h = rw h refl
    and_not false b h = refl

stage_next : (p : PartState) → enabled p step.Stage ≡ true → next_recovery p ≡ Some step.Stage
unfolding next_recovery
stage_next p may = if_true (enabled p step.Stage) (Some step.Stage) (if_enabled p (step.Burst 16) None) may

arrival_next : (seat : RunningPart) (frame : List ℕ) (coming : List (List ℕ)) → seat.coming ≡ coming → arrival_of coming ≡ Some (step.Arrive frame)
    → enabled seat.run.state (step.Arrive frame) ≡ true → arrival seat.run seat.coming ≡ Some (step.Arrive frame)
arrival_next seat frame [] is next may = none_is_some next
arrival_next seat frame (first ∷ coming) is next may =
    let same : step.Arrive first ≡ step.Arrive frame = same_inside next in
    ap (arrival seat.run) is
    ∙ ap {B = Option Step} (λ (x : Step). if enabled seat.run.state x then Some x else None) same
    ∙ if_true (enabled seat.run.state (step.Arrive frame)) (Some (step.Arrive frame)) None may

-- ---- the actor

-- an actor has the step
pub record IsAble (s : Simulation) (k : ℕ) (x : Step) : Type 0 where
  pub actor : ℕ
  pub finds : Finds actor (record { actor = actor; part = k; step = x }) (choices_of s)

pub thread_at : (parts : List RunningPart) (n : ℕ) (specs : List ThreadSpec) (threads : List ThreadState) (k : ℕ) (t : ThreadState) → AreThreadsOf parts n specs threads
    → slice_get threads k ≡ Some t → (spec : ThreadSpec) × IsThreadOf parts (n + k) spec t
thread_at parts n [] [] k t are h = none_is_some h
thread_at parts n [] (x ∷ threads) k t are h = absurd are
thread_at parts n (spec ∷ specs) [] k t are h = absurd are
thread_at parts n (spec ∷ specs) (x ∷ threads) zero t are h =
    (spec, subst (λ (m : ℕ). IsThreadOf parts m spec t) (plus n) (subst (IsThreadOf parts n spec) (same_inside h) are.0))
  where
    plus : (n : ℕ) → n ≡ n + 0
    plus n = omega arith
thread_at parts n (spec ∷ specs) (x ∷ threads) (suc k) t are h =
    let more = thread_at parts (n + 1) specs threads k t are.1 h in
    (more.0, subst (λ (m : ℕ). IsThreadOf parts m more.0 t) (plus n k) more.1)
  where
    plus : (n k : ℕ) → n + 1 + k ≡ n + suc k
    plus n k = omega arith

module _ (specs : List ThreadSpec) (s : Simulation) (are : AreThreadsOf s.parts 0 specs s.threads) (k : ℕ) (seat : RunningPart) (at : slice_get s.parts k ≡ Some seat)
    (outside : (i : ℕ) → slice_get s.threads i ≡ None → number i seat.run.state.log.pending ≡ None) where
  -- the thread whose call is open waits for it
  waits_here : (w : Option Waiting) (call : ℕ) → waits_in k w ≡ Some call → (x : Waiting) × (w ≡ Some x) × (x.part ≡ k)
  waits_here None call h = none_is_some h
  waits_here (Some x) call h = split (x.part == k)
      (λ here. (x, refl, eqb-true x.part k here))
      (λ other. none_is_some (sym (if_false (x.part == k) (Some x.call) None other) ∙ h))

  goes_on : (i : ℕ) (x : Step) → IsNextOfCall seat.run.state i x → IsAble s k x
  goes_on i x next = by_thread (slice_get s.threads i) refl
    where
      none : (n : ℕ) → 0 + n ≡ n
      none n = omega arith

      by_thread : (q : Option ThreadState) → slice_get s.threads i ≡ q → IsAble s k x
      by_thread None e = none_is_some (sym (outside i e) ∙ next.open_call)
      by_thread (Some t) e =
          let is = thread_at s.parts 0 specs s.threads i t are e in
          let waits : number i seat.run.state.log.pending ≡ waits_in k t.waiting =
          subst (λ (n : ℕ). number n seat.run.state.log.pending ≡ waits_in k t.waiting) (none i) (is.1.waits k seat at) in
          let w = waits_here t.waiting next.call (sym waits ∙ next.open_call) in
          record {
            actor = i;
            finds = thread_found s i (record { actor = i; part = k; step = x }) t refl e (λ others.
                ap (λ (o : Option Waiting). with_thread i s.parts t o others) w.1
                ∙ ap (λ (p : ℕ). with_choice i p (going_on i (slice_get s.parts p)) others) w.2
                ∙ ap (λ q. with_choice i k (going_on i q) others) at
                ∙ ap (λ q. with_choice i k q others) next.next);
          }

  invokes : (i : ℕ) (o : Op) → IsNextOf s.threads i k o → enabled seat.run.state (step.Invoke i o) ≡ true → IsAble s k (step.Invoke i o)
  invokes i o h may = record {
    actor = i;
    finds = thread_found s i (record { actor = i; part = k; step = step.Invoke i o }) h.t refl h.at (λ others.
        ap (λ (w : Option Waiting). with_thread i s.parts h.t w others) h.free
        ∙ ap (λ r. with_invocation i s.parts r others) h.next
        ∙ ap (λ q. with_choice i k (invocation i o q) others) at
        ∙ ap (λ q. with_choice i k q others) (if_true (enabled seat.run.state (step.Invoke i o)) (Some (step.Invoke i o)) None may));
  }

  recovers : (x : Step) → next_recovery seat.run.state ≡ Some x → IsAble s k x
  recovers x next = record { actor = length s.threads + 2 * k; finds = recovery_found s k seat x at next }

  -- an event that may be taken is the choice of an actor
  pub able : (e : Event) → IsTimely s.threads k e → enabled seat.run.state (step_of e) ≡ true
      → ((frame : List ℕ) → step_of e ≡ step.Arrive frame → arrival_of seat.coming ≡ Some (step.Arrive frame)) → IsAble s k (step_of e)
  able (event.Invoke call i o a) timely may coming = invokes i o timely may
  able (event.Enter call i attempt a) timely may coming = goes_on i (step.Enter i) (enter_next seat.run.state i may)
  able (event.Burst context call burst count end acts a failure) timely may coming = split (context == SHADOW)
      (λ shadow. recovers (step.Burst context) (shadow_next seat.run.state context shadow may))
      (λ other. goes_on context (step.Burst context) (burst_next seat.run.state context other may))
  able (event.Stage stage answers released) timely may coming = recovers step.Stage (stage_next seat.run.state may)
  able (event.Arrive frame kept) timely may coming =
      record { actor = length s.threads + 2 * k + 1; finds = arrival_found s k seat (step.Arrive frame) at (arrival_next seat frame seat.coming refl (coming frame refl) may) }
