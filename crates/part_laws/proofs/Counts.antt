use Rattle.std.proofs.Common.{◌≡◌, ℕ, ◌+◌, ◌<◌, ◌≤◌, ◌==◌, ◌&&◌, nat_lt, not, is_some, is_none, Bool, true, false, Option, Some, None, List, [], ◌∷◌, length, refl, sym, ap, ◌∙◌, subst, arith, true≢false, eqb-true}
use Rattle.std.specs.List.{AllByRecursion}
use Rattle.std.proofs.lemmas.Bool.{and_parts, not-true}
use Rattle.nook_data.specs.declared.classes.Admit.{Admit}
use Rattle.nook_data.specs.declared.classes.Admit.TheVariants as admits
use Rattle.nook_data.specs.declared.calls.Answer.{Answer}
use Rattle.nook_data.specs.declared.calls.CallEntry.{CallEntry}
use Rattle.nook_data.specs.declared.steps.Event.{Event}
use Rattle.nook_data.specs.declared.steps.Event.TheVariants as event
use Rattle.nook_data.specs.declared.steps.Mode.{Mode}
use Rattle.nook_data.specs.declared.steps.Mode.TheVariants as mode
use Rattle.nook_data.specs.declared.calls.Op.{Op}
use Rattle.nook_data.specs.declared.steps.Stage.{Stage}
use Rattle.nook_data.specs.declared.steps.Stage.TheVariants as stage
use Rattle.nook_data.specs.declared.steps.Step.{Step}
use Rattle.nook_data.specs.declared.steps.Step.TheVariants as step
use Rattle.nook_data.specs.declared.machine.Context.{Context}
use Rattle.machine_defs.specs.Burst.{burst}
use Rattle.part_defs.specs.Calls.{Stepped, after_invoke, invoked_with, answer_in, queue_in, after_enter, after_admit}
use Rattle.part_defs.proofs.PartCases.{burst_step, bursts_of, entered_by, invoked_by, reply_by, serve_by, stage_by}
use Rattle.part_defs.proofs.PartCases.{with_burst}
use Rattle.nook_data.specs.Classes.{static_check, admit}
use Rattle.nook_data.specs.declared.classes.Accept.{Accept}
use Rattle.nook_data.specs.declared.classes.Accept.TheVariants as accepts
use Rattle.nook_data.specs.declared.steps.End.{End}
use Rattle.nook_data.specs.declared.steps.FailCause.{FailCause}
use Rattle.nook_data.specs.declared.scenario.PartSpec.{PartSpec}
use Rattle.nook_data.specs.declared.machine.BadParam.{BadParam}
use Rattle.nook_data.specs.declared.machine.BurstEnd.{BurstEnd}
use Rattle.nook_data.specs.declared.machine.BurstEnd.TheVariants as ends
use Rattle.nook_data.specs.declared.machine.Service.{Service}
use Rattle.nook_data.specs.Classes.{accept}
use Rattle.part_defs.specs.Crossing.{Crossed, fails, failed_crossing, is_last, next_stage, is_accepted, shadow_replied}
use Rattle.part_defs.specs.Crossing.{closes_call, call_replied, after_crossing}
use Rattle.part_defs.specs.Domain.{first_argument, second_argument, attempt_bursts}
use Rattle.part_defs.specs.Log.{after_acknowledging, opening_log}
use Rattle.part_defs.specs.Runs.{step_of, event_of, state_after, state_from, IsRunFrom, IsRun}
use Rattle.machine_defs.specs.Services.{checked}
use Rattle.part_defs.specs.Steps.{opening}
use Rattle.std.proofs.Common.{add-zero, cond, Result, Ok, Err, nat_le}
use Rattle.nook_data.specs.declared.classes.Class.TheVariants as class
use Rattle.nook_data.specs.declared.steps.End.TheVariants as end
use Rattle.nook_data.specs.declared.steps.FailCause.TheVariants as fail
use Rattle.nook_data.specs.Classes.{same_class}
use Rattle.part_defs.specs.Crossing.{shadow_fault, stage_in}
use Rattle.std.proofs.lemmas.Bool.{ltb-true}
use Rattle.part_defs.specs.Domain.{context_of, DomainBurst, domain_burst}
use Rattle.part_defs.specs.Log.{with_call, with_answered_call, after_entering, after_answering, call_of_thread}
use Rattle.part_defs.specs.Log.{is_blocked}
use Rattle.part_defs.specs.Stages.{stage_due, is_given_up, stops, gives_up_part, collects, resets, loads_image, inits}
use Rattle.part_defs.specs.Stages.{replays_set, replays_open, resumes, stage_done, stage_stepped}
use Rattle.part_defs.specs.State.{PartState}
use Rattle.part_defs.specs.Steps.{enabled, is_running, is_ready, is_inside, burst_stepped, after_arrival, stepped}
use Rattle.machine_defs.specs.BurstFaults.{faults_of_burst}
use Rattle.machine_defs.proofs.BurstKeeps.{split}
use Rattle.part_laws.proofs.CrossingFit.{found_fits}
use Rattle.part_laws.proofs.RunBound.{opening_tied, run_tied, count_more}
use Rattle.part_laws.proofs.RunsDetermined.{found_thread, step_named}
use Rattle.part_laws.proofs.StepsFit.{fit_after, opening_fit}
use Rattle.part_laws.proofs.TiedBursts.{step_tied}
use Rattle.part_laws.proofs.TiedSteps.{running_is}
use Rattle.part_laws.specs.Bound.{is_invoke, carries_failure, is_arrival, is_burst, attempt_of, calls_of, failures_of, arrivals_of, bursts_of_journal, IsMeasured}
use Rattle.part_laws.specs.Fit.{IsFitSpec, IsFit}
use Rattle.part_laws.specs.Tied.{GoesOn, IsRunningCall, IsTiedCall, IsDriven, IsTied}

-- The counts of a part are those of its journal.

-- the counts of a part after these numbers of failures, calls, arrivals and bursts are added
pub record IsCounted (p q : PartState) (failures calls arrivals bursts : ℕ) : Type 0 where
  pub spec : q.spec ≡ p.spec
  pub failures' : q.failures ≡ p.failures + failures
  pub calls' : q.log.count ≡ p.log.count + calls
  pub arrivals' : q.arrived ≡ p.arrived + arrivals
  pub bursts' : q.bursts ≡ p.bursts + bursts

nothing_counted : (p q : PartState) → q.spec ≡ p.spec → q.failures ≡ p.failures → q.log.count ≡ p.log.count → q.arrived ≡ p.arrived
    → q.bursts ≡ p.bursts → IsCounted p q 0 0 0 0
nothing_counted p q a b c d e = record {
  spec = a;
  failures' = b ∙ sym (add-zero p.failures);
  calls' = c ∙ sym (add-zero p.log.count);
  arrivals' = d ∙ sym (add-zero p.arrived);
  bursts' = e ∙ sym (add-zero p.bursts);
}

-- crossings

abbrev pub CrossCounted : PartState → Crossed → Type 0
CrossCounted p c = IsCounted p c.state (cond (is_some c.failure) 1 0) 0 0 0

failed_counted : (p : PartState) (e : End) (cause : FailCause) → CrossCounted p (failed_crossing p e cause)
unfolding fails
failed_counted p e cause = record {
  spec = refl;
  failures' = refl;
  calls' = sym (add-zero p.log.count);
  arrivals' = sym (add-zero p.arrived);
  bursts' = sym (add-zero p.bursts);
}

serve_counted : (number context : ℕ) (p : PartState) (r : Result Service BadParam) → CrossCounted p (serve_by number context p r)
serve_counted number context p (Err bad) = failed_counted p end.Pause fail.TooManyCrossings
serve_counted number context p (Ok s) = nothing_counted p _ refl refl refl refl refl

closes_counted : (c : CallEntry) (p : PartState) → IsCounted p (closes_call c p) 0 0 0 0
unfolding closes_call after_answering after_acknowledging
closes_counted c p = nothing_counted p _ refl refl refl refl refl

reply_counted : (c : CallEntry) (status : ℕ) (p : PartState) (r : Accept) → CrossCounted p (reply_by c status p r)
reply_counted c status p accepts.Take = closes_counted c p
reply_counted c status p (accepts.IoError block) = closes_counted c p
reply_counted c status p (accepts.Fail cause) = failed_counted p (end.Reply status) cause

call_reply_counted : (status : ℕ) (p : PartState) (o : Option CallEntry) → CrossCounted p (call_replied status p o)
call_reply_counted status p None = nothing_counted p p refl refl refl refl refl
call_reply_counted status p (Some c) = reply_counted c status p (accept c.op status)

next_stage_counted : (p : PartState) → IsCounted p (next_stage p) 0 0 0 0
unfolding next_stage
next_stage_counted p = nothing_counted p _ refl refl refl refl refl

shadow_reply_counted : (status : ℕ) (p : PartState) → CrossCounted p (shadow_replied status p)
shadow_reply_counted status p = split (is_accepted status p)
    (λ e. rw e (next_stage_counted p))
    (λ e. rw e (failed_counted p (end.Reply status) (shadow_fault status (stage_in p.mode))))

pub crossed_counted : (context : ℕ) (e : BurstEnd) (p : PartState) → CrossCounted p (after_crossing context e p)
unfolding after_crossing
crossed_counted context (ends.Trap cause) p = failed_counted p end.Pause fail.TooManyCrossings
crossed_counted context (ends.Kcall number) p = split (is_last context p)
    (λ last. rw last (failed_counted p end.Pause fail.TooManyCrossings))
    (λ early. rw early (serve_counted number context p
    (checked number (first_argument context p.domain) (second_argument context p.domain) p.spec.class p.domain.entries)))
crossed_counted context ends.Pause p = split (is_last context p)
    (λ last. rw last (failed_counted p end.Pause fail.TooManyCrossings))
    (λ early. rw early (nothing_counted p p refl refl refl refl refl))
crossed_counted context (ends.Reply status) p = split (context == 16)
    (λ own. rw own (shadow_reply_counted status p))
    (λ other. rw other (call_reply_counted status p (call_of_thread context p.log.pending)))

-- steps

abbrev StepCounted : PartState → Stepped → Type 0
StepCounted p t = IsCounted p t.state (cond (carries_failure t.event) 1 0) (cond (is_invoke t.event) 1 0) (cond (is_arrival t.event) 1 0)
    (cond (is_burst t.event) 1 0)

invoke_counted_by : (p : PartState) (thread : ℕ) (o : Op) (a : Option Answer) (queue : List (List ℕ)) → StepCounted p (invoked_with p thread o a queue)
unfolding with_call with_answered_call
invoke_counted_by p thread o None queue = record {
  spec = refl;
  failures' = sym (add-zero p.failures);
  calls' = refl;
  arrivals' = sym (add-zero p.arrived);
  bursts' = sym (add-zero p.bursts);
}
invoke_counted_by p thread o (Some a) queue = record {
  spec = refl;
  failures' = sym (add-zero p.failures);
  calls' = refl;
  arrivals' = sym (add-zero p.arrived);
  bursts' = sym (add-zero p.bursts);
}

invoke_counted : (p : PartState) (thread : ℕ) (o : Op) (r : Option Answer) → StepCounted p (invoked_by p thread o r)
invoke_counted p thread o None = invoke_counted_by p thread o (answer_in p.mode thread o p) (queue_in p.mode o p.queue)
invoke_counted p thread o (Some a) = invoke_counted_by p thread o (Some a) p.queue

admitted_counted : (p : PartState) (c : CallEntry) (a : Admit) → StepCounted p (after_admit p c a)
unfolding after_answering after_entering
admitted_counted p c (admits.Reply a) = nothing_counted p _ refl refl refl refl refl
admitted_counted p c admits.TakeFrame = nothing_counted p _ refl refl refl refl refl
admitted_counted p c (admits.Enter index) = nothing_counted p _ refl refl refl refl refl

enter_counted : (p : PartState) (thread : ℕ) (o : Option CallEntry) → StepCounted p (entered_by p thread o)
enter_counted p thread None = nothing_counted p p refl refl refl refl refl
enter_counted p thread (Some c) = admitted_counted p c (admit p.spec.class thread c.op p.log.holder (length p.queue))

burst_counted : (context : ℕ) (p : PartState) (b : DomainBurst) → StepCounted p (burst_step context p b)
burst_counted context p b =
    let k : CrossCounted (with_burst b.domain p) (after_crossing context b.ending (with_burst b.domain p)) =
    crossed_counted context b.ending (with_burst b.domain p) in
    record {
      spec = k.spec;
      failures' = k.failures';
      calls' = k.calls';
      arrivals' = k.arrivals';
      bursts' = k.bursts' ∙ add-zero (p.bursts + 1);
    }

stage_counted : (p : PartState) (s : Stage) → StepCounted p (stage_done s p)
unfolding stops gives_up_part collects resets loads_image inits replays_set replays_open resumes
stage_counted p stage.Stop = split (is_given_up p)
    (λ e. rw e (nothing_counted p _ refl refl refl refl refl))
    (λ e. rw e (nothing_counted p _ refl refl refl refl refl))
stage_counted p stage.Collect = nothing_counted p _ refl refl refl refl refl
stage_counted p stage.Reset = nothing_counted p _ refl refl refl refl refl
stage_counted p stage.Load = nothing_counted p _ refl refl refl refl refl
stage_counted p stage.Init = nothing_counted p _ refl refl refl refl refl
stage_counted p (stage.ReplaySet key value) = nothing_counted p _ refl refl refl refl refl
stage_counted p stage.ReplayOpen = nothing_counted p _ refl refl refl refl refl
stage_counted p stage.Resume = nothing_counted p _ refl refl refl refl refl

stage_counted_by : (p : PartState) (o : Option Stage) → StepCounted p (stage_by p o)
stage_counted_by p None = nothing_counted p p refl refl refl refl refl
stage_counted_by p (Some s) = stage_counted p s

pub step_counted : (p : PartState) (s : Step) → StepCounted p (stepped p s)
unfolding stepped after_invoke after_enter burst_stepped stage_stepped after_arrival
step_counted p (step.Invoke thread o) = invoke_counted p thread o (static_check p.spec.class p.spec.blocks o)
step_counted p (step.Enter thread) = enter_counted p thread (call_of_thread thread p.log.pending)
step_counted p (step.Burst context) =
    burst_counted context p (domain_burst context (faults_of_burst (p.bursts + 1) p.spec.faults) p.domain)
step_counted p step.Stage = stage_counted_by p (stage_due p.mode)
step_counted p (step.Arrive frame) = record {
  spec = refl;
  failures' = sym (add-zero p.failures);
  calls' = sym (add-zero p.log.count);
  arrivals' = refl;
  bursts' = sym (add-zero p.bursts);
}

-- runs

counted_more : (a b c x y : ℕ) → b ≡ a + x → c ≡ b + y → c ≡ a + (x + y)
counted_more a b c x y e f = omega arith

pub counted_from : (p : PartState) (events : List Event) → IsRunFrom p events
    → IsCounted p (state_from p events) (failures_of events) (calls_of events) (arrivals_of events) (bursts_of_journal events)
unfolding IsRunFrom state_from
counted_from p [] r = nothing_counted p p refl refl refl refl refl
counted_from p (e ∷ events) r =
    let q : PartState = state_after p (step_of e) in
    let one : IsCounted p q (cond (carries_failure e) 1 0) (cond (is_invoke e) 1 0) (cond (is_arrival e) 1 0) (cond (is_burst e) 1 0) =
    subst (λ x. IsCounted p q (cond (carries_failure x) 1 0) (cond (is_invoke x) 1 0) (cond (is_arrival x) 1 0) (cond (is_burst x) 1 0)) r.1
    (step_counted p (step_of e)) in
    let more : IsCounted q (state_from q events) (failures_of events) (calls_of events) (arrivals_of events) (bursts_of_journal events) =
    counted_from q events r.2 in
    record {
      spec = more.spec ∙ one.spec;
      failures' = counted_more _ _ _ _ _ one.failures' more.failures' ∙ ap (λ (n : ℕ). p.failures + n) (sym (count_more carries_failure e events));
      calls' = counted_more _ _ _ _ _ one.calls' more.calls' ∙ ap (λ (n : ℕ). p.log.count + n) (sym (count_more is_invoke e events));
      arrivals' = counted_more _ _ _ _ _ one.arrivals' more.arrivals' ∙ ap (λ (n : ℕ). p.arrived + n) (sym (count_more is_arrival e events));
      bursts' = counted_more _ _ _ _ _ one.bursts' more.bursts' ∙ ap (λ (n : ℕ). p.bursts + n) (sym (count_more is_burst e events));
    }

-- attempts

admitted_attempt : (p : PartState) (c : CallEntry) (a : Admit) → attempt_of (after_admit p c a).event ≡ c.attempts + 1
admitted_attempt p c (admits.Reply a) = refl
admitted_attempt p c admits.TakeFrame = refl
admitted_attempt p c (admits.Enter index) = refl

enter_attempt : (p : PartState) (thread : ℕ) (o : Option CallEntry) → IsTied p → p.mode ≡ mode.Running → call_of_thread thread p.log.pending ≡ o
    → is_ready p o ≡ true → attempt_of (entered_by p thread o).event ≤ p.failures + 1
enter_attempt p thread None t running found ready = omega arith
enter_attempt p thread (Some c) t running found ready =
    let was : AllByRecursion (IsRunningCall p.failures p.domain.contexts) p.log.pending =
    subst (λ m. AllByRecursion (IsTiedCall m p.failures p.domain.contexts) p.log.pending) running t.calls in
    let one : IsRunningCall p.failures p.domain.contexts c = found_fits (IsRunningCall p.failures p.domain.contexts) _ p.log.pending c was found in
    let held : c.inside ≡ false = not-true c.inside (and_parts (not c.inside) (not (is_blocked p.spec.class c p.log.pending)) ready).0 in
    let few : c.attempts ≤ p.failures = one.1 held in
    let e : attempt_of (entered_by p thread (Some c)).event ≡ c.attempts + 1 =
    admitted_attempt p c (admit p.spec.class thread c.op p.log.holder (length p.queue)) in
    omega arith

invoke_attempt : (p : PartState) (thread : ℕ) (o : Op) (r : Option Answer) → attempt_of (invoked_by p thread o r).event ≡ 0
invoke_attempt p thread o None = refl
invoke_attempt p thread o (Some a) = refl

stage_attempt : (p : PartState) (s : Stage) → attempt_of (stage_done s p).event ≡ 0
unfolding stops gives_up_part collects resets loads_image inits replays_set replays_open resumes
stage_attempt p stage.Stop = split (is_given_up p) (λ e. rw e) (λ e. rw e)
stage_attempt p stage.Collect = refl
stage_attempt p stage.Reset = refl
stage_attempt p stage.Load = refl
stage_attempt p stage.Init = refl
stage_attempt p (stage.ReplaySet key value) = refl
stage_attempt p stage.ReplayOpen = refl
stage_attempt p stage.Resume = refl

stage_attempt_by : (p : PartState) (o : Option Stage) → attempt_of (stage_by p o).event ≡ 0
stage_attempt_by p None = refl
stage_attempt_by p (Some s) = stage_attempt p s

pub step_attempt : (p : PartState) (s : Step) → IsTied p → enabled p s ≡ true → attempt_of (event_of p s) ≤ p.failures + 1
unfolding enabled stepped after_invoke after_enter burst_stepped stage_stepped after_arrival
step_attempt p (step.Invoke thread o) t e =
    let z : attempt_of (invoked_by p thread o (static_check p.spec.class p.spec.blocks o)).event ≡ 0 =
    invoke_attempt p thread o (static_check p.spec.class p.spec.blocks o) in omega arith
step_attempt p (step.Enter thread) t e =
    let parts = and_parts (is_running p.mode) (is_ready p (call_of_thread thread p.log.pending)) e in
    enter_attempt p thread (call_of_thread thread p.log.pending) t (running_is p.mode parts.0) refl parts.1
step_attempt p (step.Burst context) t e = omega arith
step_attempt p step.Stage t e = let z : attempt_of (stage_by p (stage_due p.mode)).event ≡ 0 = stage_attempt_by p (stage_due p.mode) in omega arith
step_attempt p (step.Arrive frame) t e = omega arith

attempts_from : (most : ℕ) (p : PartState) (events : List Event) → IsFit p → IsTied p → IsRunFrom p events → p.failures + failures_of events ≤ most
    → AllByRecursion (λ e. attempt_of e ≤ most + 1) events
unfolding IsRunFrom
attempts_from most p [] f t r h = tt
attempts_from most p (e ∷ events) f t r h =
    let q : PartState = state_after p (step_of e) in
    let one : attempt_of (event_of p (step_of e)) ≤ p.failures + 1 = step_attempt p (step_of e) t r.0 in
    let same : attempt_of (event_of p (step_of e)) ≡ attempt_of e = ap attempt_of r.1 in
    let count : q.failures ≡ p.failures + cond (carries_failure e) 1 0 =
    subst (λ x. q.failures ≡ p.failures + cond (carries_failure x) 1 0) r.1 (step_counted p (step_of e)).failures' in
    let sum : failures_of (e ∷ events) ≡ cond (carries_failure e) 1 0 + failures_of events = count_more carries_failure e events in
    let k = step_tied (length p.log.pending) p (step_of e) f t (omega arith) r.0 in
    (omega arith, attempts_from most q events (fit_after p (step_of e) f r.0) k.tied r.2 (omega arith))

-- calls and arrivals stay within 100,000

abbrev is_invoke_step : Step → Bool
is_invoke_step (step.Invoke thread o) = true
is_invoke_step _ = false

abbrev is_arrive_step : Step → Bool
is_arrive_step (step.Arrive frame) = true
is_arrive_step _ = false

flags : (e : Event) → (is_invoke e ≡ is_invoke_step (step_of e)) × (is_arrival e ≡ is_arrive_step (step_of e))
flags (event.Invoke call thread o answer) = (refl, refl)
flags (event.Enter call thread attempt answer) = (refl, refl)
flags (event.Burst context call burst count e acts answer failure) = (refl, refl)
flags (event.Stage s answers released) = (refl, refl)
flags (event.Arrive frame kept) = (refl, refl)

record IsWithin (p : PartState) : Type 0 where
  calls : p.log.count ≤ 100000
  arrivals : p.arrived ≤ 100000

room_for : (p : PartState) (s : Step) → IsWithin p → enabled p s ≡ true
    → (p.log.count + cond (is_invoke_step s) 1 0 ≤ 100000) × (p.arrived + cond (is_arrive_step s) 1 0 ≤ 100000)
unfolding enabled
room_for p (step.Invoke thread o) w e =
    let low : p.log.count < 100000 = ltb-true p.log.count 100000
    (and_parts (nat_lt thread 16 && is_none (call_of_thread thread p.log.pending)) (nat_lt p.log.count 100000) e).1 in
    let a = w.arrivals in (omega arith, omega arith)
room_for p (step.Enter thread) w e = let a = w.arrivals in let c = w.calls in (omega arith, omega arith)
room_for p (step.Burst context) w e = let a = w.arrivals in let c = w.calls in (omega arith, omega arith)
room_for p step.Stage w e = let a = w.arrivals in let c = w.calls in (omega arith, omega arith)
room_for p (step.Arrive frame) w e =
    let low : p.arrived < 100000 = ltb-true p.arrived 100000
    (and_parts (same_class p.spec.class class.Net && (nat_le 1 (length frame) && nat_le (length frame) 64)) (nat_lt p.arrived 100000) e).1 in
    let c = w.calls in (omega arith, omega arith)

step_within : (p : PartState) (s : Step) → IsWithin p → enabled p s ≡ true → IsWithin (stepped p s).state
step_within p s w e =
    let k : StepCounted p (stepped p s) = step_counted p s in
    let named : step_of (event_of p s) ≡ s = step_named p s in
    let invoke : is_invoke (event_of p s) ≡ is_invoke_step s = (flags (event_of p s)).0 ∙ ap is_invoke_step named in
    let arrive : is_arrival (event_of p s) ≡ is_arrive_step s = (flags (event_of p s)).1 ∙ ap is_arrive_step named in
    let room = room_for p s w e in
    let calls : (stepped p s).state.log.count ≡ p.log.count + cond (is_invoke_step s) 1 0 =
    k.calls' ∙ ap (λ (b : Bool). p.log.count + cond b 1 0) invoke in
    let arrivals : (stepped p s).state.arrived ≡ p.arrived + cond (is_arrive_step s) 1 0 =
    k.arrivals' ∙ ap (λ (b : Bool). p.arrived + cond b 1 0) arrive in
    record { calls = rw calls room.0; arrivals = rw arrivals room.1 }

within_from : (p : PartState) (events : List Event) → IsWithin p → IsRunFrom p events → IsWithin (state_from p events)
unfolding IsRunFrom state_from
within_from p [] w r = w
within_from p (e ∷ events) w r = within_from (state_after p (step_of e)) events (step_within p (step_of e) w r.0) r.2

-- bursts of an attempt

goes_on_low : (o : Option Context) → GoesOn o → bursts_of o ≤ 31
goes_on_low None h = absurd h
goes_on_low (Some x) h = h

driven_low : (m : Mode) (o : Option Context) → IsDriven m o → bursts_of o ≤ 31
driven_low m None h = omega arith
driven_low m (Some x) h = h.0

inside_low : (p : PartState) (t : ℕ) (o : Option CallEntry) → IsTied p → p.mode ≡ mode.Running → call_of_thread t p.log.pending ≡ o
    → is_inside o ≡ true → attempt_bursts t p.domain ≤ 31
inside_low p t None tied running found inside = absurd (true≢false (sym inside))
inside_low p t (Some c) tied running found inside =
    let was : AllByRecursion (IsRunningCall p.failures p.domain.contexts) p.log.pending =
    subst (λ m. AllByRecursion (IsTiedCall m p.failures p.domain.contexts) p.log.pending) running tied.calls in
    let one : IsRunningCall p.failures p.domain.contexts c = found_fits (IsRunningCall p.failures p.domain.contexts) _ p.log.pending c was found in
    goes_on_low (context_of t p.domain.contexts)
    (subst (λ k. GoesOn (context_of k p.domain.contexts)) (found_thread t p.log.pending c found) (one.2 inside))

pub burst_low : (p : PartState) (context : ℕ) → IsTied p → enabled p (step.Burst context) ≡ true → attempt_bursts context p.domain ≤ 31
unfolding enabled
burst_low p context tied e = split (context == 16)
    (λ own.
    let same : context ≡ 16 = eqb-true context 16 own in
    subst (λ k. attempt_bursts k p.domain ≤ 31) (sym same) (driven_low p.mode (context_of 16 p.domain.contexts) tied.driven))
    (λ other.
    let parts = and_parts (is_running p.mode) (is_inside (call_of_thread context p.log.pending)) (rw other at e) in
    inside_low p context (call_of_thread context p.log.pending) tied (running_is p.mode parts.0) refl parts.1)

-- all together

opening_counts : (spec : PartSpec) → ((opening spec).spec ≡ spec) × ((opening spec).failures ≡ 0) × ((opening spec).log.count ≡ 0)
    × ((opening spec).arrived ≡ 0) × ((opening spec).bursts ≡ 0)
unfolding opening opening_log
opening_counts spec = (refl, refl, refl, refl, refl)

from_zero : (n m k : ℕ) → n ≡ m + k → m ≡ 0 → n ≡ k
from_zero n m k e z = omega arith

pub run_measured : (spec : PartSpec) (journal : List Event) → IsFitSpec spec → IsRun spec journal → IsMeasured spec journal
run_measured spec journal s r =
    let p : PartState = opening spec in
    let q : PartState = state_from p journal in
    let o = opening_counts spec in
    let k : IsCounted p q (failures_of journal) (calls_of journal) (arrivals_of journal) (bursts_of_journal journal) = counted_from p journal r in
    let t : IsTied q = run_tied spec journal s r in
    let spec' : q.spec ≡ spec = k.spec ∙ o.0 in
    let failures : q.failures ≡ failures_of journal = from_zero q.failures p.failures (failures_of journal) k.failures' o.1 in
    let calls : q.log.count ≡ calls_of journal = from_zero q.log.count p.log.count (calls_of journal) k.calls' o.2 in
    let arrivals : q.arrived ≡ arrivals_of journal = from_zero q.arrived p.arrived (arrivals_of journal) k.arrivals' o.3 in
    let bursts : q.bursts ≡ bursts_of_journal journal = from_zero q.bursts p.bursts (bursts_of_journal journal) k.bursts' o.4 in
    let o1 = o.1 in let o2 = o.2 in let o3 = o.3 in
    let w : IsWithin q = within_from p journal (record { calls = omega arith; arrivals = omega arith }) r in
    let wc : q.log.count ≤ 100000 = w.calls in
    let wa : q.arrived ≤ 100000 = w.arrivals in
    let limit : q.failures ≤ q.spec.limit + 1 = t.limit in
    record {
      spec_stays = spec';
      failures = failures;
      calls = calls;
      arrivals = arrivals;
      bursts = bursts;
      few_failures = subst (λ x. failures_of journal ≤ x.limit + 1) spec' (omega arith);
      few_attempts = attempts_from (failures_of journal) p journal (opening_fit spec s) (opening_tied spec) r (omega arith);
      few_calls = omega arith;
      few_arrivals = omega arith;
      few_bursts = λ context e. burst_low q context t e;
    }
