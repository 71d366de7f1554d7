use Rattle.std.proofs.Common.{◌≡◌, ℕ, ◌==◌, ◌&&◌, eqb, not, if◌then◌else◌, is_some, unwrap_or, Bool, true, false}
use Rattle.std.proofs.Common.{Option, Some, None, Result, Ok, Err, List, [], ◌∷◌, ◌+◌, ◌≤◌, length, cond, refl, sym}
use Rattle.std.proofs.Common.{ap, subst, ◌∙◌, true≢false, arith}
use Rattle.std.specs.List.{AllByRecursion}
use Rattle.std.proofs.lemmas.Bool.{and_parts, cond-false, cond-true}
use Rattle.nook_data.specs.declared.classes.Accept.{Accept}
use Rattle.nook_data.specs.declared.classes.Accept.TheVariants as accepts
use Rattle.nook_data.specs.declared.classes.Admit.{Admit}
use Rattle.nook_data.specs.declared.classes.Admit.TheVariants as admits
use Rattle.nook_data.specs.declared.calls.Answer.{Answer}
use Rattle.nook_data.specs.declared.calls.Answer.TheVariants as answered
use Rattle.nook_data.specs.declared.calls.CallEntry.{CallEntry}
use Rattle.nook_data.specs.declared.calls.Op.{Op}
use Rattle.nook_data.specs.declared.steps.End.TheVariants as end
use Rattle.nook_data.specs.declared.steps.Event.{Event}
use Rattle.nook_data.specs.declared.steps.Event.TheVariants as event
use Rattle.nook_data.specs.declared.steps.FailCause.TheVariants as fail
use Rattle.nook_data.specs.declared.steps.Mode.{Mode}
use Rattle.nook_data.specs.declared.steps.Mode.TheVariants as mode
use Rattle.nook_data.specs.declared.steps.Stage.{Stage}
use Rattle.nook_data.specs.declared.steps.Stage.TheVariants as stage
use Rattle.nook_data.specs.declared.steps.Step.{Step}
use Rattle.nook_data.specs.declared.steps.Step.TheVariants as step
use Rattle.nook_data.specs.declared.scenario.PartSpec.{PartSpec}
use Rattle.nook_data.specs.declared.machine.BadParam.{BadParam}
use Rattle.nook_data.specs.declared.machine.BurstEnd.{BurstEnd}
use Rattle.nook_data.specs.declared.machine.BurstEnd.TheVariants as ends
use Rattle.nook_data.specs.declared.machine.Context.{Context}
use Rattle.nook_data.specs.declared.machine.Service.{Service}
use Rattle.nook_data.specs.Classes.{accept, admit, static_check}
use Rattle.machine_defs.specs.BurstFaults.{faults_of_burst}
use Rattle.machine_defs.specs.Services.{checked}
use Rattle.part_defs.specs.Calls.{after_admit, after_enter, after_invoke, answer_in}
use Rattle.part_defs.proofs.PartCases.{entered_by, invoked_by, reply_by, serve_by, with_burst}
use Rattle.part_defs.specs.Crossing.{Crossed, after_crossing, call_replied, closes_call, failed_crossing, fails}
use Rattle.part_defs.specs.Crossing.{goes_on}
use Rattle.part_defs.specs.Crossing.{is_accepted, is_last, kernel_call, next_mode, next_stage, refused_service}
use Rattle.part_defs.specs.Crossing.{shadow_fault, shadow_replied, stage_in}
use Rattle.part_defs.specs.Domain.{context_of, domain_burst, first_argument, second_argument, stopped_domain}
use Rattle.part_defs.specs.Log.{call_of_thread}
use Rattle.part_defs.specs.Runs.{IsRunFrom, event_of, state_after, state_from, step_of}
use Rattle.part_defs.specs.Stages.{collects, gives_up_part, inits, is_given_up, loads_image, replays_open, replays_set}
use Rattle.part_defs.specs.Stages.{resets, resumes, stage_due, stage_stepped, stops}
use Rattle.part_defs.specs.State.{PartState}
use Rattle.part_defs.specs.Steps.{after_arrival, burst_stepped, enabled, is_driven, is_inside, is_ready, is_running}
use Rattle.part_defs.specs.Steps.{stepped}
use Rattle.part_laws.proofs.Counts.{counted_from}
use Rattle.part_laws.proofs.DeviceStays.{spec_after}
use Rattle.part_laws.proofs.Indices.{split}
use Rattle.part_laws.proofs.Recovered.{gone_stays}
use Rattle.part_laws.proofs.RunBound.{count_more}
use Rattle.part_laws.proofs.Stages.{with_mode}
use Rattle.part_laws.specs.Bound.{carries_failure, failures_of}
use Rattle.part_laws.specs.Facts.{is_dead}
use Rattle.part_laws.specs.Recovery.{Gone}
use Rattle.part_laws.specs.Tied.{IsDriven, IsTied}
use Rattle.headline_laws.specs.GivenUp.{IsGivingUp, IsOfGivenUp, answer_given_up}

-- When a part is given up, and what it answers after that.

-- ---- only a Stop gives a part up

served_mode : (number context : ℕ) (p : PartState) (r : Result Service BadParam) → is_dead p.mode ≡ false
    → is_dead (serve_by number context p r).state.mode ≡ false
unfolding fails
served_mode number context p (Err bad) h = refl
served_mode number context p (Ok s) h = h

next_mode_lives : (m : Mode) (p : PartState) → is_dead m ≡ false → is_dead (next_mode m p) ≡ false
next_mode_lives (mode.Boot s) p h = refl
next_mode_lives mode.Running p h = h
next_mode_lives (mode.Recovering s) p h = by_stage s
  where
    by_stage : (s : Stage) → is_dead (next_mode (mode.Recovering s) p) ≡ false
    by_stage stage.Stop = refl
    by_stage _ = refl
next_mode_lives (mode.Dead collected) p h = h

reply_mode : (status : ℕ) (p : PartState) (o : Option CallEntry) → is_dead p.mode ≡ false
    → is_dead (call_replied status p o).state.mode ≡ false
unfolding fails closes_call
reply_mode status p None h = h
reply_mode status p (Some c) h = by_accept (accept c.op status)
  where
    by_accept : (a : Accept) → is_dead (reply_by c status p a).state.mode ≡ false
    by_accept accepts.Take = h
    by_accept (accepts.IoError block) = h
    by_accept (accepts.Fail cause) = refl

-- a choice by a test, if both branches leave the part alive
either_lives : (b : Bool) (x y : Crossed) → is_dead x.state.mode ≡ false → is_dead y.state.mode ≡ false
    → is_dead (if b then x else y).state.mode ≡ false
either_lives true x y h k = h
either_lives false x y h k = k

crossed_lives : (context : ℕ) (e : BurstEnd) (p : PartState) → is_dead p.mode ≡ false
    → is_dead (after_crossing context e p).state.mode ≡ false
unfolding after_crossing fails next_stage
crossed_lives context (ends.Trap cause) p h = refl
crossed_lives context (ends.Kcall number) p h =
    either_lives (is_last context p) (failed_crossing p (refused_service number context p) fail.TooManyCrossings)
    (kernel_call number context p) refl
    (served_mode number context p
    (checked number (first_argument context p.domain) (second_argument context p.domain) p.spec.class
    p.domain.entries) h)
crossed_lives context ends.Pause p h =
    either_lives (is_last context p) (failed_crossing p end.Pause fail.TooManyCrossings) (goes_on p end.Pause) refl h
crossed_lives context (ends.Reply status) p h =
    either_lives (context == 16) (shadow_replied status p)
    (call_replied status p (call_of_thread context p.log.pending))
    (either_lives (is_accepted status p) (goes_on (next_stage p) (end.Reply status))
    (failed_crossing p (end.Reply status) (shadow_fault status (stage_in p.mode))) (next_mode_lives p.mode p h) refl)
    (reply_mode status p (call_of_thread context p.log.pending) h)

stop_gives_up : (p : PartState) → is_dead (if is_given_up p then gives_up_part p else stops p).state.mode ≡ true
    → IsGivingUp p p.failures (if is_given_up p then gives_up_part p else stops p).event
unfolding gives_up_part stops stopped_domain
stop_gives_up p d = by_test (is_given_up p) d
  where
    by_test : (b : Bool) → is_dead (if b then gives_up_part p else stops p).state.mode ≡ true
        → IsGivingUp p p.failures (if b then gives_up_part p else stops p).event
    by_test true d = refl
    by_test false d = absurd cc

stage_gives_up : (m : Mode) (p : PartState) → is_dead m ≡ false
    → is_dead (stage_stepped (with_mode m p)).state.mode ≡ true
    → IsGivingUp p p.failures (stage_stepped (with_mode m p)).event
unfolding stage_stepped collects resets loads_image inits replays_set replays_open resumes
stage_gives_up mode.Running p a d = absurd cc
stage_gives_up (mode.Dead collected) p a d = absurd cc
stage_gives_up (mode.Boot stage.Stop) p a d = stop_gives_up (with_mode (mode.Boot stage.Stop) p) d
stage_gives_up (mode.Boot stage.Collect) p a d = absurd cc
stage_gives_up (mode.Boot stage.Reset) p a d = absurd cc
stage_gives_up (mode.Boot stage.Load) p a d = absurd cc
stage_gives_up (mode.Boot stage.Init) p a d = absurd cc
stage_gives_up (mode.Boot (stage.ReplaySet key value)) p a d = absurd cc
stage_gives_up (mode.Boot stage.ReplayOpen) p a d = absurd cc
stage_gives_up (mode.Boot stage.Resume) p a d = absurd cc
stage_gives_up (mode.Recovering stage.Stop) p a d = stop_gives_up (with_mode (mode.Recovering stage.Stop) p) d
stage_gives_up (mode.Recovering stage.Collect) p a d = absurd cc
stage_gives_up (mode.Recovering stage.Reset) p a d = absurd cc
stage_gives_up (mode.Recovering stage.Load) p a d = absurd cc
stage_gives_up (mode.Recovering stage.Init) p a d = absurd cc
stage_gives_up (mode.Recovering (stage.ReplaySet key value)) p a d = absurd cc
stage_gives_up (mode.Recovering stage.ReplayOpen) p a d = absurd cc
stage_gives_up (mode.Recovering stage.Resume) p a d = absurd cc

invoke_mode : (p : PartState) (t : ℕ) (o : Op) (r : Option Answer) → (invoked_by p t o r).state.mode ≡ p.mode
invoke_mode p t o None = refl
invoke_mode p t o (Some a) = refl

admit_mode : (p : PartState) (c : CallEntry) (a : Admit) → (after_admit p c a).state.mode ≡ p.mode
admit_mode p c (admits.Reply a) = refl
admit_mode p c admits.TakeFrame = refl
admit_mode p c (admits.Enter index) = refl

enter_mode : (p : PartState) (t : ℕ) (o : Option CallEntry) → (entered_by p t o).state.mode ≡ p.mode
enter_mode p t None = refl
enter_mode p t (Some c) = admit_mode p c (admit p.spec.class t c.op p.log.holder (length p.queue))

lives_and_dies : (m n : Mode) → n ≡ m → is_dead m ≡ false → is_dead n ≡ true → ⊥
lives_and_dies m n e a d = true≢false (sym d ∙ ap is_dead e ∙ a)

pub gives_up : (p : PartState) (s : Step) → is_dead p.mode ≡ false → is_dead (stepped p s).state.mode ≡ true
    → IsGivingUp p p.failures (stepped p s).event
unfolding stepped after_invoke after_enter burst_stepped after_arrival
gives_up p (step.Invoke t o) a d =
    absurd (lives_and_dies p.mode (stepped p (step.Invoke t o)).state.mode
    (invoke_mode p t o (static_check p.spec.class p.spec.blocks o)) a d)
gives_up p (step.Enter t) a d =
    absurd (lives_and_dies p.mode (stepped p (step.Enter t)).state.mode
    (enter_mode p t (call_of_thread t p.log.pending)) a d)
gives_up p (step.Burst context) a d =
    let b = domain_burst context (faults_of_burst (p.bursts + 1) p.spec.faults) p.domain in
    absurd (true≢false (sym d ∙ crossed_lives context b.ending (with_burst b.domain p) a))
gives_up p step.Stage a d = stage_gives_up p.mode p a d
gives_up p (step.Arrive frame) a d = absurd (true≢false (sym d ∙ a))

-- ---- a part that was given up

dead_runs : (m : Mode) → is_dead m ≡ true → is_running m ≡ true → ⊥
dead_runs (mode.Dead collected) d r = absurd cc
dead_runs (mode.Boot s) d r = absurd cc
dead_runs mode.Running d r = absurd cc
dead_runs (mode.Recovering s) d r = absurd cc

dead_driven : (m : Mode) (o : Option Context) → is_dead m ≡ true → IsDriven m o → is_some o ≡ false
dead_driven m None d h = refl
dead_driven (mode.Dead collected) (Some x) d h = absurd (true≢false (sym h.1))
dead_driven (mode.Boot s) (Some x) d h = absurd cc
dead_driven mode.Running (Some x) d h = absurd cc
dead_driven (mode.Recovering s) (Some x) d h = absurd cc

-- it drives nothing
pub dead_gone : (p : PartState) → IsTied p → is_dead p.mode ≡ true → Gone p
dead_gone p t d = (d, dead_driven p.mode (context_of 16 p.domain.contexts) d t.driven)

pub gone_bursts : (p : PartState) (context : ℕ) → Gone p → enabled p (step.Burst context) ≡ true → ⊥
unfolding enabled
gone_bursts p context g e = split (eqb context 16)
    (λ t. true≢false (sym (sym (cond-true (eqb context 16) (is_driven p) served t) ∙ e) ∙ g.1))
    (λ t. dead_runs p.mode g.0 (and_parts (is_running p.mode) (is_inside (call_of_thread context p.log.pending))
    (sym (cond-false (eqb context 16) (is_driven p) served t) ∙ e)).0)
  where
    served : Bool
    served = is_running p.mode && is_inside (call_of_thread context p.log.pending)

gone_enters : (p : PartState) (thread : ℕ) → Gone p → enabled p (step.Enter thread) ≡ true → ⊥
unfolding enabled
gone_enters p thread g e =
    dead_runs p.mode g.0 (and_parts (is_running p.mode) (is_ready p (call_of_thread thread p.log.pending)) e).0

-- ---- its answers

abbrev reported_in : Event → Option Answer
reported_in (event.Invoke call thread o a) = a
reported_in _ = None

dead_answer : (m : Mode) (t : ℕ) (o : Op) (p : PartState) → is_dead m ≡ true
    → answer_in m t o p ≡ Some (answered.Gone p.failures)
dead_answer (mode.Boot s) t o p d = absurd cc
dead_answer mode.Running t o p d = absurd cc
dead_answer (mode.Recovering s) t o p d = absurd cc
dead_answer (mode.Dead collected) t o p d = refl

dead_reported : (p : PartState) (t : ℕ) (o : Op) → is_dead p.mode ≡ true
    → reported_in (event_of p (step.Invoke t o)) ≡ Some (answer_given_up p.spec p.failures o)
unfolding stepped after_invoke
dead_reported p t o d = by_check (static_check p.spec.class p.spec.blocks o)
  where
    by_check : (r : Option Answer) → reported_in (invoked_by p t o r).event ≡ Some (unwrap_or r (answered.Gone p.failures))
    by_check None = dead_answer p.mode t o p d
    by_check (Some a) = refl

abbrev answers_in : Event → List (ℕ × Answer)
answers_in (event.Stage s answers released) = answers
answers_in _ = []

abbrev pub stage_reported : Event → Stage
stage_reported (event.Stage s answers released) = s
stage_reported _ = stage.Collect

dead_stage : (m : Mode) (p : PartState) → is_dead m ≡ true → is_some (stage_due m) ≡ true
    → (stage_reported (stage_stepped (with_mode m p)).event ≡ stage.Collect)
    × (answers_in (stage_stepped (with_mode m p)).event ≡ [])
unfolding stage_stepped collects
dead_stage (mode.Dead false) p d s = (refl, refl)
dead_stage (mode.Dead true) p d s = absurd cc
dead_stage (mode.Boot s) p d e = absurd cc
dead_stage mode.Running p d s = absurd cc
dead_stage (mode.Recovering s) p d e = absurd cc

pub stage_due_of : (p : PartState) → enabled p step.Stage ≡ true → is_some (stage_due p.mode) ≡ true
unfolding enabled
stage_due_of p e = (and_parts (is_some (stage_due p.mode)) (not (is_driven p)) e).0

event_given_up : (p : PartState) (e : Event) → Gone p → enabled p (step_of e) ≡ true → event_of p (step_of e) ≡ e
    → IsOfGivenUp p.spec p.failures e
unfolding stepped
event_given_up p (event.Invoke call t o a) g may same = sym (ap reported_in same) ∙ dead_reported p t o g.0
event_given_up p (event.Enter call t attempt a) g may same = gone_enters p t g may
event_given_up p (event.Burst context call burst count end acts a failure) g may same = gone_bursts p context g may
event_given_up p (event.Stage s answers released) g may same =
    let reported = dead_stage p.mode p g.0 (stage_due_of p may) in
    (sym (ap stage_reported same) ∙ reported.0, sym (ap answers_in same) ∙ reported.1)
event_given_up p (event.Arrive frame kept) g may same = tt

no_failure : (p : PartState) (e : Event) → Gone p → enabled p (step_of e) ≡ true → carries_failure e ≡ false
no_failure p (event.Invoke call t o a) g may = refl
no_failure p (event.Enter call t attempt a) g may = refl
no_failure p (event.Burst context call burst count end acts a failure) g may = absurd (gone_bursts p context g may)
no_failure p (event.Stage s answers released) g may = refl
no_failure p (event.Arrive frame kept) g may = refl

none_counted : (b : Bool) → b ≡ false → cond b 1 0 ≤ 0
none_counted true h = absurd cc
none_counted false h = omega arith

-- its count of failures does not change
same_failures : (p : PartState) (e : Event) → Gone p → enabled p (step_of e) ≡ true → event_of p (step_of e) ≡ e
    → (state_after p (step_of e)).failures ≡ p.failures
unfolding IsRunFrom state_from
same_failures p e g may same =
    let counted : (state_after p (step_of e)).failures ≡ p.failures + failures_of (e ∷ []) =
    (counted_from p (e ∷ []) (may, same, tt)).failures' in
    let one : failures_of (e ∷ []) ≡ cond (carries_failure e) 1 0 + failures_of [] = count_more carries_failure e [] in
    let none : cond (carries_failure e) 1 0 ≤ 0 = none_counted (carries_failure e) (no_failure p e g may) in
    let rest : failures_of [] ≡ 0 = refl in
    omega arith

pub given_up_from : (spec : PartSpec) (failures : ℕ) (p : PartState) (events : List Event) → Gone p → p.spec ≡ spec
    → p.failures ≡ failures
    → IsRunFrom p events → AllByRecursion (IsOfGivenUp spec failures) events
unfolding IsRunFrom
given_up_from spec failures p [] g s n r = tt
given_up_from spec failures p (e ∷ events) g s n r = (
  subst (λ (k : ℕ). IsOfGivenUp spec k e) n
      (subst (λ (x : PartSpec). IsOfGivenUp x p.failures e) s (event_given_up p e g r.0 r.1)),
  given_up_from spec failures (state_after p (step_of e)) events (gone_stays p (step_of e) g r.0)
      (spec_after p (step_of e) ∙ s) (same_failures p e g r.0 r.1 ∙ n) r.2,
)
