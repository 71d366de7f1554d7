-- The event at which a part is given up, and which answers are Gone.
use Rattle.std.proofs.Common.{◌≡◌, ℕ, suc, ◌+◌, ◌==◌, if◌then◌else◌, Bool, true, false, Option, Some, None, Result, Ok, Err, List, [], ◌∷◌, ◌++◌, length, refl, sym, ap, ◌∙◌, true≢false}
use Rattle.std.specs.List.{AllByRecursion, list_any}
use Rattle.std.proofs.lemmas.Bool.{or_right}
use Rattle.nook_data.specs.declared.classes.Accept.{Accept}
use Rattle.nook_data.specs.declared.classes.Accept.TheVariants as accepts
use Rattle.nook_data.specs.declared.classes.Admit.{Admit}
use Rattle.nook_data.specs.declared.classes.Admit.TheVariants as admits
use Rattle.nook_data.specs.declared.calls.Answer.{Answer}
use Rattle.nook_data.specs.declared.calls.Answer.TheVariants as answered
use Rattle.nook_data.specs.declared.verdicts.Break.{Break}
use Rattle.nook_data.specs.declared.calls.CallEntry.{CallEntry}
use Rattle.nook_data.specs.declared.steps.End.TheVariants as end
use Rattle.nook_data.specs.declared.steps.FailCause.TheVariants as fail
use Rattle.nook_data.specs.declared.steps.Event.{Event}
use Rattle.nook_data.specs.declared.steps.Event.TheVariants as event
use Rattle.nook_data.specs.declared.steps.Mode.{Mode}
use Rattle.nook_data.specs.declared.steps.Mode.TheVariants as mode
use Rattle.nook_data.specs.declared.calls.Op.{Op}
use Rattle.nook_data.specs.declared.steps.Stage.{Stage}
use Rattle.nook_data.specs.declared.steps.Stage.TheVariants as stage
use Rattle.nook_data.specs.declared.steps.Step.{Step}
use Rattle.nook_data.specs.declared.steps.Step.TheVariants as step
use Rattle.nook_data.specs.declared.machine.BadParam.{BadParam}
use Rattle.nook_data.specs.declared.machine.BurstEnd.{BurstEnd}
use Rattle.nook_data.specs.declared.machine.BurstEnd.TheVariants as ends
use Rattle.nook_data.specs.declared.machine.Service.{Service}
use Rattle.part_defs.specs.Calls.{Stepped, after_admit, after_enter, after_invoke}
use Rattle.part_defs.proofs.PartCases.{entered_by, invoked_by, reply_by, serve_by, with_burst}
use Rattle.nook_data.specs.Classes.{accept, admit, static_check}
use Rattle.nook_data.specs.declared.clause.Clause.{Clause}
use Rattle.promise_defs.specs.Contract.{Known, known_after, break_from, broken}
use Rattle.promise_defs.proofs.PromiseChanges.{break_or}
use Rattle.part_defs.specs.Crossing.{Crossed, call_replied, closes_call, after_crossing, failed_crossing, fails}
use Rattle.part_defs.specs.Crossing.{goes_on, is_accepted, is_last, kernel_call, next_mode, next_stage, refused_service}
use Rattle.part_defs.specs.Crossing.{shadow_fault, shadow_replied, stage_in}
use Rattle.part_defs.specs.Domain.{domain_burst, first_argument, second_argument, stopped_domain}
use Rattle.part_defs.specs.Log.{call_of_thread, gone_answers}
use Rattle.nook_data.specs.Answers.{answer_at}
use Rattle.part_defs.specs.Runs.{state_after, state_from, step_of}
use Rattle.machine_defs.specs.Services.{checked}
use Rattle.part_defs.specs.Stages.{collects, gives_up_part, inits, is_given_up, loads_image, replays_open, replays_set}
use Rattle.part_defs.specs.Stages.{resets, resumes, stage_stepped, stops}
use Rattle.part_defs.specs.State.{PartState}
use Rattle.part_defs.specs.Steps.{after_arrival, burst_stepped, is_driven, stepped}
use Rattle.machine_defs.specs.BurstFaults.{faults_of_burst}
use Rattle.promise_defs.specs.Trace.{Track, Visible, shown, trace_from, tracks_after}
use Rattle.part_laws.specs.Facts.{is_dead}
use Rattle.part_laws.proofs.Indices.{split}
use Rattle.part_laws.proofs.Stages.{with_mode}
use Rattle.mirror_block.specs.Sides.{and_more, answers_given, first_answer, or_later}

-- ---- answers

abbrev pub is_gone : Answer → Bool
is_gone (answered.Gone failures) = true
is_gone a = false

-- some call was answered Gone
abbrev pub has_gone : List Answer → Bool
has_gone answers = list_any is_gone answers

-- Gone stays among the answers if another one is added
pub more_gone : (a : Option Answer) (answers : List Answer) → has_gone answers ≡ true → has_gone (and_more a answers) ≡ true
more_gone None answers h = h
more_gone (Some a) answers h = or_right (is_gone a) (has_gone answers) h

-- ---- the contract

unbroken : (cs : List Clause) (index : ℕ) (later : Option Break) → break_or index cs later ≡ None → (cs ≡ []) × (later ≡ None)
unbroken [] index later h = (refl, h)
unbroken (c ∷ cs) index later h = absurd cc

-- a journal without a break has none in its prefixes
pub unbroken_before : (index : ℕ) (k : Known) (xs ys : List Event) → break_from index k (xs ++ ys) ≡ None → break_from index k xs ≡ None
unfolding break_from
unbroken_before index k [] ys h = refl
unbroken_before index k (e ∷ xs) ys h =
    let u = unbroken (broken k e) index (break_from (suc index) (known_after k e) (xs ++ ys)) h in
    ap (λ (cs : List Clause). break_or index cs (break_from (suc index) (known_after k e) xs)) u.0 ∙ unbroken_before (suc index) (known_after k e) xs ys u.1

-- ---- when a part was given up

pub record GivenUp (p : PartState) (events : List Event) : Type 0 where
  pub before : List Event
  pub event : Event
  pub after : List Event
  pub parts : before ++ event ∷ after ≡ events
  pub alive : is_dead (state_from p before).mode ≡ false
  pub dead : is_dead (state_after (state_from p before) (step_of event)).mode ≡ true

pub given_up_in : (events : List Event) (p : PartState) → is_dead p.mode ≡ false → is_dead (state_from p events).mode ≡ true → GivenUp p events
unfolding state_from
given_up_in [] p a d = absurd cc
given_up_in (e ∷ events) p a d = split (is_dead (state_after p (step_of e)).mode)
    (λ t. record { before = []; event = e; after = events; parts = refl; alive = a; dead = t })
    (λ t.
    let k = given_up_in events (state_after p (step_of e)) t d in
    record { before = e ∷ k.before; event = k.event; after = k.after; parts = ap (λ (l : List Event). e ∷ l) k.parts; alive = k.alive; dead = k.dead })

-- ---- what is shown

-- if later events show nothing, the trace ends before them
pub trace_ends : (xs ys : List Event) (ts : List Track) → ((us : List Track) → trace_from us ys ≡ []) → trace_from ts (xs ++ ys) ≡ trace_from ts xs
unfolding trace_from
trace_ends [] ys ts h = h ts
trace_ends (e ∷ xs) ys ts h = ap (λ (l : List Visible). shown e (tracks_after e ts) ++ l) (trace_ends xs ys (tracks_after e ts) h)

-- ---- the first answer to a call

-- events that do not answer a call are skipped
first_after : (call : ℕ) (xs ys : List Event) → AllByRecursion (λ e. answer_at call e ≡ None) xs → first_answer call (xs ++ ys) ≡ first_answer call ys
first_after call [] ys h = refl
first_after call (e ∷ xs) ys h =
    ap (λ (o : Option Answer). or_later o (first_answer call (xs ++ ys))) h.0 ∙ first_after call xs ys h.1

-- if a call is invoked and its first answer is Gone, Gone is among the answers
pub gone_given : (call t : ℕ) (o : Op) (a : Option Answer) (xs ys zs : List Event) (e : Event) (failures : ℕ)
    → AllByRecursion (λ e. answer_at call e ≡ None) (event.Invoke call t o a ∷ ys) → answer_at call e ≡ Some (answered.Gone failures)
    → has_gone (answers_given (xs ++ (event.Invoke call t o a ∷ (ys ++ (e ∷ zs))))) ≡ true
gone_given call t o a [] ys zs e failures quiet reported =
    ap (λ (x : Option Answer). has_gone (and_more x (answers_given (ys ++ e ∷ zs))))
    (first_after call (event.Invoke call t o a ∷ ys) (e ∷ zs) quiet ∙ ap (λ (x : Option Answer). or_later x (first_answer call zs)) reported)
gone_given call t o a (event.Invoke c u p b ∷ xs) ys zs e failures quiet reported =
    more_gone (first_answer c (event.Invoke c u p b ∷ (xs ++ (event.Invoke call t o a ∷ (ys ++ (e ∷ zs))))))
    (answers_given (xs ++ (event.Invoke call t o a ∷ (ys ++ (e ∷ zs))))) (gone_given call t o a xs ys zs e failures quiet reported)
gone_given call t o a (event.Enter c u attempt b ∷ xs) ys zs e failures quiet reported = gone_given call t o a xs ys zs e failures quiet reported
gone_given call t o a (event.Burst context c burst count end acts b failure ∷ xs) ys zs e failures quiet reported = gone_given call t o a xs ys zs e failures quiet reported
gone_given call t o a (event.Stage s answers released ∷ xs) ys zs e failures quiet reported = gone_given call t o a xs ys zs e failures quiet reported
gone_given call t o a (event.Arrive frame kept ∷ xs) ys zs e failures quiet reported = gone_given call t o a xs ys zs e failures quiet reported

-- ---- the step at which a part is given up

served_mode : (number context : ℕ) (p : PartState) (r : Result Service BadParam) → is_dead p.mode ≡ false → is_dead (serve_by number context p r).state.mode ≡ false
unfolding fails
served_mode number context p (Err bad) h = refl
served_mode number context p (Ok s) h = h

next_mode_lives : (m : Mode) (p : PartState) → is_dead m ≡ false → is_dead (next_mode m p) ≡ false
next_mode_lives (mode.Boot s) p h = refl
next_mode_lives mode.Running p h = h
next_mode_lives (mode.Recovering s) p h = by_stage s
  where
    by_stage : (s : Stage) → is_dead (next_mode (mode.Recovering s) p) ≡ false
    by_stage stage.Stop = refl
    by_stage _ = refl
next_mode_lives (mode.Dead collected) p h = h

reply_mode : (status : ℕ) (p : PartState) (o : Option CallEntry) → is_dead p.mode ≡ false → is_dead (call_replied status p o).state.mode ≡ false
unfolding fails closes_call
reply_mode status p None h = h
reply_mode status p (Some c) h = by_accept (accept c.op status)
  where
    by_accept : (a : Accept) → is_dead (reply_by c status p a).state.mode ≡ false
    by_accept accepts.Take = h
    by_accept (accepts.IoError block) = h
    by_accept (accepts.Fail cause) = refl

-- a choice by a test has a property if both branches have it
by_either : {X : Type 0} (P : X → Type 0) (b : Bool) (x y : X) → P x → P y → P (if b then x else y)
by_either P true x y h k = h
by_either P false x y h k = k

crossed_lives : (context : ℕ) (e : BurstEnd) (p : PartState) → is_dead p.mode ≡ false → is_dead (after_crossing context e p).state.mode ≡ false
unfolding after_crossing fails next_stage
crossed_lives context (ends.Trap cause) p h = refl
crossed_lives context (ends.Kcall number) p h =
    by_either (λ (x : Crossed). is_dead x.state.mode ≡ false) (is_last context p) (failed_crossing p (refused_service number context p) fail.TooManyCrossings)
    (kernel_call number context p) refl
    (served_mode number context p (checked number (first_argument context p.domain) (second_argument context p.domain) p.spec.class p.domain.entries) h)
crossed_lives context ends.Pause p h =
    by_either (λ (x : Crossed). is_dead x.state.mode ≡ false) (is_last context p) (failed_crossing p end.Pause fail.TooManyCrossings) (goes_on p end.Pause) refl h
crossed_lives context (ends.Reply status) p h =
    by_either (λ (x : Crossed). is_dead x.state.mode ≡ false) (context == 16) (shadow_replied status p) (call_replied status p (call_of_thread context p.log.pending))
    (by_either (λ (x : Crossed). is_dead x.state.mode ≡ false) (is_accepted status p) (goes_on (next_stage p) (end.Reply status))
    (failed_crossing p (end.Reply status) (shadow_fault status (stage_in p.mode))) (next_mode_lives p.mode p h) refl)
    (reply_mode status p (call_of_thread context p.log.pending) h)

-- a step is a Stop that answers Gone to all open calls; nothing is driven after it, and the device is unchanged
abbrev pub StopsAll : PartState → Stepped → Type 0
StopsAll p t = (t.event ≡ event.Stage stage.Stop (gone_answers p.failures p.log.pending) []) × (is_driven t.state ≡ false) × (t.state.domain.device ≡ p.domain.device)

stop_gives_up : (p : PartState) → is_dead (if is_given_up p then gives_up_part p else stops p).state.mode ≡ true
    → StopsAll p (if is_given_up p then gives_up_part p else stops p)
unfolding gives_up_part stops stopped_domain
stop_gives_up p d = by_test (is_given_up p) d
  where
    by_test : (b : Bool) → is_dead (if b then gives_up_part p else stops p).state.mode ≡ true → StopsAll p (if b then gives_up_part p else stops p)
    by_test true d = (refl, refl, refl)
    by_test false d = absurd cc

stage_gives_up : (m : Mode) (p : PartState) → is_dead m ≡ false → is_dead (stage_stepped (with_mode m p)).state.mode ≡ true
    → StopsAll (with_mode m p) (stage_stepped (with_mode m p))
unfolding stage_stepped collects resets loads_image inits replays_set replays_open resumes
stage_gives_up mode.Running p a d = absurd cc
stage_gives_up (mode.Dead collected) p a d = absurd cc
stage_gives_up (mode.Boot stage.Stop) p a d = stop_gives_up (with_mode (mode.Boot stage.Stop) p) d
stage_gives_up (mode.Boot stage.Collect) p a d = absurd cc
stage_gives_up (mode.Boot stage.Reset) p a d = absurd cc
stage_gives_up (mode.Boot stage.Load) p a d = absurd cc
stage_gives_up (mode.Boot stage.Init) p a d = absurd cc
stage_gives_up (mode.Boot (stage.ReplaySet key value)) p a d = absurd cc
stage_gives_up (mode.Boot stage.ReplayOpen) p a d = absurd cc
stage_gives_up (mode.Boot stage.Resume) p a d = absurd cc
stage_gives_up (mode.Recovering stage.Stop) p a d = stop_gives_up (with_mode (mode.Recovering stage.Stop) p) d
stage_gives_up (mode.Recovering stage.Collect) p a d = absurd cc
stage_gives_up (mode.Recovering stage.Reset) p a d = absurd cc
stage_gives_up (mode.Recovering stage.Load) p a d = absurd cc
stage_gives_up (mode.Recovering stage.Init) p a d = absurd cc
stage_gives_up (mode.Recovering (stage.ReplaySet key value)) p a d = absurd cc
stage_gives_up (mode.Recovering stage.ReplayOpen) p a d = absurd cc
stage_gives_up (mode.Recovering stage.Resume) p a d = absurd cc

invoke_mode : (p : PartState) (t : ℕ) (o : Op) (r : Option Answer) → (invoked_by p t o r).state.mode ≡ p.mode
invoke_mode p t o None = refl
invoke_mode p t o (Some a) = refl

admit_mode : (p : PartState) (c : CallEntry) (a : Admit) → (after_admit p c a).state.mode ≡ p.mode
admit_mode p c (admits.Reply a) = refl
admit_mode p c admits.TakeFrame = refl
admit_mode p c (admits.Enter index) = refl

enter_mode : (p : PartState) (t : ℕ) (o : Option CallEntry) → (entered_by p t o).state.mode ≡ p.mode
enter_mode p t None = refl
enter_mode p t (Some c) = admit_mode p c (admit p.spec.class t c.op p.log.holder (length p.queue))

lives_and_dies : (m n : Mode) → n ≡ m → is_dead m ≡ false → is_dead n ≡ true → ⊥
lives_and_dies m n e a d = true≢false (sym d ∙ ap is_dead e ∙ a)

-- a part is given up only by a Stop
pub gives_up : (p : PartState) (s : Step) → is_dead p.mode ≡ false → is_dead (stepped p s).state.mode ≡ true → StopsAll p (stepped p s)
unfolding stepped after_invoke after_enter burst_stepped after_arrival
gives_up p (step.Invoke t o) a d = absurd (lives_and_dies p.mode (stepped p (step.Invoke t o)).state.mode (invoke_mode p t o (static_check p.spec.class p.spec.blocks o)) a d)
gives_up p (step.Enter t) a d = absurd (lives_and_dies p.mode (stepped p (step.Enter t)).state.mode (enter_mode p t (call_of_thread t p.log.pending)) a d)
gives_up p (step.Burst context) a d =
    let b = domain_burst context (faults_of_burst (p.bursts + 1) p.spec.faults) p.domain in
    absurd (true≢false (sym d ∙ crossed_lives context b.ending (with_burst b.domain p) a))
gives_up p step.Stage a d = stage_gives_up p.mode p a d
gives_up p (step.Arrive frame) a d = absurd (true≢false (sym d ∙ a))
