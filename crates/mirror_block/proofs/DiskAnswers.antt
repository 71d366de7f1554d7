-- What a part answers if only a Read or Write is open: blocks or done, a block that failed, or Gone.
use Rattle.std.proofs.Common.{◌≡◌, ◌⊎◌, inl, inr, ℕ, ◌+◌, Bool, true, false, cond, Option, Some, None, Result, Ok, Err, List, [], ◌∷◌, ◌++◌, length, map, filter, find, sym, refl, ap, subst, ◌∙◌}
use Rattle.std.specs.Prelude.{if◌then◌else◌, ◌==◌}
use Rattle.std.specs.List.{AllByRecursion}
use Rattle.nook_data.specs.declared.classes.Accept.{Accept}
use Rattle.nook_data.specs.declared.classes.Accept.TheVariants as accepts
use Rattle.nook_data.specs.declared.classes.Admit.{Admit}
use Rattle.nook_data.specs.declared.classes.Admit.TheVariants as admits
use Rattle.nook_data.specs.declared.calls.Answer.{Answer}
use Rattle.nook_data.specs.declared.calls.Answer.TheVariants as answered
use Rattle.nook_data.specs.declared.calls.CallEntry.{CallEntry}
use Rattle.nook_data.specs.declared.classes.Class.{Class}
use Rattle.nook_data.specs.declared.classes.Class.TheVariants.{Block}
use Rattle.nook_data.specs.declared.steps.End.TheVariants as end
use Rattle.nook_data.specs.declared.steps.FailCause.TheVariants as fail
use Rattle.nook_data.specs.declared.steps.Event.{Event}
use Rattle.nook_data.specs.declared.steps.Event.TheVariants as event
use Rattle.nook_data.specs.declared.steps.Mode.{Mode}
use Rattle.nook_data.specs.declared.steps.Mode.TheVariants as mode
use Rattle.nook_data.specs.declared.calls.Op.{Op}
use Rattle.nook_data.specs.declared.calls.Op.TheVariants.{Read, Write, Send, Recv, Open, Play, Close, Get, Set}
use Rattle.nook_data.specs.declared.scenario.PartSpec.{PartSpec}
use Rattle.nook_data.specs.declared.steps.Stage.{Stage}
use Rattle.nook_data.specs.declared.steps.Stage.TheVariants as stage
use Rattle.nook_data.specs.declared.steps.Step.{Step}
use Rattle.nook_data.specs.declared.steps.Step.TheVariants as step
use Rattle.nook_data.specs.declared.machine.BadParam.{BadParam}
use Rattle.nook_data.specs.declared.machine.BurstEnd.{BurstEnd}
use Rattle.nook_data.specs.declared.machine.BurstEnd.TheVariants as ends
use Rattle.nook_data.specs.declared.machine.Service.{Service}
use Rattle.nook_data.specs.Answers.{answer_among, answer_at, answers_of, one_answer}
use Rattle.nook_data.specs.Classes.{accept, admit, entry_address, static_check}
use Rattle.machine_defs.specs.BurstFaults.{faults_of_burst}
use Rattle.machine_defs.specs.Services.{checked}
use Rattle.part_defs.specs.Calls.{Stepped, after_admit, after_enter, after_invoke, answer_in, invoked_with, queue_in}
use Rattle.part_defs.specs.Crossing.{Crossed, after_crossing, call_replied, failed_crossing, goes_on, is_accepted, is_last, kernel_call, next_stage, refused_service, reply_answer, shadow_fault, shadow_replied, stage_in}
use Rattle.part_defs.specs.Domain.{domain_burst, first_argument, second_argument}
use Rattle.part_defs.specs.Log.{after_entering, call_of_thread, gone_answers, held_call, is_held, queue_after, shadow_answer, stop_answers, with_answer, with_answered_call, with_call}
use Rattle.part_defs.specs.Runs.{IsRun, IsRunFrom, event_of, state_after, state_from, state_of, step_of}
use Rattle.part_defs.specs.Stages.{collects, gives_up_part, inits, is_given_up, loads_image, replays_open, replays_set}
use Rattle.part_defs.specs.Stages.{resets, resumes, stage_done, stage_due, stage_stepped, stops}
use Rattle.part_defs.specs.State.{PartState}
use Rattle.part_defs.specs.Steps.{after_arrival, burst_stepped, opening, served_number, stepped}
use Rattle.part_defs.proofs.PartCases.{change_entry, entered_by, entered_call, invoked_by, is_of_thread, new_entry, reply_by, serve_by, stage_by, with_burst}
use Rattle.part_laws.proofs.DeviceStays.{run_spec}
use Rattle.part_laws.proofs.OrderlyRuns.{ClosesCall, ClosesNone, crossing_crosses}
use Rattle.part_laws.proofs.Indices.{some_same}
use Rattle.desk_like.specs.Desks.{DeskView, IsOther}
use Rattle.mirror_block.specs.Disk.{MayAnswer}
use Rattle.mirror_block.specs.Rule.{is_disk_op}
use Rattle.mirror_block.specs.Sides.{first_answer, or_later}
use Rattle.mirror_block.proofs.Calls.{run_parts}
use Rattle.mirror_block.proofs.Gains.{IsCalled}

-- each of these answers is an answer to the operation
abbrev pub AllMay : Op → List (ℕ × Answer) → Type 0
AllMay o answers = AllByRecursion (λ (x : ℕ × Answer). MayAnswer x.1 o) answers

-- no other operation is open
abbrev pub OnlyOp : Op → List CallEntry → Type 0
OnlyOp o pending = AllByRecursion (λ (c : CallEntry). c.op ≡ o) pending

-- a step answers only this operation, and leaves no other one open
record Fits (o : Op) (t : Stepped) : Type 0 where
  reported : AllMay o (answers_of t.event)
  only : OnlyOp o t.state.log.pending

-- a choice by a test has a property if both branches have it
by_either : {X : Type 0} (P : X → Type 0) (b : Bool) (x y : X) → P x → P y → P (if b then x else y)
by_either P true x y h k = h
by_either P false x y h k = k

-- ---- what the tables say about a Read or Write

admits_so : (o : Op) → is_disk_op o ≡ true → (class : Class) (thread : ℕ) (holder : Option ℕ) (queued : ℕ) → admit class thread o holder queued ≡ admits.Enter (entry_address class o)
admits_so (Read first count) d class thread holder queued = refl
admits_so (Write first words) d class thread holder queued = refl
admits_so (Send frame) d class thread holder queued = absurd cc
admits_so Recv d class thread holder queued = absurd cc
admits_so Open d class thread holder queued = absurd cc
admits_so (Play samples) d class thread holder queued = absurd cc
admits_so Close d class thread holder queued = absurd cc
admits_so (Get key) d class thread holder queued = absurd cc
admits_so (Set key value) d class thread holder queued = absurd cc

held_so : (o : Op) → is_disk_op o ≡ true → (thread : ℕ) (config : List ℕ) (holder : Option ℕ) (s : Stage) (queue : List (List ℕ)) → shadow_answer o thread config holder s queue ≡ None
unfolding shadow_answer
held_so (Read first count) d thread config holder s queue = refl
held_so (Write first words) d thread config holder s queue = refl
held_so (Send frame) d thread config holder s queue = absurd cc
held_so Recv d thread config holder s queue = absurd cc
held_so Open d thread config holder s queue = absurd cc
held_so (Play samples) d thread config holder s queue = absurd cc
held_so Close d thread config holder s queue = absurd cc
held_so (Get key) d thread config holder s queue = absurd cc
held_so (Set key value) d thread config holder s queue = absurd cc

reply_may : (o : Op) → is_disk_op o ≡ true → (thread : ℕ) (p : PartState) → MayAnswer (reply_answer o thread p) o
reply_may (Read first count) d thread p = tt
reply_may (Write first words) d thread p = tt
reply_may (Send frame) d thread p = absurd cc
reply_may Recv d thread p = absurd cc
reply_may Open d thread p = absurd cc
reply_may (Play samples) d thread p = absurd cc
reply_may Close d thread p = absurd cc
reply_may (Get key) d thread p = absurd cc
reply_may (Set key value) d thread p = absurd cc

module _ (o : Op) (disk : is_disk_op o ≡ true) where
  -- ---- lists of open calls

  mapped_only : (f : CallEntry → CallEntry) (xs : List CallEntry) → ((c : CallEntry) → (f c).op ≡ c.op) → OnlyOp o xs → OnlyOp o (map f xs)
  mapped_only f [] k h = tt
  mapped_only f (x ∷ xs) k h = (k x ∙ h.0, mapped_only f xs k h.1)

  filtered_only : (test : CallEntry → Bool) (xs : List CallEntry) → OnlyOp o xs → OnlyOp o (filter test xs)
  filtered_only test [] h = tt
  filtered_only test (x ∷ xs) h = by_test (test x) (filtered_only test xs h.1)
    where
      by_test : (b : Bool) → OnlyOp o (filter test xs) → OnlyOp o (cond b (x ∷ filter test xs) (filter test xs))
      by_test true r = (h.0, r)
      by_test false r = r

  pushed_only : (xs : List CallEntry) (c : CallEntry) → c.op ≡ o → OnlyOp o xs → OnlyOp o (xs ++ c ∷ [])
  pushed_only [] c e h = (e, tt)
  pushed_only (x ∷ xs) c e h = (h.0, pushed_only xs c e h.1)

  found_op : (thread : ℕ) (xs : List CallEntry) (c : CallEntry) → OnlyOp o xs → call_of_thread thread xs ≡ Some c → c.op ≡ o
  found_op thread [] c h e = absurd cc
  found_op thread (x ∷ xs) c h e = by_test (x.thread == thread) refl (found_op thread xs c h.1)
    where
      by_test : (b : Bool) → (x.thread == thread) ≡ b → (call_of_thread thread xs ≡ Some c → c.op ≡ o) → c.op ≡ o
      by_test true q later =
          ap (λ (y : CallEntry). y.op) (sym (some_same x c (sym (ap (λ b. cond b (Some x) (find (is_of_thread thread) xs)) q) ∙ e))) ∙ h.0
      by_test false q later = later (sym (ap (λ b. cond b (Some x) (find (is_of_thread thread) xs)) q) ∙ e)

  one_may : (call : ℕ) (a : Option Answer) → ((x : Answer) → a ≡ Some x → MayAnswer x o) → AllMay o (one_answer call a)
  one_may call None h = tt
  one_may call (Some x) h = (h x refl, tt)

  -- ---- invocations

  invoke_fits : (p : PartState) (thread : ℕ) (a : Option Answer) (queue : List (List ℕ)) → OnlyOp o p.log.pending → ((x : Answer) → a ≡ Some x → MayAnswer x o)
      → Fits o (invoked_with p thread o a queue)
  unfolding with_call with_answered_call
  invoke_fits p thread None queue h f = record { reported = tt; only = pushed_only p.log.pending (new_entry (p.log.count + 1) thread o) refl h }
  invoke_fits p thread (Some x) queue h f = record { reported = (f x refl, tt); only = h }

  mode_may : (m : Mode) (p : PartState) (thread : ℕ) (x : Answer) → answer_in m thread o p ≡ Some x → MayAnswer x o
  mode_may (mode.Boot s) p thread x h = absurd cc
  mode_may mode.Running p thread x h = absurd cc
  mode_may (mode.Recovering s) p thread x h =
      absurd (let f : None ≡ Some x = sym (held_so o disk thread p.log.config p.log.holder s p.queue) ∙ h in cc)
  mode_may (mode.Dead collected) p thread x h = subst (λ (a : Answer). MayAnswer a o) (some_same (answered.Gone p.failures) x h) tt

  invoked_fits : (p : PartState) (thread : ℕ) → OnlyOp o p.log.pending → static_check p.spec.class p.spec.blocks o ≡ None → Fits o (stepped p (step.Invoke thread o))
  unfolding stepped after_invoke
  invoked_fits p thread h check =
      subst (λ (c : Option Answer). Fits o (invoked_by p thread o c)) (sym check)
      (invoke_fits p thread (answer_in p.mode thread o p) (queue_in p.mode o p.queue) h (mode_may p.mode p thread))

  -- ---- entries

  enters_op : (call : ℕ) (c : CallEntry) → (change_entry call entered_call c).op ≡ c.op
  enters_op call c = elim (c.call == call) as (λ b. (if b then entered_call c else c).op ≡ c.op) [ true ↦ refl | false ↦ refl ]

  admitted_fits : (p : PartState) (c : CallEntry) (index : ℕ) → OnlyOp o p.log.pending → Fits o (after_admit p c (admits.Enter index))
  unfolding after_entering
  admitted_fits p c index h = record { reported = tt; only = mapped_only (change_entry c.call entered_call) p.log.pending (enters_op c.call) h }

  enter_fits : (p : PartState) (thread : ℕ) (c : Option CallEntry) → call_of_thread thread p.log.pending ≡ c → OnlyOp o p.log.pending → Fits o (entered_by p thread c)
  enter_fits p thread None e h = record { reported = tt; only = h }
  enter_fits p thread (Some c) e h =
      let enters : admit p.spec.class thread c.op p.log.holder (length p.queue) ≡ admits.Enter (entry_address p.spec.class o) =
      ap (λ (x : Op). admit p.spec.class thread x p.log.holder (length p.queue)) (found_op thread p.log.pending c h e)
      ∙ admits_so o disk p.spec.class thread p.log.holder (length p.queue) in
      subst (λ (a : Admit). Fits o (after_admit p c a)) (sym enters) (admitted_fits p c (entry_address p.spec.class o) h)

  -- ---- crossings

  -- a crossing answers only this operation
  abbrev Reports : Crossed → Type 0
  Reports x = (a : Answer) → x.answer ≡ Some a → MayAnswer a o

  serve_reports : (number context : ℕ) (p : PartState) (r : Result Service BadParam) → Reports (serve_by number context p r)
  serve_reports number context p (Err bad) a h = absurd cc
  serve_reports number context p (Ok s) a h = absurd cc

  shadow_reports : (status : ℕ) (p : PartState) → Reports (shadow_replied status p)
  shadow_reports status p =
      by_either Reports (is_accepted status p) (goes_on (next_stage p) (end.Reply status)) (failed_crossing p (end.Reply status) (shadow_fault status (stage_in p.mode)))
      (λ a h. absurd cc) (λ a h. absurd cc)

  reply_reports : (c : CallEntry) (status : ℕ) (p : PartState) (r : Accept) → c.op ≡ o → Reports (reply_by c status p r)
  reply_reports c status p accepts.Take e a h =
      subst (λ (x : Answer). MayAnswer x o) (some_same (reply_answer c.op c.thread p) a h)
      (subst (λ (q : Op). MayAnswer (reply_answer q c.thread p) o) (sym e) (reply_may o disk c.thread p))
  reply_reports c status p (accepts.IoError block) e a h = subst (λ (x : Answer). MayAnswer x o) (some_same (answered.IoError block) a h) tt
  reply_reports c status p (accepts.Fail cause) e a h = absurd cc

  call_reports : (status : ℕ) (p : PartState) (c : Option CallEntry) → ((x : CallEntry) → c ≡ Some x → x.op ≡ o) → Reports (call_replied status p c)
  call_reports status p None f a h = absurd cc
  call_reports status p (Some c) f a h = reply_reports c status p (accept c.op status) (f c refl) a h

  crossing_reports : (context : ℕ) (e : BurstEnd) (p : PartState) → OnlyOp o p.log.pending → Reports (after_crossing context e p)
  unfolding after_crossing
  crossing_reports context (ends.Trap cause) p h = λ a k. absurd cc
  crossing_reports context (ends.Kcall number) p h =
      by_either Reports (is_last context p) (failed_crossing p (refused_service number context p) fail.TooManyCrossings) (kernel_call number context p) (λ a k. absurd cc)
      (serve_reports number context p (checked number (first_argument context p.domain) (second_argument context p.domain) p.spec.class p.domain.entries))
  crossing_reports context ends.Pause p h =
      by_either Reports (is_last context p) (failed_crossing p end.Pause fail.TooManyCrossings) (goes_on p end.Pause) (λ a k. absurd cc) (λ a k. absurd cc)
  crossing_reports context (ends.Reply status) p h =
      by_either Reports (context == 16) (shadow_replied status p) (call_replied status p (call_of_thread context p.log.pending)) (shadow_reports status p)
      (call_reports status p (call_of_thread context p.log.pending) (λ x e. found_op context p.log.pending x h e))

  closes_only : (context : ℕ) (p : PartState) (x : Crossed) → OnlyOp o p.log.pending → ClosesNone p x ⊎ ClosesCall context p x → OnlyOp o x.state.log.pending
  closes_only context p x h (inl k) = subst (OnlyOp o) (sym k.pending) h
  closes_only context p x h (inr k) = subst (OnlyOp o) (sym k.closed) (filtered_only _ p.log.pending h)

  burst_fits : (p : PartState) (context : ℕ) → OnlyOp o p.log.pending → Fits o (burst_stepped context p)
  unfolding burst_stepped
  burst_fits p context h =
      let b = domain_burst context (faults_of_burst (p.bursts + 1) p.spec.faults) p.domain in
      let q : PartState = with_burst b.domain p in record {
        reported = one_may (served_number context p) (after_crossing context b.ending q).answer (crossing_reports context b.ending q h);
        only = closes_only context q (after_crossing context b.ending q) h (crossing_crosses context b.ending q).1;
      }

  -- ---- stages

  gone_may : (failures : ℕ) (xs : List CallEntry) → AllMay o (gone_answers failures xs)
  gone_may failures [] = tt
  gone_may failures (x ∷ xs) = (tt, gone_may failures xs)

  stop_may : (xs : List CallEntry) (config : List ℕ) (holder : Option ℕ) (queue : List (List ℕ)) → OnlyOp o xs → AllMay o (stop_answers xs config holder queue)
  stop_may [] config holder queue h = tt
  stop_may (x ∷ xs) config holder queue h =
      subst (λ (a : Option Answer). AllMay o (with_answer x.call a (stop_answers xs config holder (queue_after x.op queue))))
      (sym (ap (λ (q : Op). shadow_answer q x.thread config holder stage.Stop queue) h.0 ∙ held_so o disk x.thread config holder stage.Stop queue))
      (stop_may xs config holder (queue_after x.op queue) h.1)

  stop_fits : (p : PartState) (b : Bool) → OnlyOp o p.log.pending → Fits o (if b then gives_up_part p else stops p)
  unfolding gives_up_part stops
  stop_fits p true h = record { reported = gone_may p.failures p.log.pending; only = tt }
  stop_fits p false h = record {
    reported = stop_may p.log.pending p.log.config p.log.holder p.queue h;
    only = mapped_only held_call (filter (λ c. is_held c.op) p.log.pending) (λ c. refl) (filtered_only (λ c. is_held c.op) p.log.pending h);
  }

  stage_fits : (s : Stage) (p : PartState) → OnlyOp o p.log.pending → Fits o (stage_done s p)
  unfolding collects resets loads_image inits replays_set replays_open resumes
  stage_fits stage.Stop p h = stop_fits p (is_given_up p) h
  stage_fits stage.Collect p h = record { reported = tt; only = h }
  stage_fits stage.Reset p h = record { reported = tt; only = h }
  stage_fits stage.Load p h = record { reported = tt; only = h }
  stage_fits stage.Init p h = record { reported = tt; only = h }
  stage_fits (stage.ReplaySet key value) p h = record { reported = tt; only = h }
  stage_fits stage.ReplayOpen p h = record { reported = tt; only = h }
  stage_fits stage.Resume p h = record { reported = tt; only = h }

  stage_by_fits : (p : PartState) (s : Option Stage) → OnlyOp o p.log.pending → Fits o (stage_by p s)
  stage_by_fits p None h = record { reported = tt; only = h }
  stage_by_fits p (Some s) h = stage_fits s p h

  -- ---- any step that is not an invocation, and runs of such steps

  invokes_not : (p : PartState) (t : ℕ) (q : Op) (r : Option Answer) → IsOther (invoked_by p t q r).event → ⊥
  invokes_not p t q None k = k
  invokes_not p t q (Some a) k = k

  step_fits : (p : PartState) (s : Step) → OnlyOp o p.log.pending → IsOther (event_of p s) → Fits o (stepped p s)
  unfolding stepped after_invoke after_enter stage_stepped after_arrival
  step_fits p (step.Invoke t q) h other = absurd (invokes_not p t q (static_check p.spec.class p.spec.blocks q) other)
  step_fits p (step.Enter t) h other = enter_fits p t (call_of_thread t p.log.pending) refl h
  step_fits p (step.Burst context) h other = burst_fits p context h
  step_fits p step.Stage h other = stage_by_fits p (stage_due p.mode) h
  step_fits p (step.Arrive frame) h other = absurd other

  others_fit : (events : List Event) (p : PartState) → OnlyOp o p.log.pending → AllByRecursion IsOther events → IsRunFrom p events
      → AllByRecursion (λ e. AllMay o (answers_of e)) events × OnlyOp o (state_from p events).log.pending
  unfolding IsRunFrom state_from
  others_fit [] p h others r = (tt, h)
  others_fit (e ∷ events) p h others r =
      let k : Fits o (stepped p (step_of e)) = step_fits p (step_of e) h (subst IsOther (sym r.1) others.0) in
      let rest = others_fit events (state_after p (step_of e)) k.only others.1 r.2 in
      ((subst (λ (x : Event). AllMay o (answers_of x)) r.1 k.reported, rest.0), rest.1)

  -- after events that invoke nothing, only this operation is still open
  pub others_only : (events : List Event) (p : PartState) → OnlyOp o p.log.pending → AllByRecursion IsOther events → IsRunFrom p events
      → OnlyOp o (state_from p events).log.pending
  others_only events p h others r = (others_fit events p h others r).1

  -- ---- the answer of one call

  among_may : (call : ℕ) (xs : List (ℕ × Answer)) (a : Answer) → AllMay o xs → answer_among call xs ≡ Some a → MayAnswer a o
  among_may call [] a h e = absurd cc
  among_may call (x ∷ xs) a h e = by_test (x.0 == call) e (among_may call xs a h.1)
    where
      by_test : (b : Bool) → (if b then Some x.1 else answer_among call xs) ≡ Some a → (answer_among call xs ≡ Some a → MayAnswer a o) → MayAnswer a o
      by_test true k later = subst (λ (y : Answer). MayAnswer y o) (some_same x.1 a k) h.0
      by_test false k later = later k

  first_may : (call : ℕ) (events : List Event) (a : Answer) → AllByRecursion (λ e. AllMay o (answers_of e)) events → first_answer call events ≡ Some a → MayAnswer a o
  first_may call [] a h k = absurd cc
  first_may call (e ∷ events) a h k = by_first (answer_at call e) refl k (first_may call events a h.1)
    where
      by_first : (x : Option Answer) → answer_at call e ≡ x → or_later x (first_answer call events) ≡ Some a → (first_answer call events ≡ Some a → MayAnswer a o) → MayAnswer a o
      by_first None q k later = later k
      by_first (Some b) q same later = subst (λ (y : Answer). MayAnswer y o) (some_same b a same) (among_may call (answers_of e) b h.0 q)

-- a call that passed the static check gets one of these answers
pub called_may : (spec : PartSpec) (old new : DeskView) (call : ℕ) (o : Op) → is_disk_op o ≡ true → spec.class ≡ Block → IsRun spec new.seen
    → (state_of spec old.seen).log.pending ≡ [] → (c : IsCalled old new call o) → static_check Block spec.blocks o ≡ None → (a : Answer)
    → first_answer call (event.Invoke call 0 o c.answer ∷ c.tail) ≡ Some a → MayAnswer a o
unfolding IsRunFrom
called_may spec old new call o disk class run none c check a h =
    let first : Event = event.Invoke call 0 o c.answer in
    let p : PartState = state_of spec old.seen in
    let parts = run_parts (opening spec) old.seen (first ∷ c.tail) (subst (IsRun spec) (sym c.seen) run) in
    let passes : static_check p.spec.class p.spec.blocks o ≡ None =
    ap (λ (s : PartSpec). static_check s.class s.blocks o) (run_spec spec old.seen parts.0) ∙ ap (λ (k : Class). static_check k spec.blocks o) class ∙ check in
    let k : Fits o (stepped p (step.Invoke 0 o)) = invoked_fits o disk p 0 (subst (OnlyOp o) (sym none) tt) passes in
    let rest = others_fit o disk c.tail (state_after p (step.Invoke 0 o)) k.only c.others parts.1.2 in
    first_may o disk call (first ∷ c.tail) a (subst (λ (x : Event). AllMay o (answers_of x)) parts.1.1 k.reported, rest.0) h
