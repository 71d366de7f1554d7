-- A disk whose driver kept the contract, and that answered no call with Gone, shows one run of the class's
-- never-failing disk, even if its part was given up with no call open.
use Rattle.std.proofs.Common.{◌≡◌, inl, inr, ℕ, ◌+◌, ◌<◌, ◌≤◌, ◌&&◌, not, is_some, nat_le, nat_lt, eqb, true, false, Option, Some, None, List, [], ◌∷◌, ◌++◌, length, eq-eqb, refl, sym, ap, subst, ◌∙◌, arith, true≢false}
use Rattle.std.specs.List.{AllByRecursion, list_any}
use Rattle.std.proofs.lemmas.Bool.{and_parts, cond-false, cond-true, leb-false, leb-true}
use Rattle.nook_data.specs.declared.calls.Answer.{Answer}
use Rattle.nook_data.specs.declared.calls.Answer.TheVariants as answered
use Rattle.nook_data.specs.declared.calls.CallEntry.{CallEntry}
use Rattle.nook_data.specs.declared.classes.Class.{Class}
use Rattle.nook_data.specs.declared.classes.Class.TheVariants as class
use Rattle.nook_data.specs.declared.steps.Event.{Event}
use Rattle.nook_data.specs.declared.steps.Event.TheVariants as event
use Rattle.nook_data.specs.declared.steps.Mode.{Mode}
use Rattle.nook_data.specs.declared.steps.Mode.TheVariants as mode
use Rattle.nook_data.specs.declared.calls.Op.{Op}
use Rattle.nook_data.specs.declared.scenario.PartSpec.{PartSpec}
use Rattle.nook_data.specs.declared.steps.Stage.TheVariants as stage
use Rattle.nook_data.specs.declared.steps.Step.TheVariants as step
use Rattle.part_defs.specs.Calls.{answer_in, after_invoke}
use Rattle.part_defs.proofs.PartCases.{invoked_by}
use Rattle.nook_data.specs.Classes.{same_class, static_check}
use Rattle.promise_defs.specs.Contract.{first_break, known_first}
use Rattle.promise_defs.specs.Ideal.{Ideal, IsClassRun, class_run, never_failing, ran}
use Rattle.part_defs.specs.Log.{call_of_thread, gone_answers, opening_log}
use Rattle.part_defs.specs.Views.CallLogs.{IsNumbered}
use Rattle.nook_data.specs.Answers.{one_answer}
use Rattle.part_defs.specs.Runs.{IsRun, IsRunFrom, event_of, state_after, state_from, state_of, step_of}
use Rattle.nook_data.specs.Answers.{answer_at, answer_among}
use Rattle.machine_defs.specs.Devices.{medium_of}
use Rattle.part_defs.specs.Domain.{collected_domain}
use Rattle.part_defs.specs.Stages.{collects, stage_due, stage_stepped}
use Rattle.part_defs.specs.State.{PartState}
use Rattle.part_defs.specs.Steps.{enabled, is_driven, is_inside, is_ready, is_running, opening, stepped}
use Rattle.promise_defs.specs.Trace.{Track, shown_answers, trace, trace_from}
use Rattle.part_laws.proofs.CallNumbers.{CameFrom, HasEntry, Quiet, small_calls}
use Rattle.part_laws.proofs.UnansweredCalls.{open_after}
use Rattle.part_laws.proofs.DeviceStays.{spec_after, run_spec}
use Rattle.part_laws.specs.Bound.{calls_of, is_invoke}
use Rattle.part_laws.specs.Facts.{is_dead}
use Rattle.part_laws.specs.Views.{ideal_of, view_of}
use Rattle.part_laws.specs.Recovery.{Gone, IsKeptRun, ShowsDevice, has_write, is_write_call}
use Rattle.part_laws.proofs.Counts.{counted_from}
use Rattle.part_laws.proofs.Indices.{split}
use Rattle.part_laws.proofs.ReadAloud.{kept_agrees, kept_facts}
use Rattle.part_laws.proofs.Recovered.{gone_stays}
use Rattle.part_laws.proofs.RunBound.{count_more}
use Rattle.part_laws.proofs.Stages.{with_mode}
use Rattle.mirror_block.specs.Sides.{Invocation, and_more, answers_given, first_answer, invocations, or_later}
use Rattle.mirror_block.proofs.Calls.{invoke_number, run_parts, state_parts}
use Rattle.mirrored_run.proofs.GivingUp.{GivenUp, StopsAll, given_up_in, gives_up, gone_given, has_gone, more_gone, trace_ends, unbroken_before}

-- each operation passes the static check of a disk with this many blocks
abbrev pub AreChecked : ℕ → List Invocation → Type 0
AreChecked blocks after_invoke = AllByRecursion (λ i. static_check class.Block blocks i.op ≡ None) after_invoke

-- ---- after a part was given up

abbrev reported_in : Event → Option Answer
reported_in (event.Invoke call thread o a) = a
reported_in _ = None

dead_answer : (m : Mode) (t : ℕ) (o : Op) (p : PartState) → is_dead m ≡ true → answer_in m t o p ≡ Some (answered.Gone p.failures)
dead_answer (mode.Boot s) t o p d = absurd cc
dead_answer mode.Running t o p d = absurd cc
dead_answer (mode.Recovering s) t o p d = absurd cc
dead_answer (mode.Dead collected) t o p d = refl

-- a part that was given up answers Gone to a call that passes the static check
dead_invoke : (p : PartState) (c t : ℕ) (o : Op) (a : Option Answer) → is_dead p.mode ≡ true → static_check p.spec.class p.spec.blocks o ≡ None
    → event_of p (step.Invoke t o) ≡ event.Invoke c t o a → a ≡ Some (answered.Gone p.failures)
unfolding stepped after_invoke
dead_invoke p c t o a d check e =
    sym (ap reported_in e) ∙ ap (λ (r : Option Answer). reported_in (invoked_by p t o r).event) check ∙ dead_answer p.mode t o p d

own_call : (call : ℕ) (a : Option Answer) → answer_among call (one_answer call a) ≡ a
own_call call None = refl
own_call call (Some a) = cond-true (eqb call call) (Some a) None (eq-eqb call call refl)

-- Gone is then among the answers
gone_first : (c t f : ℕ) (o : Op) (a : Option Answer) (events : List Event) → a ≡ Some (answered.Gone f) → has_gone (answers_given (event.Invoke c t o a ∷ events)) ≡ true
gone_first c t f o a events e =
    ap (λ (x : Option Answer). has_gone (and_more (or_later x (first_answer c events)) (answers_given events))) (own_call c a ∙ e)

dead_runs : (m : Mode) → is_dead m ≡ true → is_running m ≡ true → ⊥
dead_runs (mode.Dead collected) d r = absurd cc
dead_runs (mode.Boot s) d r = absurd cc
dead_runs mode.Running d r = absurd cc
dead_runs (mode.Recovering s) d r = absurd cc

dead_bursts : (p : PartState) (context : ℕ) → Gone p → enabled p (step.Burst context) ≡ true → ⊥
unfolding enabled
dead_bursts p context g e = split (eqb context 16)
    (λ t. true≢false (sym (sym (cond-true (eqb context 16) (is_driven p) (is_running p.mode && is_inside (call_of_thread context p.log.pending)) t) ∙ e) ∙ g.1))
    (λ t. dead_runs p.mode g.0 (and_parts (is_running p.mode) (is_inside (call_of_thread context p.log.pending))
    (sym (cond-false (eqb context 16) (is_driven p) (is_running p.mode && is_inside (call_of_thread context p.log.pending)) t) ∙ e)).0)

abbrev answers_in : Event → List (ℕ × Answer)
answers_in (event.Stage s answers released) = answers
answers_in _ = []

dead_stage : (m : Mode) (p : PartState) → is_dead m ≡ true → is_some (stage_due m) ≡ true → answers_in (stage_stepped (with_mode m p)).event ≡ []
unfolding stage_stepped collects
dead_stage (mode.Dead false) p d s = refl
dead_stage (mode.Dead true) p d s = absurd cc
dead_stage (mode.Boot s) p d e = absurd cc
dead_stage mode.Running p d s = absurd cc
dead_stage (mode.Recovering s) p d e = absurd cc

dead_stage_device : (m : Mode) (p : PartState) → is_dead m ≡ true → is_some (stage_due m) ≡ true → (stage_stepped (with_mode m p)).state.domain.device ≡ p.domain.device
unfolding stage_stepped collects collected_domain
dead_stage_device (mode.Dead false) p d s = refl
dead_stage_device (mode.Dead true) p d s = absurd cc
dead_stage_device (mode.Boot s) p d e = absurd cc
dead_stage_device mode.Running p d s = absurd cc
dead_stage_device (mode.Recovering s) p d e = absurd cc

no_arrival : (p : PartState) (frame : List ℕ) → p.spec.class ≡ class.Block → enabled p (step.Arrive frame) ≡ true → ⊥
unfolding enabled
no_arrival p frame b e =
    let k = and_parts (same_class p.spec.class class.Net && (nat_le 1 (length frame) && nat_le (length frame) 64)) (nat_lt p.arrived 100000) e in
    let l = and_parts (same_class p.spec.class class.Net) (nat_le 1 (length frame) && nat_le (length frame) 64) k.0 in
    absurd (true≢false (sym l.0 ∙ ap (λ (c : Class). same_class c class.Net) b))

module _ (spec : PartSpec) (block : spec.class ≡ class.Block) where
  checked_so : (p : PartState) (o : Op) → p.spec ≡ spec → static_check class.Block spec.blocks o ≡ None → static_check p.spec.class p.spec.blocks o ≡ None
  checked_so p o s c = ap (λ (x : PartSpec). static_check x.class x.blocks o) s ∙ ap (λ (x : Class). static_check x spec.blocks o) block ∙ c

  -- nothing is shown if nothing more is answered Gone
  nothing_shown : (events : List Event) (p : PartState) → Gone p → p.spec ≡ spec → IsRunFrom p events → AreChecked spec.blocks (invocations events)
      → has_gone (answers_given events) ≡ false → (ts : List Track) → trace_from ts events ≡ []
  unfolding IsRunFrom trace_from enabled stepped
  nothing_shown [] p g s r c n ts = refl
  nothing_shown (event.Invoke k t o a ∷ events) p g s r c n ts =
      absurd (true≢false (sym (gone_first k t p.failures o a events (dead_invoke p k t o a g.0 (checked_so p o s c.0) r.1)) ∙ n))
  nothing_shown (event.Enter k t attempt a ∷ events) p g s r c n ts =
      absurd (dead_runs p.mode g.0 (and_parts (is_running p.mode) (is_ready p (call_of_thread t p.log.pending)) r.0).0)
  nothing_shown (event.Burst context k burst count end acts a failure ∷ events) p g s r c n ts = absurd (dead_bursts p context g r.0)
  nothing_shown (event.Stage st answers released ∷ events) p g s r c n ts =
      let due = (and_parts (is_some (stage_due p.mode)) (not (is_driven p)) r.0).0 in
      let none : answers ≡ [] = sym (ap answers_in r.1) ∙ dead_stage p.mode p g.0 due in
      ap (λ (xs : List (ℕ × Answer)). shown_answers xs ts ++ trace_from ts events) none
      ∙ nothing_shown events (state_after p step.Stage) (gone_stays p step.Stage g r.0) (spec_after p step.Stage ∙ s) r.2 c n ts
  nothing_shown (event.Arrive frame kept ∷ events) p g s r c n ts = absurd (no_arrival p frame (ap (λ (x : PartSpec). x.class) s ∙ block) r.0)

  -- the device does not change either
  device_stays : (events : List Event) (p : PartState) → Gone p → p.spec ≡ spec → IsRunFrom p events → AreChecked spec.blocks (invocations events)
      → has_gone (answers_given events) ≡ false → (state_from p events).domain.device ≡ p.domain.device
  unfolding IsRunFrom state_from enabled stepped
  device_stays [] p g s r c n = refl
  device_stays (event.Invoke k t o a ∷ events) p g s r c n =
      absurd (true≢false (sym (gone_first k t p.failures o a events (dead_invoke p k t o a g.0 (checked_so p o s c.0) r.1)) ∙ n))
  device_stays (event.Enter k t attempt a ∷ events) p g s r c n =
      absurd (dead_runs p.mode g.0 (and_parts (is_running p.mode) (is_ready p (call_of_thread t p.log.pending)) r.0).0)
  device_stays (event.Burst context k burst count end acts a failure ∷ events) p g s r c n = absurd (dead_bursts p context g r.0)
  device_stays (event.Stage st answers released ∷ events) p g s r c n =
      device_stays events (state_after p step.Stage) (gone_stays p step.Stage g r.0) (spec_after p step.Stage ∙ s) r.2 c n
      ∙ dead_stage_device p.mode p g.0 (and_parts (is_some (stage_due p.mode)) (not (is_driven p)) r.0).0
  device_stays (event.Arrive frame kept ∷ events) p g s r c n = absurd (no_arrival p frame (ap (λ (x : PartSpec). x.class) s ∙ block) r.0)

-- ---- a call that was open when the part was given up

-- a call that was invoked in these events
record Invoked (k : ℕ) (events : List Event) : Type 0 where
  before : List Event
  thread : ℕ
  op : Op
  reported : Option Answer
  after : List Event
  parts : before ++ (event.Invoke k thread op reported ∷ after) ≡ events

-- if the event used up a call number, it invoked that call
invoked_first : (k : ℕ) (e : Event) (events : List Event) (p : PartState) → IsRunFrom p (e ∷ []) → (state_after p (step_of e)).log.count ≡ p.log.count + calls_of (e ∷ [])
    → p.log.count < k → k ≤ (state_after p (step_of e)).log.count → Invoked k (e ∷ events)
unfolding IsRunFrom
invoked_first k (event.Invoke c t o a) events p r n l m =
    let one = count_more is_invoke (event.Invoke c t o a) [] in
    let number = invoke_number p c t o a r.1 in
    let same : c ≡ k = omega arith in
    record { before = []; thread = t; op = o; reported = a; after = events; parts = ap (λ (j : ℕ). event.Invoke j t o a ∷ events) (sym same) }
invoked_first k (event.Enter c t attempt a) events p r n l m = let none = count_more is_invoke (event.Enter c t attempt a) [] in absurd (omega arith)
invoked_first k (event.Burst context c burst count end acts a failure) events p r n l m =
    let none = count_more is_invoke (event.Burst context c burst count end acts a failure) [] in absurd (omega arith)
invoked_first k (event.Stage s answers released) events p r n l m = let none = count_more is_invoke (event.Stage s answers released) [] in absurd (omega arith)
invoked_first k (event.Arrive frame kept) events p r n l m = let none = count_more is_invoke (event.Arrive frame kept) [] in absurd (omega arith)

-- a call number that a run used up belongs to a call that the run invoked
invoked_in : (k : ℕ) (events : List Event) (p : PartState) → IsRunFrom p events → p.log.count < k → k ≤ (state_from p events).log.count → Invoked k events
unfolding IsRunFrom state_from
invoked_in k [] p r l m = absurd (omega arith)
invoked_in k (e ∷ events) p r l m = split (nat_le k (state_after p (step_of e)).log.count)
    (λ t.
    let one : IsRunFrom p (e ∷ []) = (r.0, r.1, tt) in
    invoked_first k e events p one (counted_from p (e ∷ []) one).calls' l (leb-true k (state_after p (step_of e)).log.count t))
    (λ t.
    let i = invoked_in k events (state_after p (step_of e)) r.2 (leb-false k (state_after p (step_of e)).log.count t) m in
    record { before = e ∷ i.before; thread = i.thread; op = i.op; reported = i.reported; after = i.after; parts = ap (λ (l : List Event). e ∷ l) i.parts })

all_after : (P : Event → Type 0) (xs ys : List Event) → AllByRecursion P (xs ++ ys) → AllByRecursion P ys
all_after P [] ys h = h
all_after P (x ∷ xs) ys h = all_after P xs ys h.1

quiet_answers : (call thread : ℕ) (events : List Event) → AllByRecursion (Quiet call thread) events → AllByRecursion (λ e. answer_at call e ≡ None) events
quiet_answers call thread [] h = tt
quiet_answers call thread (e ∷ events) h = (h.0.0, quiet_answers call thread events h.1)

opening_numbered : (spec : PartSpec) → IsNumbered 0 (opening spec).log.count (opening spec).log.pending
unfolding opening opening_log
opening_numbered spec = omega arith

opening_none : (spec : PartSpec) → ((opening spec).log.count ≡ 0) × ((opening spec).log.pending ≡ [])
unfolding opening opening_log
opening_none spec = (refl, refl)

append_four : (xs ys zs : List Event) (x e : Event) → (xs ++ (x ∷ ys)) ++ (e ∷ zs) ≡ xs ++ (x ∷ (ys ++ (e ∷ zs)))
append_four [] ys zs x e = refl
append_four (w ∷ xs) ys zs x e = ap (λ (l : List Event). w ∷ l) (append_four xs ys zs x e)

open_gone : (spec : PartSpec) (before after : List Event) (e : Event) (c : CallEntry) (cs : List CallEntry) (failures : ℕ) → IsRun spec before
    → (state_of spec before).log.pending ≡ c ∷ cs → e ≡ event.Stage stage.Stop (gone_answers failures (c ∷ cs)) []
    → has_gone (answers_given (before ++ (e ∷ after))) ≡ true
open_gone spec before after e c cs failures run here stop =
    let q : PartState = state_of spec before in
    let o = open_after (opening spec) before (opening_numbered spec) run in
    let first = subst (AllByRecursion (λ (x : CallEntry). AllByRecursion (Quiet x.call x.thread) before × CameFrom (opening spec).log x.call x.thread)) here o.1 in
    let small = subst (AllByRecursion (λ (x : CallEntry). x.call ≤ q.log.count)) here (small_calls q.log.count q.log.pending o.0) in
    let i : Invoked c.call before = invoked_in c.call before (opening spec) run (came c.call c.thread first.0.1) small.0 in
    let quiet = all_after (λ x. answer_at c.call x ≡ None) i.before (event.Invoke c.call i.thread i.op i.reported ∷ i.after)
    (subst (AllByRecursion (λ x. answer_at c.call x ≡ None)) (sym i.parts) (quiet_answers c.call c.thread before first.0.0)) in
    let reported : answer_at c.call e ≡ Some (answered.Gone failures) =
    ap (answer_at c.call) stop ∙ cond-true (eqb c.call c.call) (Some (answered.Gone failures)) _ (eq-eqb c.call c.call refl) in
    subst (λ (l : List Event). has_gone (answers_given (l ++ (e ∷ after))) ≡ true) i.parts
    (ap (λ (l : List Event). has_gone (answers_given l)) (append_four i.before i.after after (event.Invoke c.call i.thread i.op i.reported) e)
    ∙ gone_given c.call i.thread i.op i.reported i.before i.after after e failures quiet reported)
  where
    came : (n t : ℕ) → CameFrom (opening spec).log n t → (opening spec).log.count < n
    came n t (inl k) = absurd (subst (λ (xs : List CallEntry). HasEntry xs n t) (opening_none spec).1 k)
    came n t (inr k) = k

-- ---- the whole

opening_alive : (spec : PartSpec) → is_dead (opening spec).mode ≡ false
unfolding opening
opening_alive spec = refl

pub invoked_parts : (xs ys : List Event) → invocations (xs ++ ys) ≡ invocations xs ++ invocations ys
invoked_parts [] ys = refl
invoked_parts (event.Invoke c t o a ∷ xs) ys = ap (λ (l : List Invocation). record { call = c; thread = t; op = o } ∷ l) (invoked_parts xs ys)
invoked_parts (event.Enter c t attempt a ∷ xs) ys = invoked_parts xs ys
invoked_parts (event.Burst context c burst count end acts a failure ∷ xs) ys = invoked_parts xs ys
invoked_parts (event.Stage s answers released ∷ xs) ys = invoked_parts xs ys
invoked_parts (event.Arrive frame kept ∷ xs) ys = invoked_parts xs ys

checked_after : (blocks : ℕ) (xs ys : List Invocation) → AreChecked blocks (xs ++ ys) → AreChecked blocks ys
checked_after blocks [] ys h = h
checked_after blocks (x ∷ xs) ys h = checked_after blocks xs ys h.1

-- if Gone is among the later answers, it is among all of them
gone_after : (xs ys : List Event) → has_gone (answers_given ys) ≡ true → has_gone (answers_given (xs ++ ys)) ≡ true
gone_after [] ys h = h
gone_after (event.Invoke c t o a ∷ xs) ys h = more_gone (first_answer c (event.Invoke c t o a ∷ (xs ++ ys))) (answers_given (xs ++ ys)) (gone_after xs ys h)
gone_after (event.Enter c t attempt a ∷ xs) ys h = gone_after xs ys h
gone_after (event.Burst context c burst count end acts a failure ∷ xs) ys h = gone_after xs ys h
gone_after (event.Stage s answers released ∷ xs) ys h = gone_after xs ys h
gone_after (event.Arrive frame kept ∷ xs) ys h = gone_after xs ys h

-- a Stop that answers nothing, and the events after it, show nothing
stop_shows : (spec : PartSpec) → spec.class ≡ class.Block → (q : PartState) (after : List Event) (ts : List Track) (e : Event)
    → e ≡ event.Stage stage.Stop [] [] → IsRunFrom q (e ∷ after) → AreChecked spec.blocks (invocations (e ∷ after))
    → has_gone (answers_given (e ∷ after)) ≡ false → Gone (state_after q (step_of e)) → (state_after q (step_of e)).spec ≡ spec
    → trace_from ts (e ∷ after) ≡ []
unfolding IsRunFrom trace_from
stop_shows spec block q after ts e h =
    subst (λ (x : Event). IsRunFrom q (x ∷ after) → AreChecked spec.blocks (invocations (x ∷ after)) → has_gone (answers_given (x ∷ after)) ≡ false
    → Gone (state_after q (step_of x)) → (state_after q (step_of x)).spec ≡ spec → trace_from ts (x ∷ after) ≡ [])
    (sym h) (λ r c n g s. nothing_shown spec block after (state_after q step.Stage) g s r.2 c n ts)

-- a Stop that answers nothing, and the events after it, leave the device unchanged
stop_device : (spec : PartSpec) → spec.class ≡ class.Block → (q : PartState) (after : List Event) (e : Event) → e ≡ event.Stage stage.Stop [] []
    → IsRunFrom q (e ∷ after) → AreChecked spec.blocks (invocations (e ∷ after)) → has_gone (answers_given (e ∷ after)) ≡ false
    → Gone (state_after q (step_of e)) → (state_after q (step_of e)).spec ≡ spec → (state_after q (step_of e)).domain.device ≡ q.domain.device
    → (state_from q (e ∷ after)).domain.device ≡ q.domain.device
unfolding IsRunFrom state_from
stop_device spec block q after e h =
    subst (λ (x : Event). IsRunFrom q (x ∷ after) → AreChecked spec.blocks (invocations (x ∷ after)) → has_gone (answers_given (x ∷ after)) ≡ false
    → Gone (state_after q (step_of x)) → (state_after q (step_of x)).spec ≡ spec → (state_after q (step_of x)).domain.device ≡ q.domain.device
    → (state_from q (x ∷ after)).domain.device ≡ q.domain.device)
    (sym h) (λ r c n g s d. device_stays spec block after (state_after q step.Stage) g s r.2 c n ∙ d)

-- events show one run of the never-failing disk, whose blocks are those of the part's medium if no Write is open
pub record ShowsOne (spec : PartSpec) (seen : List Event) : Type 0 where
  pub device : Ideal
  pub shows : ShowsDevice spec seen device
  pub medium : has_write (state_of spec seen) ≡ false → medium_of (state_of spec seen).domain.device ≡ device.blocks

shows_kept : (spec : PartSpec) (seen : List Event) → IsKeptRun spec seen → ShowsOne spec seen
shows_kept spec seen kept =
    let f = kept_facts spec seen kept in
    let device : Ideal = ideal_of (view_of (state_of spec seen)) f.past in
    record { device = device; shows = f.shown; medium = (kept_agrees spec seen device kept f.shown).medium }

pub shows_one : (spec : PartSpec) (seen : List Event) → spec.class ≡ class.Block → IsRun spec seen → first_break spec.class spec.blocks seen ≡ None
    → AreChecked spec.blocks (invocations seen) → has_gone (answers_given seen) ≡ false → ShowsOne spec seen
unfolding first_break trace IsRunFrom
shows_one spec seen block run contract checked none = split (is_dead (state_of spec seen).mode)
    (λ t. by_parts (given_up_in seen (opening spec) (opening_alive spec) t))
    (λ t. shows_kept spec seen (record { run = run; contract = contract; alive = t }))
  where
    by_parts : GivenUp (opening spec) seen → ShowsOne spec seen
    by_parts k = by_pending q.log.pending refl
      where
        q : PartState
        q = state_of spec k.before

        parts : IsRun spec k.before × IsRunFrom q (k.event ∷ k.after)
        parts = run_parts (opening spec) k.before (k.event ∷ k.after) (subst (IsRun spec) (sym k.parts) run)

        stops : StopsAll q (stepped q (step_of k.event))
        stops = gives_up q (step_of k.event) k.alive k.dead

        event_is : k.event ≡ event.Stage stage.Stop (gone_answers q.failures q.log.pending) []
        event_is = sym parts.1.1 ∙ stops.0

        before : ShowsOne spec k.before
        before = shows_kept spec k.before (record {
          run = parts.0;
          contract = unbroken_before 1 (known_first spec.class spec.blocks) k.before (k.event ∷ k.after)
              (ap (λ (l : List Event). first_break spec.class spec.blocks l) k.parts ∙ contract);
          alive = k.alive;
        })

        gone : Gone (state_after q (step_of k.event))
        gone = (k.dead, stops.1)

        same : (state_after q (step_of k.event)).spec ≡ spec
        same = spec_after q (step_of k.event) ∙ run_spec spec k.before parts.0

        checked_rest : AreChecked spec.blocks (invocations (k.event ∷ k.after))
        checked_rest = checked_after spec.blocks (invocations k.before) (invocations (k.event ∷ k.after))
            (subst (AreChecked spec.blocks) (ap invocations (sym k.parts) ∙ invoked_parts k.before (k.event ∷ k.after)) checked)

        none_rest : has_gone (answers_given (k.event ∷ k.after)) ≡ false
        none_rest = split (has_gone (answers_given (k.event ∷ k.after)))
            (λ t. absurd (true≢false (sym (gone_after k.before (k.event ∷ k.after) t) ∙ ap (λ (l : List Event). has_gone (answers_given l)) k.parts ∙ none)))
            (λ t. t)

        stops_so : q.log.pending ≡ [] → k.event ≡ event.Stage stage.Stop [] []
        stops_so h = event_is ∙ ap (λ (xs : List CallEntry). event.Stage stage.Stop (gone_answers q.failures xs) []) h

        nothing : q.log.pending ≡ [] → (ts : List Track) → trace_from ts (k.event ∷ k.after) ≡ []
        nothing h ts = stop_shows spec block q k.after ts k.event (stops_so h) parts.1 checked_rest none_rest gone same

        same_trace : q.log.pending ≡ [] → trace seen ≡ trace k.before
        same_trace h = ap (trace_from []) (sym k.parts) ∙ trace_ends k.before (k.event ∷ k.after) [] (nothing h)

        same_device : q.log.pending ≡ [] → (state_of spec seen).domain.device ≡ q.domain.device
        same_device h =
            ap (λ (l : List Event). (state_of spec l).domain.device) (sym k.parts)
            ∙ ap (λ (p : PartState). p.domain.device) (state_parts (opening spec) k.before (k.event ∷ k.after))
            ∙ stop_device spec block q k.after k.event (stops_so h) parts.1 checked_rest none_rest gone same stops.2

        by_pending : (xs : List CallEntry) → q.log.pending ≡ xs → ShowsOne spec seen
        by_pending (c ∷ cs) h = absurd (true≢false (sym
            (open_gone spec k.before k.after k.event c cs q.failures parts.0 h (event_is ∙ ap (λ (xs : List CallEntry). event.Stage stage.Stop (gone_answers q.failures xs) []) h))
            ∙ ap (λ (l : List Event). has_gone (answers_given l)) k.parts ∙ none))
        by_pending [] h = record {
          device = before.device;
          shows = ap (ran (never_failing spec.class spec.blocks)) (same_trace h) ∙ before.shows;
          medium = λ w. ap medium_of (same_device h) ∙ before.medium (ap (list_any is_write_call) h);
        }

pub one_run : (spec : PartSpec) (seen : List Event) → spec.class ≡ class.Block → IsRun spec seen → first_break spec.class spec.blocks seen ≡ None
    → AreChecked spec.blocks (invocations seen) → has_gone (answers_given seen) ≡ false → IsClassRun spec.class spec.blocks (trace seen)
unfolding class_run
one_run spec seen block run contract checked none = ap is_some (shows_one spec seen block run contract checked none).shows
