use Rattle.std.proofs.Common.{◌≡◌, inl, inr, ℕ, ◌+◌, ◌<◌, ◌&&◌, nat_lt, is_none, true, false, Option, Some, None, List, [], ◌∷◌, ◌++◌, length, map, refl, sym, ap, ◌∙◌, subst, arith}
use Rattle.std.specs.List.{list_any, filter, AllByRecursion}
use Rattle.std.proofs.lemmas.Bool.{and_parts, ltb-true}
use Rattle.nook_data.specs.declared.classes.Admit.{Admit}
use Rattle.nook_data.specs.declared.classes.Admit.TheVariants as admits
use Rattle.nook_data.specs.declared.calls.Answer.{Answer}
use Rattle.nook_data.specs.declared.calls.CallEntry.{CallEntry}
use Rattle.nook_data.specs.declared.classes.Class.{Class}
use Rattle.nook_data.specs.declared.steps.Event.{Event}
use Rattle.nook_data.specs.declared.steps.Mode.TheVariants as mode
use Rattle.nook_data.specs.declared.calls.Op.{Op}
use Rattle.nook_data.specs.declared.calls.Op.TheVariants as op
use Rattle.nook_data.specs.declared.scenario.PartSpec.{PartSpec}
use Rattle.nook_data.specs.declared.steps.Stage.{Stage}
use Rattle.nook_data.specs.declared.steps.Stage.TheVariants as stage
use Rattle.nook_data.specs.declared.steps.Step.{Step}
use Rattle.nook_data.specs.declared.steps.Step.TheVariants as step
use Rattle.part_defs.specs.Calls.{Stepped, after_invoke, answer_in, queue_in, after_enter, after_admit}
use Rattle.nook_data.specs.Classes.{static_check, admit, init_address, open_point, set_position}
use Rattle.part_defs.specs.Crossing.{Crossed, after_crossing, heap_start}
use Rattle.machine_defs.specs.Devices.{with_arrival}
use Rattle.nook_data.specs.Frames.{tail_of}
use Rattle.part_defs.specs.Domain.{DomainBurst, domain_burst, entered_domain, plainly_entered, stopped_domain}
use Rattle.part_defs.specs.Domain.{collected_domain, loaded_domain, opening_domain}
use Rattle.machine_defs.specs.Entries.{is_borrow_of}
use Rattle.promise_defs.specs.Isolation.{KeepsWithin, IsIsolatedStep, IsIsolatedFrom, IsIsolated}
use Rattle.part_defs.specs.Log.{with_call, with_answered_call, after_entering, after_answering, held_call, is_call}
use Rattle.part_defs.specs.Log.{call_of_thread, stop_queue, is_held}
use Rattle.part_defs.proofs.PartCases.{burst_step, change_entry, entered_by, entered_call, invoked_by, log_after_invoke}
use Rattle.part_defs.proofs.PartCases.{new_entry, stage_by, stop_calls, with_burst}
use Rattle.part_defs.specs.Runs.{step_of, state_after, state_from, IsRunFrom, IsRun}
use Rattle.part_defs.specs.Stages.{stage_due, with_stage, is_given_up, stops, gives_up_part, collects, with_reset}
use Rattle.part_defs.specs.Stages.{resets, loads_image, inits, replays_set, replays_open, resumes, stage_done}
use Rattle.part_defs.specs.Stages.{stage_stepped}
use Rattle.part_defs.specs.State.{CallLog, PartState}
use Rattle.part_defs.specs.Steps.{opening, enabled, can_invoke, burst_stepped, after_arrival, stepped}
use Rattle.machine_defs.specs.BurstFaults.{faults_of_burst}
use Rattle.part_defs.specs.Log.{opening_log}
use Rattle.part_laws.proofs.BurstIsolation.{domain_within}
use Rattle.machine_defs.proofs.BurstKeeps.{split}
use Rattle.part_laws.proofs.CrossingFit.{unmoved, quiet, CrossKept, crossed_kept, found_fits}
use Rattle.part_laws.proofs.DomainFit.{DomainKept, entered_kept, plainly_kept, stopped_kept, collected_kept, loaded_kept, BurstKept, burst_kept, opening_domain_fit, opening_reported}
use Rattle.part_laws.proofs.EntriesFit.{filter_fits, collect_leaves, IsCollected}
use Rattle.part_laws.proofs.Objects.{SameObjects, nothing_changed, object_stays, op_fits_buffer}
use Rattle.part_laws.specs.Collection.{CollectsAt, CollectsFrom, IsCollecting}
use Rattle.part_laws.specs.Fit.{IsFitSpec, IsFitCall, IsFitLog, IsFit}

-- Each step keeps the invariant of parts, and the kernel's objects.

pub record StepKept (p : PartState) (t : Stepped) : Type 0 where
  pub fit : IsFit t.state
  pub isolated : IsIsolatedStep p t.event t.state
  pub collected : CollectsAt p t.event t.state

quiet_isolated : (p : PartState) (e : Event) (q : PartState) → IsFit q → SameObjects p.domain.memory q.domain.memory → KeepsWithin p e
    → IsIsolatedStep p e q
quiet_isolated p e q f s w = record {
  objects = λ object one twelve. inl (object_stays object p.domain.memory q.domain.memory s);
  kernel = inl (object_stays 0 p.domain.memory q.domain.memory s);
  record_reported = f.reported;
  within = w;
}

-- no driver runs
quiet_step : (p : PartState) (t : Stepped) → IsFit t.state → SameObjects p.domain.memory t.state.domain.memory
    → KeepsWithin p t.event → CollectsAt p t.event t.state → StepKept p t
quiet_step p t f s w c = record { fit = f; isolated = quiet_isolated p t.event t.state f s w; collected = c }

-- lists of calls

pub all_push : {X : Type 0} (P : X → Type 0) (xs : List X) (x : X) → AllByRecursion P xs → P x → AllByRecursion P (xs ++ x ∷ [])
all_push P [] x all h = (h, tt)
all_push P (y ∷ xs) x all h = (all.0, all_push P xs x all.1 h)

pub all_map : {X : Type 0} (P : X → Type 0) (f : X → X) (xs : List X) → ((x : X) → P x → P (f x)) → AllByRecursion P xs
    → AllByRecursion P (map f xs)
all_map P f [] keeps all = tt
all_map P f (x ∷ xs) keeps all = (keeps x all.0, all_map P f xs keeps all.1)

entered_call_fits : (class : Class) (blocks call : ℕ) (c : CallEntry) → IsFitCall class blocks c
    → IsFitCall class blocks (change_entry call entered_call c)
entered_call_fits class blocks call c f = split (is_call call c)
    (λ yes'. rw yes' (record { thread = f.thread; checked = f.checked }))
    (λ no'. rw no' f)

-- Invoke

logged_fits : (class : Class) (blocks thread : ℕ) (o : Op) (a : Option Answer) (log : CallLog) → thread < 16
    → static_check class blocks o ≡ None → IsFitLog class blocks log
    → IsFitLog class blocks (log_after_invoke thread o a log) × ((log_after_invoke thread o a log).config ≡ log.config)
unfolding with_call with_answered_call
logged_fits class blocks thread o None log t h f = (
  record {
    config = f.config;
    defaults = f.defaults;
    calls = all_push (IsFitCall class blocks) log.pending (new_entry (log.count + 1) thread o) f.calls (record { thread = t; checked = h });
  },
  refl,
)
logged_fits class blocks thread o (Some a) log t h f = (record { config = f.config; defaults = f.defaults; calls = f.calls }, refl)

numbered_fits : (class : Class) (blocks : ℕ) (log : CallLog) → IsFitLog class blocks log
    → IsFitLog class blocks (with_answered_call log) × ((with_answered_call log).config ≡ log.config)
unfolding with_answered_call
numbered_fits class blocks log f = (record { config = f.config; defaults = f.defaults; calls = f.calls }, refl)

invoked_kept_by : (p : PartState) (thread : ℕ) (o : Op) (r : Option Answer) → IsFit p → thread < 16
    → static_check p.spec.class p.spec.blocks o ≡ r → StepKept p (invoked_by p thread o r)
invoked_kept_by p thread o None f t h =
    let a : Option Answer = answer_in p.mode thread o p in
    let l : IsFitLog p.spec.class p.spec.blocks (log_after_invoke thread o a p.log) × ((log_after_invoke thread o a p.log).config ≡ p.log.config) =
    logged_fits p.spec.class p.spec.blocks thread o a p.log t h f.log in
    quiet_step p (invoked_by p thread o None)
    (quiet p p.domain (log_after_invoke thread o a p.log) (queue_in p.mode o p.queue) p.mode p.bursts p.arrived f (unmoved p f) l.0 l.1)
    (nothing_changed p.domain.memory) tt tt
invoked_kept_by p thread o (Some a) f t h =
    let l : IsFitLog p.spec.class p.spec.blocks (with_answered_call p.log) × ((with_answered_call p.log).config ≡ p.log.config) =
    numbered_fits p.spec.class p.spec.blocks p.log f.log in
    quiet_step p (invoked_by p thread o (Some a))
    (quiet p p.domain (with_answered_call p.log) p.queue p.mode p.bursts p.arrived f (unmoved p f) l.0 l.1)
    (nothing_changed p.domain.memory) tt tt

invoked_kept : (p : PartState) (thread : ℕ) (o : Op) → IsFit p → can_invoke p thread ≡ true → StepKept p (after_invoke thread o p)
unfolding after_invoke
invoked_kept p thread o f e =
    invoked_kept_by p thread o (static_check p.spec.class p.spec.blocks o) f
    (ltb-true thread 16 (and_parts (nat_lt thread 16) (is_none (call_of_thread thread p.log.pending))
    (and_parts (nat_lt thread 16 && is_none (call_of_thread thread p.log.pending)) (nat_lt p.log.count 100000) e).0).0) refl

-- Enter

answered_fits : (class : Class) (blocks call : ℕ) (log : CallLog) → IsFitLog class blocks log
    → IsFitLog class blocks (after_answering call log) × ((after_answering call log).config ≡ log.config)
unfolding after_answering
answered_fits class blocks call log f =
    (record { config = f.config; defaults = f.defaults; calls = filter_fits (IsFitCall class blocks) _ log.pending f.calls }, refl)

entered_fits : (class : Class) (blocks call : ℕ) (log : CallLog) → IsFitLog class blocks log
    → IsFitLog class blocks (after_entering call log) × ((after_entering call log).config ≡ log.config)
unfolding after_entering
entered_fits class blocks call log f = (
  record {
    config = f.config;
    defaults = f.defaults;
    calls = all_map (IsFitCall class blocks) (change_entry call entered_call) log.pending (entered_call_fits class blocks call) f.calls;
  },
  refl,
)

admitted_kept : (p : PartState) (c : CallEntry) (a : Admit) → IsFit p → IsFitCall p.spec.class p.spec.blocks c → StepKept p (after_admit p c a)
admitted_kept p c (admits.Reply a) f k =
    let l = answered_fits p.spec.class p.spec.blocks c.call p.log f.log in
    quiet_step p (after_admit p c (admits.Reply a))
    (quiet p p.domain (after_answering c.call p.log) p.queue p.mode p.bursts p.arrived f (unmoved p f) l.0 l.1)
    (nothing_changed p.domain.memory) tt tt
admitted_kept p c admits.TakeFrame f k =
    let l = answered_fits p.spec.class p.spec.blocks c.call p.log f.log in
    quiet_step p (after_admit p c admits.TakeFrame)
    (quiet p p.domain (after_answering c.call p.log) (tail_of p.queue) p.mode p.bursts p.arrived f (unmoved p f) l.0 l.1)
    (nothing_changed p.domain.memory) tt tt
admitted_kept p c (admits.Enter index) f k =
    let l = entered_fits p.spec.class p.spec.blocks c.call p.log f.log in
    let t : c.thread < 16 = k.thread in
    let d : DomainKept (heap_start p) p.domain (entered_domain c.thread index c.op p.domain) =
    entered_kept (heap_start p) c.thread index c.op p.domain f.domain (omega arith) (op_fits_buffer p.spec.class p.spec.blocks c.op k.checked) in
    quiet_step p (after_admit p c (admits.Enter index))
    (quiet p (entered_domain c.thread index c.op p.domain) (after_entering c.call p.log) p.queue p.mode p.bursts p.arrived f d l.0 l.1)
    d.objects tt tt

entered_kept_by : (p : PartState) (thread : ℕ) (o : Option CallEntry) → IsFit p → call_of_thread thread p.log.pending ≡ o
    → StepKept p (entered_by p thread o)
entered_kept_by p thread None f e = quiet_step p (entered_by p thread None) f (nothing_changed p.domain.memory) tt tt
entered_kept_by p thread (Some c) f e =
    admitted_kept p c (admit p.spec.class thread c.op p.log.holder (length p.queue)) f
    (found_fits (IsFitCall p.spec.class p.spec.blocks) _ p.log.pending c f.log.calls e)

entered_part_kept : (p : PartState) (thread : ℕ) → IsFit p → StepKept p (after_enter thread p)
unfolding after_enter
entered_part_kept p thread f = entered_kept_by p thread (call_of_thread thread p.log.pending) f refl

-- Burst

past_burst_kept : (p : PartState) (context : ℕ) (b : DomainBurst) → IsFit p → BurstKept (heap_start p) p.domain b
    → KeepsWithin p (burst_step context p b).event → StepKept p (burst_step context p b)
past_burst_kept p context b f k w =
    let m : DomainKept (heap_start p) p.domain b.domain = record { fit = k.fit; objects = k.objects } in
    let p' : PartState = with_burst b.domain p in
    let f' : IsFit p' = quiet p b.domain p.log p.queue p.mode (p.bursts + 1) p.arrived f m f.log refl in
    let c : Crossed = after_crossing context b.ending p' in
    let x : CrossKept context p' c = crossed_kept context b.ending p' f' in
    record {
      fit = x.fit;
      isolated = record {
        objects = λ object one twelve. elim (x.objects object one twelve) [
          | inl e ↦ inl (e ∙ object_stays object p.domain.memory b.domain.memory k.objects)
          | inr g ↦ inr (ap (list_any (is_borrow_of object)) (sym k.entries) ∙ g.0, g.1)
        ];
        kernel = elim x.kernel [
          | inl e ↦ inl (e ∙ object_stays 0 p.domain.memory b.domain.memory k.objects)
          | inr e ↦ inr e
        ];
        record_reported = x.fit.reported;
        within = w;
      };
      collected = tt;
    }

burst_turned_kept : (p : PartState) (context : ℕ) → IsFit p → StepKept p (burst_stepped context p)
unfolding burst_stepped
burst_turned_kept p context f =
    past_burst_kept p context (domain_burst context (faults_of_burst (p.bursts + 1) p.spec.faults) p.domain) f
    (burst_kept (heap_start p) context (faults_of_burst (p.bursts + 1) p.spec.faults) p.domain f.domain)
    (domain_within context (faults_of_burst (p.bursts + 1) p.spec.faults) p.domain)

-- Stage

held_call_fits : (class : Class) (blocks : ℕ) (c : CallEntry) → IsFitCall class blocks c → IsFitCall class blocks (held_call c)
held_call_fits class blocks c f = record { thread = f.thread; checked = f.checked }

stopped_step : (p : PartState) → IsFit p → StepKept p (stops p)
unfolding stops
stopped_step p f =
    let d : DomainKept (heap_start p) p.domain (stopped_domain p.domain) = stopped_kept (heap_start p) p.domain f.domain in
    let l : IsFitLog p.spec.class p.spec.blocks (record p.log { pending = stop_calls p.log.pending }) = record {
      config = f.log.config;
      defaults = f.log.defaults;
      calls = all_map (IsFitCall p.spec.class p.spec.blocks) held_call (filter (λ c. is_held c.op) p.log.pending)
          (held_call_fits p.spec.class p.spec.blocks) (filter_fits (IsFitCall p.spec.class p.spec.blocks) _ p.log.pending f.log.calls);
    } in
    quiet_step p (stops p)
    (quiet p (stopped_domain p.domain) (record p.log { pending = stop_calls p.log.pending }) (stop_queue p.log.pending p.queue)
    (mode.Recovering stage.Collect) p.bursts p.arrived f d l refl)
    d.objects tt tt

given_up_step : (p : PartState) → IsFit p → StepKept p (gives_up_part p)
unfolding gives_up_part
given_up_step p f =
    let d : DomainKept (heap_start p) p.domain (stopped_domain p.domain) = stopped_kept (heap_start p) p.domain f.domain in
    let l : IsFitLog p.spec.class p.spec.blocks (record p.log { pending = [] }) = record
    { config = f.log.config; defaults = f.log.defaults; calls = tt } in
    quiet_step p (gives_up_part p)
    (quiet p (stopped_domain p.domain) (record p.log { pending = [] }) p.queue (mode.Dead false) p.bursts p.arrived f d l refl)
    d.objects tt tt

collects_step : (p : PartState) → IsFit p → StepKept p (collects p)
unfolding collects collected_domain
collects_step p f =
    let d : DomainKept (heap_start p) p.domain (collected_domain p.domain) = collected_kept (heap_start p) p.domain f.domain in
    let c : IsCollected p.domain.entries = collect_leaves p.domain.entries f.domain.ordered in
    quiet_step p (collects p)
    (quiet p (collected_domain p.domain) p.log p.queue (with_stage stage.Reset p.mode) p.bursts p.arrived f d f.log refl)
    d.objects tt
    (record { in_order = f.domain.ordered; live = c.0; reported = c.1; left = c.2 })

resets_step : (p : PartState) → IsFit p → StepKept p (resets p)
unfolding resets
resets_step p f =
    let d : DomainKept (heap_start p) p.domain (with_reset p.log.defaults p.domain) = record {
      fit = record { memory = f.domain.memory; contexts = f.domain.contexts; entries = f.domain.entries; ordered = f.domain.ordered };
      objects = nothing_changed p.domain.memory;
    } in
    quiet_step p (resets p)
    (quiet p (with_reset p.log.defaults p.domain) p.log p.queue (with_stage stage.Load p.mode) p.bursts p.arrived f d f.log refl)
    d.objects tt tt

loads_step : (p : PartState) → IsFit p → StepKept p (loads_image p)
unfolding loads_image
loads_step p f =
    let d : DomainKept (heap_start p) p.domain (loaded_domain p.spec.image p.domain) = loaded_kept (heap_start p) p.spec p.domain f.spec f.domain in
    quiet_step p (loads_image p)
    (quiet p (loaded_domain p.spec.image p.domain) p.log p.queue (with_stage stage.Init p.mode) p.bursts p.arrived f d f.log refl)
    d.objects tt tt

inits_step : (p : PartState) → IsFit p → StepKept p (inits p)
unfolding inits
inits_step p f =
    let d : DomainKept (heap_start p) p.domain (plainly_entered 16 init_address p.domain) = plainly_kept (heap_start p) 16 init_address p.domain f.domain in
    quiet_step p (inits p)
    (quiet p (plainly_entered 16 init_address p.domain) p.log p.queue p.mode p.bursts p.arrived f d f.log refl) d.objects tt tt

replays_set_step : (p : PartState) (key value : ℕ) → IsFit p → StepKept p (replays_set key value p)
unfolding replays_set
replays_set_step p key value f =
    let d : DomainKept (heap_start p) p.domain (entered_domain 16 (set_position p.spec.class) (op.Set key value) p.domain) =
    entered_kept (heap_start p) 16 (set_position p.spec.class) (op.Set key value) p.domain f.domain (omega arith) tt in
    quiet_step p (replays_set key value p)
    (quiet p (entered_domain 16 (set_position p.spec.class) (op.Set key value) p.domain) p.log p.queue p.mode p.bursts p.arrived f d f.log refl)
    d.objects tt tt

replays_open_step : (p : PartState) → IsFit p → StepKept p (replays_open p)
unfolding replays_open
replays_open_step p f =
    let d : DomainKept (heap_start p) p.domain (plainly_entered 16 open_point p.domain) = plainly_kept (heap_start p) 16 open_point p.domain f.domain in
    quiet_step p (replays_open p)
    (quiet p (plainly_entered 16 open_point p.domain) p.log p.queue p.mode p.bursts p.arrived f d f.log refl) d.objects tt tt

resumes_step : (p : PartState) → IsFit p → StepKept p (resumes p)
unfolding resumes
resumes_step p f = quiet_step p (resumes p)
    (quiet p p.domain p.log p.queue mode.Running p.bursts p.arrived f (unmoved p f) f.log refl) (nothing_changed p.domain.memory) tt tt

stage_done_kept : (p : PartState) (s : Stage) → IsFit p → StepKept p (stage_done s p)
stage_done_kept p stage.Stop f = split (is_given_up p)
    (λ yes'. rw yes' (given_up_step p f))
    (λ no'. rw no' (stopped_step p f))
stage_done_kept p stage.Collect f = collects_step p f
stage_done_kept p stage.Reset f = resets_step p f
stage_done_kept p stage.Load f = loads_step p f
stage_done_kept p stage.Init f = inits_step p f
stage_done_kept p (stage.ReplaySet key value) f = replays_set_step p key value f
stage_done_kept p stage.ReplayOpen f = replays_open_step p f
stage_done_kept p stage.Resume f = resumes_step p f

stage_by_kept : (p : PartState) (o : Option Stage) → IsFit p → StepKept p (stage_by p o)
stage_by_kept p None f = quiet_step p (stage_by p None) f (nothing_changed p.domain.memory) tt tt
stage_by_kept p (Some s) f = stage_done_kept p s f

stage_turned_kept : (p : PartState) → IsFit p → StepKept p (stage_stepped p)
unfolding stage_stepped
stage_turned_kept p f = stage_by_kept p (stage_due p.mode) f

-- Arrive

arrived_kept : (p : PartState) (frame : List ℕ) → IsFit p → StepKept p (after_arrival frame p)
unfolding after_arrival
arrived_kept p frame f =
    let d : DomainKept (heap_start p) p.domain (record p.domain { device = with_arrival frame p.domain.device }) = record {
      fit = record { memory = f.domain.memory; contexts = f.domain.contexts; entries = f.domain.entries; ordered = f.domain.ordered };
      objects = nothing_changed p.domain.memory;
    } in
    quiet_step p (after_arrival frame p)
    (quiet p (record p.domain { device = with_arrival frame p.domain.device }) p.log p.queue p.mode p.bursts (p.arrived + 1) f d f.log refl)
    d.objects tt tt

-- every step

pub step_kept : (p : PartState) (s : Step) → IsFit p → enabled p s ≡ true → StepKept p (stepped p s)
unfolding enabled stepped
step_kept p (step.Invoke thread o) f e = invoked_kept p thread o f e
step_kept p (step.Enter thread) f e = entered_part_kept p thread f
step_kept p (step.Burst context) f e = burst_turned_kept p context f
step_kept p step.Stage f e = stage_turned_kept p f
step_kept p (step.Arrive frame) f e = arrived_kept p frame f

pub fit_after : (p : PartState) (s : Step) → IsFit p → enabled p s ≡ true → IsFit (stepped p s).state
fit_after p s f e = (step_kept p s f e).fit

pub opening_fit : (spec : PartSpec) → IsFitSpec spec → IsFit (opening spec)
unfolding opening opening_log opening_domain
opening_fit spec s = record {
  spec = s;
  domain = opening_domain_fit _ spec;
  log = record { config = refl; defaults = refl; calls = tt };
  reported = opening_reported spec.class;
}

-- every run

pub fit_from : (p : PartState) (events : List Event) → IsFit p → IsRunFrom p events → IsFit (state_from p events)
unfolding IsRunFrom state_from
fit_from p [] f r = f
fit_from p (e ∷ events) f r = fit_from (state_after p (step_of e)) events (fit_after p (step_of e) f r.0) r.2

pub isolated_from : (p : PartState) (events : List Event) → IsFit p → IsRunFrom p events → IsIsolatedFrom p events
unfolding IsRunFrom IsIsolatedFrom
isolated_from p [] f r = tt
isolated_from p (e ∷ events) f r =
    let k : StepKept p (stepped p (step_of e)) = step_kept p (step_of e) f r.0 in (
      subst (λ x. IsIsolatedStep p x (state_after p (step_of e))) r.1 k.isolated,
      isolated_from (state_after p (step_of e)) events k.fit r.2,
    )

pub collects_from : (p : PartState) (events : List Event) → IsFit p → IsRunFrom p events → CollectsFrom p events
unfolding IsRunFrom CollectsFrom
collects_from p [] f r = tt
collects_from p (e ∷ events) f r =
    let k : StepKept p (stepped p (step_of e)) = step_kept p (step_of e) f r.0 in (
      subst (λ x. CollectsAt p x (state_after p (step_of e))) r.1 k.collected,
      collects_from (state_after p (step_of e)) events k.fit r.2,
    )

pub run_isolated : (spec : PartSpec) (journal : List Event) → IsFitSpec spec → IsRun spec journal → IsIsolated spec journal
run_isolated spec journal s r = isolated_from (opening spec) journal (opening_fit spec s) r

pub run_collecting : (spec : PartSpec) (journal : List Event) → IsFitSpec spec → IsRun spec journal → IsCollecting spec journal
run_collecting spec journal s r = collects_from (opening spec) journal (opening_fit spec s) r

pub run_fit : (spec : PartSpec) (journal : List Event) → IsFitSpec spec → IsRun spec journal → IsFit (state_from (opening spec) journal)
run_fit spec journal s r = fit_from (opening spec) journal (opening_fit spec s) r
