-- The device of a part has its spec's class at every step and after every run, and the spec never changes.
use Rattle.std.proofs.Common.{◌≡◌, ℕ, ◌+◌, ◌==◌, Option, Some, None, Result, Ok, Err, List, [], ◌∷◌, length, refl, sym, ap, ◌∙◌}
use Rattle.nook_data.specs.declared.classes.Accept.{Accept}
use Rattle.nook_data.specs.declared.classes.Accept.TheVariants as accepts
use Rattle.nook_data.specs.declared.classes.Admit.{Admit}
use Rattle.nook_data.specs.declared.classes.Admit.TheVariants as admits
use Rattle.nook_data.specs.declared.calls.Answer.{Answer}
use Rattle.nook_data.specs.declared.scenario.BadBlock.{BadBlock}
use Rattle.nook_data.specs.declared.calls.CallEntry.{CallEntry}
use Rattle.nook_data.specs.declared.classes.Class.{Class}
use Rattle.nook_data.specs.declared.classes.Class.TheVariants as class
use Rattle.nook_data.specs.declared.devices.DeviceKind.{DeviceKind}
use Rattle.nook_data.specs.declared.devices.DeviceKind.TheVariants as kind
use Rattle.nook_data.specs.declared.devices.DeviceState.{DeviceState}
use Rattle.nook_data.specs.declared.steps.Event.{Event}
use Rattle.nook_data.specs.declared.scenario.Fault.{Fault}
use Rattle.nook_data.specs.declared.calls.Op.{Op}
use Rattle.nook_data.specs.declared.calls.Op.TheVariants as op
use Rattle.nook_data.specs.declared.scenario.PartSpec.{PartSpec}
use Rattle.nook_data.specs.declared.steps.Stage.{Stage}
use Rattle.nook_data.specs.declared.steps.Stage.TheVariants as stage
use Rattle.nook_data.specs.declared.steps.Step.{Step}
use Rattle.nook_data.specs.declared.steps.Step.TheVariants as step
use Rattle.nook_data.specs.declared.machine.BadParam.{BadParam}
use Rattle.nook_data.specs.declared.machine.BurstEnd.{BurstEnd}
use Rattle.nook_data.specs.declared.machine.BurstEnd.TheVariants as ends
use Rattle.nook_data.specs.declared.machine.Context.{Context}
use Rattle.nook_data.specs.declared.machine.Service.{Service}
use Rattle.part_defs.specs.Calls.{Stepped, after_invoke, after_enter, after_admit}
use Rattle.part_defs.proofs.PartCases.{burst_by, burst_step, entered_by, invoked_by, reply_by, serve_by, stage_by}
use Rattle.part_defs.proofs.PartCases.{with_burst}
use Rattle.machine_defs.proofs.MachineCases.{kind_with_arrival}
use Rattle.nook_data.specs.Classes.{static_check, admit, accept}
use Rattle.part_defs.specs.Crossing.{fails, is_last, next_stage, is_accepted, shadow_replied, noted_set, closes_call}
use Rattle.part_defs.specs.Crossing.{call_replied, after_crossing}
use Rattle.machine_defs.specs.Devices.{reset_device, reset_kind, opening_device, opening_kind, with_arrival}
use Rattle.part_defs.specs.Domain.{opening_domain, entered_domain, plainly_entered, context_of, machine_of, DomainBurst}
use Rattle.part_defs.specs.Domain.{domain_burst, first_argument, second_argument, result_set, left_domain}
use Rattle.part_defs.specs.Domain.{stopped_domain, collected_domain, loaded_domain, noted}
use Rattle.part_defs.specs.Log.{call_of_thread}
use Rattle.machine_defs.specs.Views.Ports.{class_of, class_of_kind}
use Rattle.part_defs.specs.Runs.{step_of, state_after, state_from, IsRun, state_of}
use Rattle.machine_defs.specs.Services.{checked}
use Rattle.part_defs.specs.Stages.{stage_due, is_given_up, stops, gives_up_part, collects, resets, loads_image, inits}
use Rattle.part_defs.specs.Stages.{replays_set, replays_open, resumes, stage_done, stage_stepped}
use Rattle.part_defs.specs.State.{DomainState, PartState}
use Rattle.part_defs.specs.Steps.{opening, burst_stepped, after_arrival, stepped}
use Rattle.machine_defs.specs.BurstFaults.{faults_of_burst}
use Rattle.machine_defs.proofs.BurstKeeps.{split}
use Rattle.part_laws.proofs.Counts.{step_counted}
use Rattle.machine_defs.proofs.BurstClasses.{burst_keeps_class}

-- devices

reset_kind_keeps : (k : DeviceKind) → class_of_kind (reset_kind k) ≡ class_of_kind k
reset_kind_keeps (kind.Disk k) = refl
reset_kind_keeps (kind.Link k) = refl
reset_kind_keeps kind.Speaker = refl

-- a reset keeps the class
pub reset_keeps_class : (defaults : List ℕ) (d : DeviceState) → class_of (reset_device defaults d) ≡ class_of d
unfolding reset_device
reset_keeps_class defaults d = reset_kind_keeps d.kind

arrival_kind_keeps : (frame : List ℕ) (k : DeviceKind) → class_of_kind (kind_with_arrival frame k) ≡ class_of_kind k
arrival_kind_keeps frame (kind.Disk k) = refl
arrival_kind_keeps frame (kind.Link k) = refl
arrival_kind_keeps frame kind.Speaker = refl

-- an arrival keeps the class
pub arrival_keeps_class : (frame : List ℕ) (d : DeviceState) → class_of (with_arrival frame d) ≡ class_of d
unfolding with_arrival
arrival_keeps_class frame d = arrival_kind_keeps frame d.kind

opening_kind_class : (c : Class) (blocks : ℕ) (bad : List BadBlock) → class_of_kind (opening_kind c blocks bad) ≡ c
opening_kind_class class.Block blocks bad = refl
opening_kind_class class.Net blocks bad = refl
opening_kind_class class.Sound blocks bad = refl

-- a new device has the class that it is made for
pub opening_device_class : (c : Class) (blocks : ℕ) (bad : List BadBlock) (defaults : List ℕ)
    → class_of (opening_device c blocks bad defaults) ≡ c
unfolding opening_device
opening_device_class c blocks bad defaults = opening_kind_class c blocks bad

-- a crossing does not change the device

abbrev Untouched : PartState → PartState → Type 0
Untouched p q = q.domain.device ≡ p.domain.device

fails_untouched : (p : PartState) → Untouched p (fails p)
unfolding fails noted
fails_untouched p = refl

serve_untouched : (number context : ℕ) (p : PartState) (o : Result Service BadParam) → Untouched p (serve_by number context p o).state
unfolding result_set
serve_untouched number context p (Err bad) = fails_untouched p
serve_untouched number context p (Ok s) = refl

noted_set_untouched : (o : Op) (d : DomainState) → (noted_set o d).device ≡ d.device
unfolding noted
noted_set_untouched (op.Set key value) d = refl
noted_set_untouched _ d = refl

closes_untouched : (c : CallEntry) (p : PartState) → Untouched p (closes_call c p)
unfolding closes_call left_domain
closes_untouched c p = noted_set_untouched c.op (left_domain c.thread p.domain)

reply_untouched : (c : CallEntry) (status : ℕ) (p : PartState) (o : Accept) → Untouched p (reply_by c status p o).state
reply_untouched c status p accepts.Take = closes_untouched c p
reply_untouched c status p (accepts.IoError block) = closes_untouched c p
reply_untouched c status p (accepts.Fail cause) = fails_untouched p

call_reply_untouched : (status : ℕ) (p : PartState) (o : Option CallEntry) → Untouched p (call_replied status p o).state
call_reply_untouched status p None = refl
call_reply_untouched status p (Some c) = reply_untouched c status p (accept c.op status)

next_stage_untouched : (p : PartState) → Untouched p (next_stage p)
unfolding next_stage left_domain
next_stage_untouched p = refl

shadow_reply_untouched : (status : ℕ) (p : PartState) → Untouched p (shadow_replied status p).state
shadow_reply_untouched status p = split (is_accepted status p)
    (λ e. rw e (next_stage_untouched p))
    (λ e. rw e (fails_untouched p))

-- what a crossing requests does not change the device
pub crossing_untouched : (context : ℕ) (e : BurstEnd) (p : PartState) → (after_crossing context e p).state.domain.device ≡ p.domain.device
unfolding after_crossing
crossing_untouched context (ends.Trap cause) p = fails_untouched p
crossing_untouched context (ends.Kcall number) p = split (is_last context p)
    (λ last. rw last (fails_untouched p))
    (λ early. rw early (serve_untouched number context p
    (checked number (first_argument context p.domain) (second_argument context p.domain) p.spec.class p.domain.entries)))
crossing_untouched context ends.Pause p = split (is_last context p)
    (λ last. rw last (fails_untouched p))
    (λ early. rw early refl)
crossing_untouched context (ends.Reply status) p = split (context == 16)
    (λ own. rw own (shadow_reply_untouched status p))
    (λ other. rw other (call_reply_untouched status p (call_of_thread context p.log.pending)))

-- steps

abbrev Stays : PartState → Stepped → Type 0
Stays p t = class_of t.state.domain.device ≡ class_of p.domain.device

invoke_stays : (p : PartState) (thread : ℕ) (o : Op) (a : Option Answer) → Stays p (invoked_by p thread o a)
invoke_stays p thread o None = refl
invoke_stays p thread o (Some a) = refl

admitted_stays : (p : PartState) (c : CallEntry) (a : Admit) → Stays p (after_admit p c a)
unfolding entered_domain
admitted_stays p c (admits.Reply a) = refl
admitted_stays p c admits.TakeFrame = refl
admitted_stays p c (admits.Enter index) = refl

enter_stays : (p : PartState) (thread : ℕ) (o : Option CallEntry) → Stays p (entered_by p thread o)
enter_stays p thread None = refl
enter_stays p thread (Some c) = admitted_stays p c (admit p.spec.class thread c.op p.log.holder (length p.queue))

burst_by_keeps : (context : ℕ) (faults : List Fault) (d : DomainState) (o : Option Context)
    → class_of (burst_by context faults d o).domain.device ≡ class_of d.device
burst_by_keeps context faults d None = refl
burst_by_keeps context faults d (Some x) = burst_keeps_class d.entries faults (machine_of x d)

-- a burst of a context keeps the device's class
pub domain_burst_keeps_class : (context : ℕ) (faults : List Fault) (d : DomainState)
    → class_of (domain_burst context faults d).domain.device ≡ class_of d.device
unfolding domain_burst
domain_burst_keeps_class context faults d = burst_by_keeps context faults d (context_of context d.contexts)

past_burst_stays : (context : ℕ) (p : PartState) (b : DomainBurst) → class_of b.domain.device ≡ class_of p.domain.device
    → Stays p (burst_step context p b)
past_burst_stays context p b h = ap class_of (crossing_untouched context b.ending (with_burst b.domain p)) ∙ h

stage_stays : (p : PartState) (s : Stage) → Stays p (stage_done s p)
unfolding stops gives_up_part collects resets loads_image inits replays_set replays_open resumes stopped_domain collected_domain loaded_domain plainly_entered entered_domain
stage_stays p stage.Stop = split (is_given_up p)
    (λ e. rw e refl)
    (λ e. rw e refl)
stage_stays p stage.Collect = refl
stage_stays p stage.Reset = reset_keeps_class p.log.defaults p.domain.device
stage_stays p stage.Load = refl
stage_stays p stage.Init = refl
stage_stays p (stage.ReplaySet key value) = refl
stage_stays p stage.ReplayOpen = refl
stage_stays p stage.Resume = refl

stage_by_stays : (p : PartState) (o : Option Stage) → Stays p (stage_by p o)
stage_by_stays p None = refl
stage_by_stays p (Some s) = stage_stays p s

-- a step keeps the device in its class
pub class_after : (p : PartState) (s : Step) → class_of (stepped p s).state.domain.device ≡ class_of p.domain.device
unfolding stepped after_invoke after_enter burst_stepped stage_stepped after_arrival
class_after p (step.Invoke thread o) = invoke_stays p thread o (static_check p.spec.class p.spec.blocks o)
class_after p (step.Enter thread) = enter_stays p thread (call_of_thread thread p.log.pending)
class_after p (step.Burst context) =
    past_burst_stays context p (domain_burst context (faults_of_burst (p.bursts + 1) p.spec.faults) p.domain)
    (domain_burst_keeps_class context (faults_of_burst (p.bursts + 1) p.spec.faults) p.domain)
class_after p step.Stage = stage_by_stays p (stage_due p.mode)
class_after p (step.Arrive frame) = arrival_keeps_class frame p.domain.device

-- a step does not change the spec
pub spec_after : (p : PartState) (s : Step) → (stepped p s).state.spec ≡ p.spec
spec_after p s = (step_counted p s).spec

-- a device of the spec's class remains so
pub device_after : (p : PartState) (s : Step) → class_of p.domain.device ≡ p.spec.class
    → class_of (stepped p s).state.domain.device ≡ (stepped p s).state.spec.class
device_after p s h = class_after p s ∙ h ∙ ap (λ (spec : PartSpec). spec.class) (sym (spec_after p s))

-- runs

-- the steps of a list of events keep the device in its class
pub class_from : (p : PartState) (events : List Event) → class_of (state_from p events).domain.device ≡ class_of p.domain.device
unfolding state_from
class_from p [] = refl
class_from p (e ∷ events) = class_from (state_after p (step_of e)) events ∙ class_after p (step_of e)

-- they do not change the spec
pub spec_from : (p : PartState) (events : List Event) → (state_from p events).spec ≡ p.spec
unfolding state_from
spec_from p [] = refl
spec_from p (e ∷ events) = spec_from (state_after p (step_of e)) events ∙ spec_after p (step_of e)

-- an opening part has its spec and a device of its class
pub opening_class : (spec : PartSpec) → class_of (opening spec).domain.device ≡ spec.class
unfolding opening opening_domain
opening_class spec = opening_device_class spec.class spec.blocks spec.bad _

pub opening_spec : (spec : PartSpec) → (opening spec).spec ≡ spec
unfolding opening
opening_spec spec = refl

-- after every run the device has the spec's class
pub run_device : (spec : PartSpec) (journal : List Event) → IsRun spec journal → class_of (state_of spec journal).domain.device ≡ spec.class
run_device spec journal run = class_from (opening spec) journal ∙ opening_class spec

-- after every run the part has the spec
pub run_spec : (spec : PartSpec) (journal : List Event) → IsRun spec journal → (state_of spec journal).spec ≡ spec
run_spec spec journal run = spec_from (opening spec) journal ∙ opening_spec spec
