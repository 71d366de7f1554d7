use Rattle.std.proofs.Common.{◌≡◌, ℕ, true, false, Option, Some, None, List, [], ◌∷◌, length, refl, ◌∙◌}
use Rattle.nook_data.specs.declared.calls.Answer.{Answer}
use Rattle.nook_data.specs.declared.calls.CallEntry.{CallEntry}
use Rattle.nook_data.specs.declared.calls.Op.{Op}
use Rattle.nook_data.specs.declared.classes.Admit.{Admit}
use Rattle.nook_data.specs.declared.classes.Admit.TheVariants as admits
use Rattle.nook_data.specs.declared.devices.DeviceKind.{DeviceKind}
use Rattle.nook_data.specs.declared.devices.DeviceKind.TheVariants as kind
use Rattle.nook_data.specs.declared.devices.DeviceState.{DeviceState}
use Rattle.nook_data.specs.declared.steps.Event.{Event}
use Rattle.nook_data.specs.declared.steps.Event.TheVariants as event
use Rattle.nook_data.specs.declared.steps.Stage.{Stage}
use Rattle.nook_data.specs.declared.steps.Stage.TheVariants as stage
use Rattle.nook_data.specs.Classes.{admit, static_check}
use Rattle.machine_defs.specs.Devices.{medium_of, reset_device, reset_kind, with_arrival}
use Rattle.machine_defs.proofs.MachineCases.{kind_with_arrival}
use Rattle.part_defs.specs.Calls.{Stepped, after_admit, after_enter, after_invoke}
use Rattle.part_defs.proofs.PartCases.{entered_by, invoked_by, stage_by}
use Rattle.part_defs.specs.Domain.{collected_domain, entered_domain, loaded_domain, plainly_entered, stopped_domain}
use Rattle.part_defs.specs.Log.{call_of_thread}
use Rattle.part_defs.specs.Runs.{IsRunFrom, state_after, state_from, step_of}
use Rattle.part_defs.specs.Stages.{collects, gives_up_part, inits, is_given_up, loads_image, replays_open, replays_set}
use Rattle.part_defs.specs.Stages.{resets, resumes, stage_done, stage_due, stage_stepped, stops}
use Rattle.part_defs.specs.State.{PartState}
use Rattle.part_defs.specs.Steps.{after_arrival, enabled, stepped}
use Rattle.part_laws.proofs.Indices.{split}
use Rattle.part_laws.proofs.Recovered.{gone_stays}
use Rattle.part_laws.specs.Bound.{is_burst}
use Rattle.part_laws.specs.Recovery.{Gone}
use Rattle.headline_laws.proofs.GivenUp.{gone_bursts}

-- Only a burst changes the medium, so a part that was given up leaves it as it is.

abbrev KeepsMedium : PartState → Stepped → Type 0
KeepsMedium p t = medium_of t.state.domain.device ≡ medium_of p.domain.device

invoke_keeps : (p : PartState) (thread : ℕ) (o : Op) (a : Option Answer) → KeepsMedium p (invoked_by p thread o a)
invoke_keeps p thread o None = refl
invoke_keeps p thread o (Some a) = refl

admit_keeps : (p : PartState) (c : CallEntry) (a : Admit) → KeepsMedium p (after_admit p c a)
unfolding entered_domain
admit_keeps p c (admits.Reply a) = refl
admit_keeps p c admits.TakeFrame = refl
admit_keeps p c (admits.Enter index) = refl

enter_keeps : (p : PartState) (thread : ℕ) (o : Option CallEntry) → KeepsMedium p (entered_by p thread o)
enter_keeps p thread None = refl
enter_keeps p thread (Some c) = admit_keeps p c (admit p.spec.class thread c.op p.log.holder (length p.queue))

arrival_keeps : (frame : List ℕ) (d : DeviceState) → medium_of (with_arrival frame d) ≡ medium_of d
unfolding with_arrival
arrival_keeps frame d = by_kind d.kind
  where
    by_kind : (k : DeviceKind)
        → medium_of (record d { kind = kind_with_arrival frame k }) ≡ medium_of (record d { kind = k })
    by_kind (kind.Disk k) = refl
    by_kind (kind.Link k) = refl
    by_kind kind.Speaker = refl

reset_keeps : (defaults : List ℕ) (d : DeviceState) → medium_of (reset_device defaults d) ≡ medium_of d
unfolding reset_device
reset_keeps defaults d = by_kind d.kind
  where
    by_kind : (k : DeviceKind)
        → medium_of (record d { registers = defaults; kind = reset_kind k }) ≡ medium_of (record d { kind = k })
    by_kind (kind.Disk k) = refl
    by_kind (kind.Link k) = refl
    by_kind kind.Speaker = refl

stage_keeps : (p : PartState) (s : Stage) → KeepsMedium p (stage_done s p)
unfolding stops gives_up_part collects resets loads_image inits replays_set replays_open resumes stopped_domain collected_domain loaded_domain plainly_entered entered_domain
stage_keeps p stage.Stop = split (is_given_up p) (λ e. rw e refl) (λ e. rw e refl)
stage_keeps p stage.Collect = refl
stage_keeps p stage.Reset = reset_keeps p.log.defaults p.domain.device
stage_keeps p stage.Load = refl
stage_keeps p stage.Init = refl
stage_keeps p (stage.ReplaySet key value) = refl
stage_keeps p stage.ReplayOpen = refl
stage_keeps p stage.Resume = refl

due_keeps : (p : PartState) (o : Option Stage) → KeepsMedium p (stage_by p o)
due_keeps p None = refl
due_keeps p (Some s) = stage_keeps p s

-- a step that is no burst
pub medium_after : (p : PartState) (e : Event) → is_burst e ≡ false
    → medium_of (state_after p (step_of e)).domain.device ≡ medium_of p.domain.device
unfolding stepped after_invoke after_enter stage_stepped after_arrival
medium_after p (event.Invoke call thread o a) quiet =
    invoke_keeps p thread o (static_check p.spec.class p.spec.blocks o)
medium_after p (event.Enter call thread attempt a) quiet =
    enter_keeps p thread (call_of_thread thread p.log.pending)
medium_after p (event.Burst context call burst count end acts a failure) quiet = absurd cc
medium_after p (event.Stage s answers released) quiet = due_keeps p (stage_due p.mode)
medium_after p (event.Arrive frame kept) quiet = arrival_keeps frame p.domain.device

no_burst : (p : PartState) (e : Event) → Gone p → enabled p (step_of e) ≡ true → is_burst e ≡ false
no_burst p (event.Invoke call thread o a) g may = refl
no_burst p (event.Enter call thread attempt a) g may = refl
no_burst p (event.Burst context call burst count end acts a failure) g may = absurd (gone_bursts p context g may)
no_burst p (event.Stage s answers released) g may = refl
no_burst p (event.Arrive frame kept) g may = refl

-- a run of a part that was given up
pub medium_stays : (p : PartState) (events : List Event) → Gone p → IsRunFrom p events
    → medium_of (state_from p events).domain.device ≡ medium_of p.domain.device
unfolding IsRunFrom state_from
medium_stays p [] g r = refl
medium_stays p (e ∷ events) g r =
    medium_stays (state_after p (step_of e)) events (gone_stays p (step_of e) g r.0) r.2
    ∙ medium_after p e (no_burst p e g r.0)
