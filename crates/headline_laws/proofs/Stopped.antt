use Rattle.std.proofs.Common.{◌≡◌, ℕ, zero, suc, ◌+◌, ◌-◌, ◌==◌, ◌||◌, if◌then◌else◌, is_some, Bool, true, false, Option, Some, None, Result, Ok, Err, List, [], ◌∷◌, length, replicate, drop, slice_index, refl, sym, ap, subst, ◌∙◌}
use Rattle.std.specs.List.{list_any}
use Rattle.std.proofs.lemmas.Bool.{and_parts}
use Rattle.nook_data.specs.Classes.{accept, admit, defaults_of, static_check}
use Rattle.nook_data.specs.declared.calls.Answer.{Answer}
use Rattle.nook_data.specs.declared.calls.CallEntry.{CallEntry}
use Rattle.nook_data.specs.declared.calls.Op.{Op}
use Rattle.nook_data.specs.declared.classes.Accept.{Accept}
use Rattle.nook_data.specs.declared.classes.Accept.TheVariants as accepts
use Rattle.nook_data.specs.declared.classes.Admit.{Admit}
use Rattle.nook_data.specs.declared.classes.Admit.TheVariants as admits
use Rattle.nook_data.specs.declared.classes.Class.{Class}
use Rattle.nook_data.specs.declared.classes.Class.TheVariants as class
use Rattle.nook_data.specs.declared.devices.DeviceKind.{DeviceKind}
use Rattle.nook_data.specs.declared.devices.DeviceKind.TheVariants as kind
use Rattle.nook_data.specs.declared.entries.Entry.{Entry}
use Rattle.nook_data.specs.declared.entries.Entry.TheVariants as entry
use Rattle.nook_data.specs.declared.machine.BadParam.{BadParam}
use Rattle.nook_data.specs.declared.machine.BurstEnd.{BurstEnd}
use Rattle.nook_data.specs.declared.machine.BurstEnd.TheVariants as ends
use Rattle.nook_data.specs.declared.machine.Context.{Context}
use Rattle.nook_data.specs.declared.machine.Service.{Service}
use Rattle.nook_data.specs.declared.scenario.BadBlock.{BadBlock}
use Rattle.nook_data.specs.declared.scenario.PartSpec.{PartSpec}
use Rattle.nook_data.specs.declared.steps.End.TheVariants as end
use Rattle.nook_data.specs.declared.steps.Event.{Event}
use Rattle.nook_data.specs.declared.steps.FailCause.TheVariants as fail
use Rattle.nook_data.specs.declared.steps.Mode.{Mode}
use Rattle.nook_data.specs.declared.steps.Mode.TheVariants as mode
use Rattle.nook_data.specs.declared.steps.Stage.{Stage}
use Rattle.nook_data.specs.declared.steps.Stage.TheVariants as stage
use Rattle.nook_data.specs.declared.steps.Step.{Step}
use Rattle.nook_data.specs.declared.steps.Step.TheVariants as step
use Rattle.machine_defs.proofs.MachineCases.{kind_with_arrival}
use Rattle.machine_defs.specs.BurstFaults.{faults_of_burst}
use Rattle.machine_defs.specs.Devices.{medium_of, opening_device, opening_kind, reset_device, reset_kind, ring_of}
use Rattle.machine_defs.specs.Devices.{with_arrival}
use Rattle.machine_defs.specs.Entries.{collected, is_live, registered}
use Rattle.machine_defs.specs.Pages.{opening_memory}
use Rattle.machine_defs.specs.Services.{checked}
use Rattle.machine_defs.specs.Views.Ports.{class_of, class_of_kind, device_of}
use Rattle.part_defs.proofs.PartCases.{entered_by, invoked_by, reply_by, serve_by, stage_by, with_burst}
use Rattle.part_defs.specs.Calls.{Stepped, after_admit, after_enter, after_invoke}
use Rattle.part_defs.specs.Crossing.{Crossed, after_crossing, call_replied, closes_call, failed_crossing, fails, goes_on}
use Rattle.part_defs.specs.Crossing.{is_accepted, is_last, kernel_call, next_mode, next_stage, refused_service}
use Rattle.part_defs.specs.Crossing.{shadow_fault, shadow_replied, stage_in}
use Rattle.part_defs.specs.Domain.{collected_domain, context_of, domain_burst, first_argument, loaded_domain}
use Rattle.part_defs.specs.Domain.{opening_domain, second_argument, stopped_domain}
use Rattle.part_defs.specs.Log.{call_of_thread, next_replay, replay_after}
use Rattle.part_defs.specs.Runs.{IsRunFrom, state_after, state_from, step_of}
use Rattle.part_defs.specs.Stages.{collects, gives_up_part, inits, is_given_up, loads_image, replays_open}
use Rattle.part_defs.specs.Stages.{replays_set, resets, resumes, stage_done, stage_due, stage_stepped, stops, with_stage}
use Rattle.part_defs.specs.State.{DomainState, PartState}
use Rattle.part_defs.specs.Steps.{after_arrival, burst_stepped, enabled, is_driven, is_inside, is_ready, is_running}
use Rattle.part_defs.specs.Steps.{opening, stepped}
use Rattle.part_laws.proofs.DeviceStays.{class_after, opening_class, spec_after}
use Rattle.part_laws.proofs.EntriesFit.{IsCollected, collect_leaves}
use Rattle.part_laws.proofs.Indices.{split}
use Rattle.part_laws.proofs.StepsFit.{fit_after, opening_fit}
use Rattle.part_laws.proofs.TiedBursts.{tied_after}
use Rattle.part_laws.specs.Fit.{IsFit, IsFitSpec}
use Rattle.part_laws.specs.Tied.{IsDriven, IsTied, is_driving, is_driving_stage}
use Rattle.headline_laws.proofs.Unchanged.{IsUnchanged, bad_of, bad_of_kind, step_leaves}
use Rattle.headline_laws.specs.Restart.{counts_of}
use Rattle.headline_laws.specs.Restart.{kept_of, kind_with}

-- Between a Stop and the next Init nothing runs, so each stage finds what the one before it left.

-- ---- what a stage finds

-- a device as after a reset, but for what a reset keeps and the frames that arrived since
pub record IsReset (spec : PartSpec) (d : DomainState) : Type 0 where
  pub registers : d.device.registers ≡ defaults_of spec.class
  pub kind : d.device.kind ≡ kind_with (kept_of d) (opening_kind spec.class spec.blocks spec.bad)

-- nothing is Inside, and the driver is not registered
pub record IsStopped (d : DomainState) : Type 0 where
  pub contexts : d.contexts ≡ replicate 17 None
  pub entries : list_any is_live d.entries ≡ false

-- nothing is Inside, and the driver holds nothing
pub record IsEmptied (d : DomainState) : Type 0 where
  pub contexts : d.contexts ≡ replicate 17 None
  pub entries : d.entries ≡ entry.Registration false ∷ []

-- what the stage finds that is due
abbrev pub Finds : PartSpec → Option Stage → DomainState → Type 0
Finds spec (Some stage.Collect) d = IsStopped d
Finds spec (Some stage.Reset) d = IsEmptied d
Finds spec (Some stage.Load) d = IsEmptied d × IsReset spec d
Finds spec _ d = Unit {0}

-- the stages before which the domain was stopped
abbrev is_closing : Option Stage → Bool
is_closing (Some stage.Collect) = true
is_closing (Some stage.Reset) = true
is_closing (Some stage.Load) = true
is_closing _ = false

-- the others find anything
finds_any : (spec : PartSpec) (o : Option Stage) (d : DomainState) → is_closing o ≡ false → Finds spec o d
finds_any spec None d h = tt
finds_any spec (Some stage.Stop) d h = tt
finds_any spec (Some stage.Collect) d h = absurd cc
finds_any spec (Some stage.Reset) d h = absurd cc
finds_any spec (Some stage.Load) d h = absurd cc
finds_any spec (Some stage.Init) d h = tt
finds_any spec (Some (stage.ReplaySet key value)) d h = tt
finds_any spec (Some stage.ReplayOpen) d h = tt
finds_any spec (Some stage.Resume) d h = tt

-- ---- entries

none_live : (entries : List Entry) → list_any is_live (registered false entries) ≡ false
none_live [] = refl
none_live (entry.Heap start len ∷ entries) = none_live entries
none_live (entry.Borrow object start ∷ entries) = none_live entries
none_live (entry.Buffer context writable ∷ entries) = none_live entries
none_live (entry.Registration live ∷ entries) = none_live entries

collected_live : (entries : List Entry) → list_any is_live (collected entries) ≡ list_any is_live entries
collected_live [] = refl
collected_live (entry.Heap start len ∷ entries) = collected_live entries
collected_live (entry.Borrow object start ∷ entries) = collected_live entries
collected_live (entry.Buffer context writable ∷ entries) = collected_live entries
collected_live (entry.Registration live ∷ entries) = ap (λ b. live || b) (collected_live entries)

emptied : (entries : List Entry) → IsCollected entries → list_any is_live entries ≡ false
    → collected entries ≡ entry.Registration false ∷ []
emptied entries c h = by_live c.0 c.2 (ap (list_any is_live) (sym c.2) ∙ collected_live entries ∙ h)
  where
    by_live : (live : Bool) → collected entries ≡ entry.Registration live ∷ []
        → list_any is_live (entry.Registration live ∷ []) ≡ false → collected entries ≡ entry.Registration false ∷ []
    by_live false e h = e
    by_live true e h = absurd cc

-- ---- the device

reset_kind_keeps : (c : Class) (blocks : ℕ) (bad : List BadBlock) (registers : List ℕ) (objects : List ℕ) (k : DeviceKind)
    → class_of_kind k ≡ c → bad_of_kind k ≡ bad_of_kind (opening_kind c blocks bad)
    → reset_kind k ≡ kind_with
    (record {
      objects = objects;
      medium = medium_of (device_of registers (reset_kind k));
      counts = counts_of (device_of registers (reset_kind k));
      ring = ring_of (device_of registers (reset_kind k));
    })
    (opening_kind c blocks bad)
reset_kind_keeps class.Block blocks bad registers objects (kind.Disk k) h b =
    ap (λ (x : List BadBlock). reset_kind (kind.Disk (record k { bad = x }))) b
reset_kind_keeps class.Net blocks bad registers objects (kind.Link k) h b = refl
reset_kind_keeps class.Sound blocks bad registers objects kind.Speaker h b = refl
reset_kind_keeps class.Block blocks bad registers objects (kind.Link k) h b = absurd cc
reset_kind_keeps class.Block blocks bad registers objects kind.Speaker h b = absurd cc
reset_kind_keeps class.Net blocks bad registers objects (kind.Disk k) h b = absurd cc
reset_kind_keeps class.Net blocks bad registers objects kind.Speaker h b = absurd cc
reset_kind_keeps class.Sound blocks bad registers objects (kind.Disk k) h b = absurd cc
reset_kind_keeps class.Sound blocks bad registers objects (kind.Link k) h b = absurd cc

-- a link with another ring
abbrev kind_with_ring : List (List ℕ) → DeviceKind → DeviceKind
kind_with_ring ring (kind.Link k) = kind.Link (record k { ring = ring })
kind_with_ring ring other = other

arrival_kept : (c : Class) (blocks : ℕ) (bad : List BadBlock) (frame registers objects : List ℕ) (k : DeviceKind)
    → k ≡ kind_with
    (record {
      objects = objects;
      medium = medium_of (device_of registers k);
      counts = counts_of (device_of registers k);
      ring = ring_of (device_of registers k);
    })
    (opening_kind c blocks bad)
    → kind_with_arrival frame k ≡ kind_with
    (record {
      objects = objects;
      medium = medium_of (device_of registers (kind_with_arrival frame k));
      counts = counts_of (device_of registers (kind_with_arrival frame k));
      ring = ring_of (device_of registers (kind_with_arrival frame k));
    })
    (opening_kind c blocks bad)
arrival_kept c blocks bad frame registers objects (kind.Disk k) h = h
arrival_kept c blocks bad frame registers objects kind.Speaker h = h
arrival_kept class.Net blocks bad frame registers objects (kind.Link k) h =
    ap (kind_with_ring (ring_of (device_of registers (kind_with_arrival frame (kind.Link k))))) h
arrival_kept class.Block blocks bad frame registers objects (kind.Link k) h = absurd cc
arrival_kept class.Sound blocks bad frame registers objects (kind.Link k) h = absurd cc

-- ---- a burst leads to no closing stage

replay_opens : (key more : ℕ) (config defaults : List ℕ) (holder : Option ℕ)
    → is_closing (Some (next_replay key more config defaults holder)) ≡ false
replay_opens key zero config defaults None = refl
replay_opens key zero config defaults (Some thread) = refl
replay_opens key (suc more) config defaults holder = split (slice_index config key == slice_index defaults key)
    (λ e. rw (e, next_replay) (replay_opens (key + 1) more config defaults holder))
    (λ e. rw (e, next_replay))

next_opens : (m : Mode) (p : PartState) → is_driving m ≡ true → is_closing (stage_due (next_mode m p)) ≡ false
unfolding replay_after
next_opens (mode.Boot s) p h = refl
next_opens mode.Running p h = absurd cc
next_opens (mode.Dead done) p h = absurd cc
next_opens (mode.Recovering stage.Init) p h = replay_opens 0 4 p.log.config p.log.defaults p.log.holder
next_opens (mode.Recovering (stage.ReplaySet key value)) p h =
    replay_opens (key + 1) (3 - key) p.log.config p.log.defaults p.log.holder
next_opens (mode.Recovering stage.ReplayOpen) p h = refl
next_opens (mode.Recovering stage.Stop) p h = absurd cc
next_opens (mode.Recovering stage.Collect) p h = absurd cc
next_opens (mode.Recovering stage.Reset) p h = absurd cc
next_opens (mode.Recovering stage.Load) p h = absurd cc
next_opens (mode.Recovering stage.Resume) p h = absurd cc

abbrev Opens : Crossed → Type 0
Opens c = is_closing (stage_due c.state.mode) ≡ false

either_opens : (b : Bool) (x y : Crossed) → (b ≡ true → Opens x) → (b ≡ false → Opens y) → Opens (if b then x else y)
either_opens true x y h k = h refl
either_opens false x y h k = k refl

served_opens : (number context : ℕ) (p : PartState) (o : Result Service BadParam) → is_closing (stage_due p.mode) ≡ false
    → Opens (serve_by number context p o)
unfolding fails
served_opens number context p (Err bad) h = refl
served_opens number context p (Ok s) h = h

reply_opens : (status : ℕ) (p : PartState) (o : Option CallEntry) → is_closing (stage_due p.mode) ≡ false
    → Opens (call_replied status p o)
unfolding fails closes_call
reply_opens status p None h = h
reply_opens status p (Some c) h = by_accept (accept c.op status)
  where
    by_accept : (a : Accept) → Opens (reply_by c status p a)
    by_accept accepts.Take = h
    by_accept (accepts.IoError block) = h
    by_accept (accepts.Fail cause) = refl

crossed_opens : (context : ℕ) (e : BurstEnd) (p : PartState) → is_closing (stage_due p.mode) ≡ false
    → ((context == 16) ≡ true → is_driving p.mode ≡ true) → Opens (after_crossing context e p)
unfolding after_crossing fails next_stage
crossed_opens context (ends.Trap cause) p h d = refl
crossed_opens context (ends.Kcall number) p h d =
    either_opens (is_last context p) (failed_crossing p (refused_service number context p) fail.TooManyCrossings)
    (kernel_call number context p) (λ e. refl)
    (λ e. served_opens number context p
    (checked number (first_argument context p.domain) (second_argument context p.domain) p.spec.class
    p.domain.entries) h)
crossed_opens context ends.Pause p h d =
    either_opens (is_last context p) (failed_crossing p end.Pause fail.TooManyCrossings) (goes_on p end.Pause)
    (λ e. refl) (λ e. h)
crossed_opens context (ends.Reply status) p h d =
    either_opens (context == 16) (shadow_replied status p)
    (call_replied status p (call_of_thread context p.log.pending))
    (λ own. either_opens (is_accepted status p) (goes_on (next_stage p) (end.Reply status))
    (failed_crossing p (end.Reply status) (shadow_fault status (stage_in p.mode)))
    (λ e. next_opens p.mode p (d own)) (λ e. refl))
    (λ other. reply_opens status p (call_of_thread context p.log.pending) h)

-- ---- steps

driving_stage_opens : (s : Stage) → is_driving_stage s ≡ true → is_closing (Some s) ≡ false
driving_stage_opens stage.Stop h = absurd cc
driving_stage_opens stage.Collect h = absurd cc
driving_stage_opens stage.Reset h = absurd cc
driving_stage_opens stage.Load h = absurd cc
driving_stage_opens stage.Resume h = absurd cc
driving_stage_opens stage.Init h = refl
driving_stage_opens (stage.ReplaySet key value) h = refl
driving_stage_opens stage.ReplayOpen h = refl

driving_opens : (m : Mode) → is_driving m ≡ true → is_closing (stage_due m) ≡ false
driving_opens (mode.Boot s) h = driving_stage_opens s h
driving_opens (mode.Recovering s) h = driving_stage_opens s h
driving_opens mode.Running h = absurd cc
driving_opens (mode.Dead done) h = absurd cc

running_opens : (m : Mode) → is_running m ≡ true → is_closing (stage_due m) ≡ false
running_opens mode.Running h = refl
running_opens (mode.Boot s) h = absurd cc
running_opens (mode.Recovering s) h = absurd cc
running_opens (mode.Dead done) h = absurd cc

pub driven_drives : (m : Mode) (o : Option Context) → IsDriven m o → is_some o ≡ true → is_driving m ≡ true
driven_drives m None d h = absurd cc
driven_drives m (Some x) d h = d.1

abbrev FindsAfter : PartSpec → Stepped → Type 0
FindsAfter spec t = Finds spec (stage_due t.state.mode) t.state.domain

burst_finds : (spec : PartSpec) (p : PartState) (context : ℕ) → IsTied p → enabled p (step.Burst context) ≡ true
    → FindsAfter spec (burst_stepped context p)
unfolding enabled burst_stepped
burst_finds spec p context tied e = split (context == 16)
    (λ own.
    let driven : is_driven p ≡ true = rw own at e in
    let drives : is_driving p.mode ≡ true = driven_drives p.mode (context_of 16 p.domain.contexts) tied.driven driven in
    opened (driving_opens p.mode drives) (λ o. drives))
    (λ other.
    let runs : is_running p.mode ≡ true = (and_parts (is_running p.mode) (is_inside (call_of_thread context p.log.pending)) (rw other at e)).0 in
    opened (running_opens p.mode runs) (λ own. absurd cc (own, other)))
  where
    opened : is_closing (stage_due p.mode) ≡ false → ((context == 16) ≡ true → is_driving p.mode ≡ true)
        → FindsAfter spec (burst_stepped context p)
    opened h d =
        let b = domain_burst context (faults_of_burst (p.bursts + 1) p.spec.faults) p.domain in
        let c = after_crossing context b.ending (with_burst b.domain p) in
        finds_any spec (stage_due c.state.mode) c.state.domain (crossed_opens context b.ending (with_burst b.domain p) h d)

invoke_finds : (spec : PartSpec) (p : PartState) (thread : ℕ) (o : Op) (a : Option Answer) → Finds spec (stage_due p.mode) p.domain
    → FindsAfter spec (invoked_by p thread o a)
invoke_finds spec p thread o None f = f
invoke_finds spec p thread o (Some a) f = f

admitted_mode : (p : PartState) (c : CallEntry) (a : Admit) → (after_admit p c a).state.mode ≡ p.mode
admitted_mode p c (admits.Reply a) = refl
admitted_mode p c admits.TakeFrame = refl
admitted_mode p c (admits.Enter index) = refl

enter_mode : (p : PartState) (thread : ℕ) (o : Option CallEntry) → (entered_by p thread o).state.mode ≡ p.mode
enter_mode p thread None = refl
enter_mode p thread (Some c) = admitted_mode p c (admit p.spec.class thread c.op p.log.holder (length p.queue))

enter_finds : (spec : PartSpec) (p : PartState) (thread : ℕ) → enabled p (step.Enter thread) ≡ true
    → FindsAfter spec (after_enter thread p)
unfolding enabled after_enter
enter_finds spec p thread e =
    let runs : is_running p.mode ≡ true = (and_parts (is_running p.mode) (is_ready p (call_of_thread thread p.log.pending)) e).0 in
    finds_any spec (stage_due (after_enter thread p).state.mode) (after_enter thread p).state.domain
    (ap (λ (m : Mode). is_closing (stage_due m)) (enter_mode p thread (call_of_thread thread p.log.pending)) ∙ running_opens p.mode runs)

arrival_finds : (spec : PartSpec) (o : Option Stage) (frame : List ℕ) (d : DomainState) → Finds spec o d
    → Finds spec o (record d { device = with_arrival frame d.device })
unfolding with_arrival
arrival_finds spec None frame d f = tt
arrival_finds spec (Some stage.Stop) frame d f = tt
arrival_finds spec (Some stage.Collect) frame d f = record { contexts = f.contexts; entries = f.entries }
arrival_finds spec (Some stage.Reset) frame d f = record { contexts = f.contexts; entries = f.entries }
arrival_finds spec (Some stage.Load) frame d f = (
  record { contexts = f.0.contexts; entries = f.0.entries },
  record {
    registers = f.1.registers;
    kind = arrival_kept spec.class spec.blocks spec.bad frame d.device.registers (drop 7360 d.memory) d.device.kind f.1.kind;
  },
)
arrival_finds spec (Some stage.Init) frame d f = tt
arrival_finds spec (Some (stage.ReplaySet key value)) frame d f = tt
arrival_finds spec (Some stage.ReplayOpen) frame d f = tt
arrival_finds spec (Some stage.Resume) frame d f = tt

-- the stage that follows is due, unless the part was given up
next_finds : (spec : PartSpec) (s : Stage) (m : Mode) (d : DomainState) → Finds spec (Some s) d
    → Finds spec (stage_due (with_stage s m)) d
next_finds spec s (mode.Boot was) d f = f
next_finds spec s mode.Running d f = tt
next_finds spec s (mode.Recovering was) d f = f
next_finds spec s (mode.Dead done) d f = tt

-- what is known of a part whose stage is due
pub record IsKnown (spec : PartSpec) (p : PartState) : Type 0 where
  pub is_of : p.spec ≡ spec
  pub class : class_of p.domain.device ≡ spec.class
  pub bad : bad_of p.domain.device ≡ bad_of_kind (opening_kind spec.class spec.blocks spec.bad)
  pub starts : p.domain.starts ≡ spec.image.entries
  pub fit : IsFit p

stage_finds : (spec : PartSpec) (p : PartState) (s : Stage) → IsKnown spec p → stage_due p.mode ≡ Some s
    → Finds spec (Some s) p.domain → FindsAfter spec (stage_done s p)
unfolding stops gives_up_part collects resets loads_image inits replays_set replays_open resumes stopped_domain collected_domain loaded_domain reset_device
stage_finds spec p stage.Stop k due f = split (is_given_up p)
    (λ e. rw e (record { contexts = refl; entries = none_live p.domain.entries }))
    (λ e. rw e (record { contexts = refl; entries = none_live p.domain.entries }))
stage_finds spec p stage.Collect k due f =
    next_finds spec stage.Reset p.mode (collected_domain p.domain)
    (record { contexts = f.contexts; entries = emptied p.domain.entries (collect_leaves p.domain.entries k.fit.domain.ordered) f.entries })
stage_finds spec p stage.Reset k due f =
    next_finds spec stage.Load p.mode (resets p).state.domain (
      record { contexts = f.contexts; entries = f.entries },
      record {
        registers = k.fit.log.defaults ∙ ap (λ (x : PartSpec). defaults_of x.class) k.is_of;
        kind = reset_kind_keeps spec.class spec.blocks spec.bad p.log.defaults (drop 7360 p.domain.memory) p.domain.device.kind k.class k.bad;
      },
    )
stage_finds spec p stage.Load k due f = next_finds spec stage.Init p.mode (loads_image p).state.domain tt
stage_finds spec p stage.Init k due f = subst (λ (o : Option Stage). Finds spec o (inits p).state.domain) (sym due) tt
stage_finds spec p (stage.ReplaySet key value) k due f =
    subst (λ (o : Option Stage). Finds spec o (replays_set key value p).state.domain) (sym due) tt
stage_finds spec p stage.ReplayOpen k due f = subst (λ (o : Option Stage). Finds spec o (replays_open p).state.domain) (sym due) tt
stage_finds spec p stage.Resume k due f = tt

stage_by_finds : (spec : PartSpec) (p : PartState) (o : Option Stage) → IsKnown spec p → stage_due p.mode ≡ o
    → Finds spec o p.domain → FindsAfter spec (stage_by p o)
stage_by_finds spec p None k due f = subst (λ (o : Option Stage). Finds spec o p.domain) (sym due) tt
stage_by_finds spec p (Some s) k due f = stage_finds spec p s k due f

step_finds : (spec : PartSpec) (p : PartState) (s : Step) → IsKnown spec p → IsTied p → enabled p s ≡ true
    → Finds spec (stage_due p.mode) p.domain → FindsAfter spec (stepped p s)
unfolding stepped after_invoke stage_stepped after_arrival
step_finds spec p (step.Invoke thread o) k tied e f = invoke_finds spec p thread o (static_check p.spec.class p.spec.blocks o) f
step_finds spec p (step.Enter thread) k tied e f = enter_finds spec p thread e
step_finds spec p (step.Burst context) k tied e f = burst_finds spec p context tied e
step_finds spec p step.Stage k tied e f = stage_by_finds spec p (stage_due p.mode) k refl f
step_finds spec p (step.Arrive frame) k tied e f = arrival_finds spec (stage_due p.mode) frame p.domain f

-- ---- runs

known_after : (spec : PartSpec) (p : PartState) (s : Step) → IsKnown spec p → enabled p s ≡ true → IsKnown spec (state_after p s)
known_after spec p s k e =
    let u : IsUnchanged p.domain (state_after p s).domain = step_leaves p s in
    record {
      is_of = spec_after p s ∙ k.is_of;
      class = class_after p s ∙ k.class;
      bad = u.bad ∙ k.bad;
      starts = u.starts ∙ k.starts;
      fit = fit_after p s k.fit e;
    }

-- what is known at the end of a run
pub record IsFound (spec : PartSpec) (p : PartState) : Type 0 where
  pub known : IsKnown spec p
  pub finds : Finds spec (stage_due p.mode) p.domain

pub found_from : (spec : PartSpec) (p : PartState) (events : List Event) → IsFound spec p → IsTied p → IsRunFrom p events
    → IsFound spec (state_from p events)
unfolding IsRunFrom state_from
found_from spec p [] f tied r = f
found_from spec p (e ∷ events) f tied r =
    found_from spec (state_after p (step_of e)) events
    (record {
      known = known_after spec p (step_of e) f.known r.0;
      finds = step_finds spec p (step_of e) f.known tied r.0 f.finds;
    })
    (tied_after p (step_of e) f.known.fit tied r.0) r.2

pub opening_found : (spec : PartSpec) → IsFitSpec spec → IsFound spec (opening spec)
unfolding opening opening_domain opening_device
opening_found spec fits = record {
  known = record {
    is_of = refl;
    class = opening_class spec;
    bad = refl;
    starts = refl;
    fit = opening_fit spec fits;
  };
  finds = (record { contexts = refl; entries = refl }, record { registers = refl; kind = opening_kept spec.class spec.blocks spec.bad });
}
  where
    opening_kept : (c : Class) (blocks : ℕ) (bad : List BadBlock) → opening_kind c blocks bad ≡ kind_with
        (record {
          objects = drop 7360 (opening_memory (defaults_of spec.class));
          medium = medium_of (device_of (defaults_of spec.class) (opening_kind c blocks bad));
          counts = counts_of (device_of (defaults_of spec.class) (opening_kind c blocks bad));
          ring = ring_of (device_of (defaults_of spec.class) (opening_kind c blocks bad));
        })
        (opening_kind c blocks bad)
    opening_kept class.Block blocks bad = refl
    opening_kept class.Net blocks bad = refl
    opening_kept class.Sound blocks bad = refl
