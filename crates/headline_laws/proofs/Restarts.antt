use Rattle.std.proofs.Common.{◌≡◌, ℕ, ◌+◌, ◌==◌, true, false, Option, Some, None, List, [], ◌∷◌, ◌++◌, length, take, drop, refl, sym, ap, subst, ◌∙◌, arith, ap₂, drop_at, length-append, append_assoc, take_at}
use Rattle.std.proofs.lemmas.Bool.{and_parts}
use Rattle.nook_data.specs.Classes.{defaults_of, static_check}
use Rattle.nook_data.specs.Valid.{IsValidPart}
use Rattle.nook_data.specs.declared.calls.Answer.{Answer}
use Rattle.nook_data.specs.declared.calls.CallEntry.{CallEntry}
use Rattle.nook_data.specs.declared.calls.Op.{Op}
use Rattle.nook_data.specs.declared.devices.DeviceKind.{DeviceKind}
use Rattle.nook_data.specs.declared.devices.DeviceKind.TheVariants as kind
use Rattle.nook_data.specs.declared.entries.Entry.{Entry}
use Rattle.nook_data.specs.declared.machine.Context.{Context}
use Rattle.nook_data.specs.declared.scenario.PartSpec.{PartSpec}
use Rattle.nook_data.specs.declared.steps.Event.{Event}
use Rattle.nook_data.specs.declared.steps.Event.TheVariants as event
use Rattle.nook_data.specs.declared.steps.Mode.{Mode}
use Rattle.nook_data.specs.declared.steps.Mode.TheVariants as mode
use Rattle.nook_data.specs.declared.steps.Stage.{Stage}
use Rattle.nook_data.specs.declared.steps.Stage.TheVariants as stage
use Rattle.nook_data.specs.declared.steps.Step.{Step}
use Rattle.nook_data.specs.declared.steps.Step.TheVariants as step
use Rattle.machine_defs.proofs.MachineCases.{kind_with_arrival}
use Rattle.machine_defs.proofs.Padded.{length-padded_words}
use Rattle.machine_defs.specs.Devices.{medium_of, opening_device, opening_kind, reset_device, reset_kind, ring_of}
use Rattle.machine_defs.specs.Devices.{with_arrival}
use Rattle.machine_defs.specs.Pages.{loaded_memory, opening_memory, padded_words}
use Rattle.machine_defs.specs.Views.Ports.{device_of}
use Rattle.part_defs.proofs.PartCases.{invoked_by, stage_by}
use Rattle.part_defs.specs.Calls.{Stepped, after_invoke}
use Rattle.part_defs.specs.Domain.{collected_domain, context_of, entered_domain, loaded_domain}
use Rattle.part_defs.specs.Domain.{opening_domain, plainly_entered, stopped_domain}
use Rattle.part_defs.specs.Log.{call_of_thread}
use Rattle.part_defs.specs.Runs.{IsRun, IsRunFrom, event_of, state_after, state_from, state_of, step_of}
use Rattle.part_defs.specs.Stages.{collects, gives_up_part, inits, is_given_up, loads_image, replays_open}
use Rattle.part_defs.specs.Stages.{replays_set, resets, resumes, stage_done, stage_due, stage_stepped, stops, with_stage}
use Rattle.part_defs.specs.State.{DomainState, PartState}
use Rattle.part_defs.specs.Steps.{after_arrival, enabled, is_driven, is_inside, is_ready, is_running}
use Rattle.part_defs.specs.Steps.{opening, stepped}
use Rattle.part_laws.proofs.DeviceStays.{run_spec}
use Rattle.part_laws.proofs.Indices.{split}
use Rattle.part_laws.proofs.RunBound.{opening_tied}
use Rattle.part_laws.proofs.StepsFit.{run_fit}
use Rattle.part_laws.proofs.ValidFits.{valid_fits}
use Rattle.part_laws.specs.Fit.{IsFit, IsFitSpec}
use Rattle.part_laws.specs.Tied.{IsTied, is_driving}
use Rattle.headline_laws.proofs.Fronts.{front_of, state_parts}
use Rattle.headline_laws.specs.Restart.{AreAlike, IsClean, IsRestart, Kept, Survive, counts_of, domain_with, fresh_domain}
use Rattle.headline_laws.specs.Restart.{is_load, is_renewing, is_reset, kept_of, kind_with}
use Rattle.headline_laws.proofs.Stopped.{Finds, IsFound, IsKnown, driven_drives, found_from, opening_found}

-- What a Load makes of a part, what follows it, and what a failure leaves.

-- ---- Load

-- a list that begins like another and ends like itself
rejoined : (n : ℕ) (a b x y : List ℕ) → length a + length b ≡ n → a ++ (b ++ y) ≡ take n (a ++ (b ++ x)) ++ drop n (a ++ (b ++ y))
rejoined n a b x y h =
    let l : length (a ++ b) ≡ n = length-append a b ∙ h in
    let t : take n (a ++ (b ++ x)) ≡ a ++ b = ap (take n) (sym (append_assoc a b x)) ∙ take_at (a ++ b) x n l in
    let d : drop n (a ++ (b ++ y)) ≡ y = ap (drop n) (sym (append_assoc a b y)) ∙ drop_at (a ++ b) y n l in
    sym (append_assoc a b y) ∙ sym (ap₂ (λ (s t : List ℕ). s ++ t) t d)

loaded_words : (spec : PartSpec) (before fresh : List ℕ) → IsFitSpec spec
    → loaded_memory spec.image before ≡ take 7360 (loaded_memory spec.image fresh) ++ drop 7360 (loaded_memory spec.image before)
unfolding loaded_memory
loaded_words spec before fresh s =
    let t : length (padded_words 2048 spec.image.text) ≡ 2048 = length-padded_words 2048 spec.image.text s.text in
    let n : length (padded_words 5312 spec.image.initial) ≡ 5312 = length-padded_words 5312 spec.image.initial (omega (arith, s.initial)) in
    rejoined 7360 (padded_words 2048 spec.image.text) (padded_words 5312 spec.image.initial) (drop 7360 fresh) (drop 7360 before) (omega arith)

-- a device has none of the objects
objects_aside : (kept : Kept) (objects : List ℕ) (k : DeviceKind) → kind_with kept k ≡ kind_with (record kept { objects = objects }) k
objects_aside kept objects (kind.Disk k) = refl
objects_aside kept objects (kind.Link k) = refl
objects_aside kept objects kind.Speaker = refl

-- a domain, by its parts
abbrev domain_of : List ℕ → List ℕ → List Entry → List ℕ → DeviceKind → List (Option Context) → DomainState
domain_of starts memory entries registers k contexts = record {
  starts = starts;
  memory = memory;
  entries = entries;
  device = record { registers = registers; kind = k };
  contexts = contexts;
}

same_parts : (s s' m m' : List ℕ) (e e' : List Entry) (r r' : List ℕ) (k k' : DeviceKind) (c c' : List (Option Context))
    → s ≡ s' → m ≡ m' → e ≡ e' → r ≡ r' → k ≡ k' → c ≡ c' → domain_of s m e r k c ≡ domain_of s' m' e' r' k' c'
same_parts s s' m m' e e' r r' k k' c c' hs hm he hr hk hc =
    λ i. domain_of (hs i) (hm i) (he i) (hr i) (hk i) (hc i)

loaded_clean : (spec : PartSpec) (p : PartState) → IsFitSpec spec → IsKnown spec p → Finds spec (Some stage.Load) p.domain
    → IsClean spec (loads_image p).state.domain
unfolding loads_image loaded_domain stepped stage_stepped opening opening_domain opening_device
loaded_clean spec p fits k f =
    let image : loaded_memory p.spec.image p.domain.memory ≡ loaded_memory spec.image p.domain.memory =
    ap (λ (x : PartSpec). loaded_memory x.image p.domain.memory) k.is_of in
    same_parts _ _ _ _ _ _ _ _ _ _ _ _ k.starts
    (image ∙ loaded_words spec p.domain.memory (opening_memory (defaults_of spec.class)) fits
    ∙ ap (λ (x : List ℕ). take 7360 (loaded_memory spec.image (opening_memory (defaults_of spec.class))) ++ drop 7360 x) (sym image))
    f.0.entries f.1.registers
    (f.1.kind ∙ objects_aside (kept_of p.domain) (kept_of (loads_image p).state.domain).objects (opening_kind spec.class spec.blocks spec.bad))
    f.0.contexts

-- the event of a Load says that it was due
load_by : (spec : PartSpec) (p : PartState) (o : Option Stage) → IsFitSpec spec → IsKnown spec p → is_load (stage_by p o).event ≡ true
    → Finds spec o p.domain
    → IsClean spec (stage_by p o).state.domain × ((stage_by p o).state.mode ≡ with_stage stage.Init p.mode)
unfolding stops gives_up_part collects resets inits replays_set replays_open resumes loads_image
load_by spec p None fits k h f = absurd cc
load_by spec p (Some stage.Stop) fits k h f = split (is_given_up p)
    (λ e. absurd (not_load (rw e at h)))
    (λ e. absurd (not_load (rw e at h)))
  where
    not_load : false ≡ true → ⊥
    not_load h = cc
load_by spec p (Some stage.Collect) fits k h f = absurd cc
load_by spec p (Some stage.Reset) fits k h f = absurd cc
load_by spec p (Some stage.Load) fits k h f = (loaded_clean spec p fits k f, refl)
load_by spec p (Some stage.Init) fits k h f = absurd cc
load_by spec p (Some (stage.ReplaySet key value)) fits k h f = absurd cc
load_by spec p (Some stage.ReplayOpen) fits k h f = absurd cc
load_by spec p (Some stage.Resume) fits k h f = absurd cc

load_clean : (spec : PartSpec) (p : PartState) (e : Event) → IsFitSpec spec → IsFound spec p → event_of p (step_of e) ≡ e
    → is_load e ≡ true
    → IsClean spec (state_after p (step_of e)).domain × ((state_after p (step_of e)).mode ≡ with_stage stage.Init p.mode)
unfolding stepped stage_stepped
load_clean spec p (event.Stage s answers released) fits f same h =
    load_by spec p (stage_due p.mode) fits f.known (ap is_load same ∙ h) f.finds
load_clean spec p (event.Invoke call thread o a) fits f same h = absurd cc
load_clean spec p (event.Enter call thread attempt a) fits f same h = absurd cc
load_clean spec p (event.Burst context call burst count end acts a failure) fits f same h = absurd cc
load_clean spec p (event.Arrive frame kept) fits f same h = absurd cc

one_further : (p : PartState) (front : List Event) (e : Event)
    → state_from p (front ++ e ∷ []) ≡ state_after (state_from p front) (step_of e)
unfolding state_from
one_further p front e = state_parts p front (e ∷ [])

-- a run that ends with a Load
record IsLoaded (spec : PartSpec) (front : List Event) (q : PartState) : Type 0 where
  clean : IsClean spec q.domain
  mode : q.mode ≡ with_stage stage.Init (state_of spec front).mode

run_loaded : (spec : PartSpec) (journal front back : List Event) (e : Event) → IsFitSpec spec → IsRun spec journal
    → journal ≡ front ++ e ∷ back → is_load e ≡ true → IsLoaded spec front (state_of spec (front ++ e ∷ []))
unfolding IsRunFrom
run_loaded spec journal front back e fits run parts load =
    let f = front_of spec journal front (e ∷ back) fits run parts in
    let found = found_from spec (opening spec) front (opening_found spec fits) (opening_tied spec) f.run in
    let l = load_clean spec (state_of spec front) e fits found f.more.1 load in
    subst (IsLoaded spec front) (sym (one_further (opening spec) front e)) (record { clean = l.0; mode = l.1 })

pub run_clean : (spec : PartSpec) (journal front back : List Event) (e : Event) → IsValidPart spec → IsRun spec journal
    → journal ≡ front ++ e ∷ back → is_load e ≡ true → IsClean spec (state_of spec (front ++ e ∷ [])).domain
run_clean spec journal front back e valid run parts load =
    (run_loaded spec journal front back e (valid_fits spec valid) run parts load).clean

-- ---- Reset

reset_ring : (registers : List ℕ) (k : DeviceKind) → ring_of (device_of registers (reset_kind k)) ≡ []
reset_ring registers (kind.Disk k) = refl
reset_ring registers (kind.Link k) = refl
reset_ring registers kind.Speaker = refl

reset_by : (p : PartState) (o : Option Stage) → is_reset (stage_by p o).event ≡ true → ring_of (stage_by p o).state.domain.device ≡ []
unfolding stops gives_up_part collects resets inits replays_set replays_open resumes loads_image reset_device
reset_by p None h = absurd cc
reset_by p (Some stage.Stop) h = split (is_given_up p)
    (λ e. absurd (not_reset (rw e at h)))
    (λ e. absurd (not_reset (rw e at h)))
  where
    not_reset : false ≡ true → ⊥
    not_reset h = cc
reset_by p (Some stage.Collect) h = absurd cc
reset_by p (Some stage.Reset) h = reset_ring p.log.defaults p.domain.device.kind
reset_by p (Some stage.Load) h = absurd cc
reset_by p (Some stage.Init) h = absurd cc
reset_by p (Some (stage.ReplaySet key value)) h = absurd cc
reset_by p (Some stage.ReplayOpen) h = absurd cc
reset_by p (Some stage.Resume) h = absurd cc

reset_empties : (p : PartState) (e : Event) → event_of p (step_of e) ≡ e → is_reset e ≡ true
    → ring_of (state_after p (step_of e)).domain.device ≡ []
unfolding stepped stage_stepped
reset_empties p (event.Stage s answers released) same h = reset_by p (stage_due p.mode) (ap is_reset same ∙ h)
reset_empties p (event.Invoke call thread o a) same h = absurd cc
reset_empties p (event.Enter call thread attempt a) same h = absurd cc
reset_empties p (event.Burst context call burst count end acts a failure) same h = absurd cc
reset_empties p (event.Arrive frame kept) same h = absurd cc

pub run_reset : (spec : PartSpec) (journal front back : List Event) (e : Event) → IsValidPart spec → IsRun spec journal
    → journal ≡ front ++ e ∷ back → is_reset e ≡ true → ring_of (state_of spec (front ++ e ∷ [])).domain.device ≡ []
unfolding IsRunFrom
run_reset spec journal front back e valid run parts h =
    let f = front_of spec journal front (e ∷ back) (valid_fits spec valid) run parts in
    ap (λ (q : PartState). ring_of q.domain.device) (one_further (opening spec) front e)
    ∙ reset_empties (state_of spec front) e f.more.1 h

-- ---- what follows a Load

-- a part that Init is to start, by what it has in common with another
abbrev restarted : PartSpec → Kept → List ℕ → Option ℕ → List CallEntry → List (List ℕ) → ℕ → ℕ → ℕ → ℕ → PartState
restarted spec kept config holder pending queue calls failures bursts arrived = record {
  spec = spec;
  domain = domain_with kept (fresh_domain spec);
  log = record { pending = pending; count = calls; config = config; defaults = defaults_of spec.class; holder = holder };
  queue = queue;
  mode = mode.Recovering stage.Init;
  failures = failures;
  bursts = bursts;
  arrived = arrived;
}

-- a part, by its parts
abbrev part_of : PartSpec → DomainState → List CallEntry → ℕ → List ℕ → List ℕ → Option ℕ → List (List ℕ) → Mode → ℕ → ℕ → ℕ
    → PartState
part_of spec d pending count config defaults holder queue m failures bursts arrived = record {
  spec = spec;
  domain = d;
  log = record { pending = pending; count = count; config = config; defaults = defaults; holder = holder };
  queue = queue;
  mode = m;
  failures = failures;
  bursts = bursts;
  arrived = arrived;
}

-- what is left of a part after a restart
abbrev left_of : PartSpec → PartState → PartState
left_of spec p =
    restarted spec (kept_of p.domain) p.log.config p.log.holder p.log.pending p.queue p.log.count p.failures p.bursts p.arrived

restart_state : (spec : PartSpec) (journal : List Event) → IsFitSpec spec → IsRestart spec journal
    → state_of spec journal ≡ left_of spec (state_of spec journal)
restart_state spec journal fits r =
    let p = state_of spec journal in
    let l : IsLoaded spec r.front p = subst (λ (events : List Event). IsLoaded spec r.front (state_of spec events)) (sym r.parts)
    (run_loaded spec journal r.front [] r.load fits r.run r.parts r.is_load) in
    let is_of : p.spec ≡ spec = run_spec spec journal r.run in
    let defaults : p.log.defaults ≡ defaults_of spec.class =
    (run_fit spec journal fits r.run).log.defaults ∙ ap (λ (x : PartSpec). defaults_of x.class) is_of in
    let m : p.mode ≡ mode.Recovering stage.Init = l.mode ∙ ap (with_stage stage.Init) r.recovering in
    λ i. part_of (is_of i) (l.clean i) p.log.pending p.log.count p.log.config (defaults i) p.log.holder p.queue (m i)
    p.failures p.bursts p.arrived

alike_left : (spec : PartSpec) (p q : PartState) → AreAlike p q → left_of spec p ≡ left_of spec q
alike_left spec p q same =
    λ i. restarted spec (same.kept i) (same.config i) (same.holder i) (same.pending i) (same.queue i) (same.calls i)
    (same.failures i) (same.bursts i) (same.arrived i)

alike_same : (spec : PartSpec) (a b : List Event) → IsFitSpec spec → IsRestart spec a → IsRestart spec b
    → AreAlike (state_of spec a) (state_of spec b) → state_of spec a ≡ state_of spec b
alike_same spec a b fits r s same =
    restart_state spec a fits r ∙ alike_left spec (state_of spec a) (state_of spec b) same ∙ sym (restart_state spec b fits s)

run_joined : (p : PartState) (front back : List Event) → IsRunFrom p front → IsRunFrom (state_from p front) back
    → IsRunFrom p (front ++ back)
unfolding IsRunFrom state_from
run_joined p [] back r more = more
run_joined p (e ∷ front) back r more = (r.0, r.1, run_joined (state_after p (step_of e)) front back r.2 more)

pub same_after : (spec : PartSpec) (a b more : List Event) → IsValidPart spec → IsRestart spec a → IsRestart spec b
    → AreAlike (state_of spec a) (state_of spec b) → IsRun spec (a ++ more)
    → IsRun spec (b ++ more) × (state_of spec (a ++ more) ≡ state_of spec (b ++ more))
same_after spec a b more valid r s same run =
    let fits = valid_fits spec valid in
    let e : state_of spec a ≡ state_of spec b = alike_same spec a b fits r s same in
    let f = front_of spec (a ++ more) a more fits run refl in (
      run_joined (opening spec) b more s.run (subst (λ (p : PartState). IsRunFrom p more) e f.more),
      state_parts (opening spec) a more ∙ ap (λ (p : PartState). state_from p more) e ∙ sym (state_parts (opening spec) b more),
    )

-- ---- what survives

renewing_away : (m : Mode) → is_renewing m ≡ true → (is_running m ≡ false) × (is_driving m ≡ false)
renewing_away (mode.Recovering stage.Stop) h = (refl, refl)
renewing_away (mode.Recovering stage.Collect) h = (refl, refl)
renewing_away (mode.Recovering stage.Reset) h = (refl, refl)
renewing_away (mode.Recovering stage.Load) h = (refl, refl)
renewing_away (mode.Recovering stage.Init) h = absurd cc
renewing_away (mode.Recovering (stage.ReplaySet key value)) h = absurd cc
renewing_away (mode.Recovering stage.ReplayOpen) h = absurd cc
renewing_away (mode.Recovering stage.Resume) h = absurd cc
renewing_away (mode.Boot s) h = absurd cc
renewing_away mode.Running h = absurd cc
renewing_away (mode.Dead done) h = absurd cc

abbrev Leaves : PartState → Stepped → Type 0
Leaves p t = Survive p.domain t.state.domain

unharmed : (d : DomainState) → Survive d d
unharmed d = record { objects = refl; medium = refl; counts = refl }

reset_leaves : (registers : List ℕ) (k : DeviceKind)
    → (medium_of (device_of registers (reset_kind k)) ≡ medium_of (device_of registers k))
    × (counts_of (device_of registers (reset_kind k)) ≡ counts_of (device_of registers k))
reset_leaves registers (kind.Disk k) = (refl, refl)
reset_leaves registers (kind.Link k) = (refl, refl)
reset_leaves registers kind.Speaker = (refl, refl)

arrival_leaves : (frame registers : List ℕ) (k : DeviceKind)
    → (medium_of (device_of registers (kind_with_arrival frame k)) ≡ medium_of (device_of registers k))
    × (counts_of (device_of registers (kind_with_arrival frame k)) ≡ counts_of (device_of registers k))
arrival_leaves frame registers (kind.Disk k) = (refl, refl)
arrival_leaves frame registers (kind.Link k) = (refl, refl)
arrival_leaves frame registers kind.Speaker = (refl, refl)

ended_by : (n : ℕ) (a b y : List ℕ) → length a + length b ≡ n → drop n (a ++ (b ++ y)) ≡ y
ended_by n a b y h = ap (drop n) (sym (append_assoc a b y)) ∙ drop_at (a ++ b) y n (length-append a b ∙ h)

loaded_leaves : (spec : PartSpec) (memory : List ℕ) → IsFitSpec spec → drop 7360 (loaded_memory spec.image memory) ≡ drop 7360 memory
unfolding loaded_memory
loaded_leaves spec memory s =
    let t : length (padded_words 2048 spec.image.text) ≡ 2048 = length-padded_words 2048 spec.image.text s.text in
    let n : length (padded_words 5312 spec.image.initial) ≡ 5312 = length-padded_words 5312 spec.image.initial (omega (arith, s.initial)) in
    ended_by 7360 (padded_words 2048 spec.image.text) (padded_words 5312 spec.image.initial) (drop 7360 memory) (omega arith)

stage_leaves : (p : PartState) (s : Stage) → IsFitSpec p.spec → Leaves p (stage_done s p)
unfolding stops gives_up_part collects resets loads_image inits replays_set replays_open resumes stopped_domain collected_domain loaded_domain plainly_entered entered_domain reset_device
stage_leaves p stage.Stop fits = split (is_given_up p)
    (λ e. rw e (record { objects = refl; medium = refl; counts = refl }))
    (λ e. rw e (record { objects = refl; medium = refl; counts = refl }))
stage_leaves p stage.Collect fits = record { objects = refl; medium = refl; counts = refl }
stage_leaves p stage.Reset fits =
    let r = reset_leaves p.domain.device.registers p.domain.device.kind in
    record { objects = refl; medium = r.0; counts = r.1 }
stage_leaves p stage.Load fits = record { objects = loaded_leaves p.spec p.domain.memory fits; medium = refl; counts = refl }
stage_leaves p stage.Init fits = record { objects = refl; medium = refl; counts = refl }
stage_leaves p (stage.ReplaySet key value) fits = record { objects = refl; medium = refl; counts = refl }
stage_leaves p stage.ReplayOpen fits = record { objects = refl; medium = refl; counts = refl }
stage_leaves p stage.Resume fits = unharmed p.domain

stage_by_leaves : (p : PartState) (o : Option Stage) → IsFitSpec p.spec → Leaves p (stage_by p o)
stage_by_leaves p None fits = unharmed p.domain
stage_by_leaves p (Some s) fits = stage_leaves p s fits

invoke_leaves : (p : PartState) (thread : ℕ) (o : Op) (a : Option Answer) → Leaves p (invoked_by p thread o a)
invoke_leaves p thread o None = unharmed p.domain
invoke_leaves p thread o (Some a) = unharmed p.domain

no_burst : (p : PartState) (context : ℕ) → IsTied p → (is_running p.mode ≡ false) × (is_driving p.mode ≡ false)
    → enabled p (step.Burst context) ≡ true → ⊥
unfolding enabled
no_burst p context tied away e = split (context == 16)
    (λ own.
    let driven : is_driven p ≡ true = rw own at e in
    absurd cc (driven_drives p.mode (context_of 16 p.domain.contexts) tied.driven driven, away.1))
    (λ other.
    let runs : is_running p.mode ≡ true = (and_parts (is_running p.mode) (is_inside (call_of_thread context p.log.pending)) (rw other at e)).0 in
    absurd cc (runs, away.0))

no_enter : (p : PartState) (thread : ℕ) → is_running p.mode ≡ false → enabled p (step.Enter thread) ≡ true → ⊥
unfolding enabled
no_enter p thread away e =
    let runs : is_running p.mode ≡ true = (and_parts (is_running p.mode) (is_ready p (call_of_thread thread p.log.pending)) e).0 in
    absurd cc (runs, away)

step_survives : (p : PartState) (s : Step) → IsFit p → IsTied p → enabled p s ≡ true → is_renewing p.mode ≡ true
    → Survive p.domain (state_after p s).domain
unfolding stepped after_invoke stage_stepped after_arrival with_arrival
step_survives p (step.Invoke thread o) fit tied e h = invoke_leaves p thread o (static_check p.spec.class p.spec.blocks o)
step_survives p (step.Enter thread) fit tied e h = absurd (no_enter p thread (renewing_away p.mode h).0 e)
step_survives p (step.Burst context) fit tied e h = absurd (no_burst p context tied (renewing_away p.mode h) e)
step_survives p step.Stage fit tied e h = stage_by_leaves p (stage_due p.mode) fit.spec
step_survives p (step.Arrive frame) fit tied e h =
    let a = arrival_leaves frame p.domain.device.registers p.domain.device.kind in
    record { objects = refl; medium = a.0; counts = a.1 }

pub run_survives : (spec : PartSpec) (journal front back : List Event) (e : Event) → IsValidPart spec → IsRun spec journal
    → journal ≡ front ++ e ∷ back → is_renewing (state_of spec front).mode ≡ true
    → Survive (state_of spec front).domain (state_of spec (front ++ e ∷ [])).domain
unfolding IsRunFrom
run_survives spec journal front back e valid run parts h =
    let f = front_of spec journal front (e ∷ back) (valid_fits spec valid) run parts in
    subst (λ (q : PartState). Survive (state_of spec front).domain q.domain) (sym (one_further (opening spec) front e))
    (step_survives (state_of spec front) (step_of e) f.fit f.tied f.more.0 h)
