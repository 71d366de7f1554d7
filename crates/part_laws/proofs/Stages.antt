use Rattle.std.proofs.Common.{◌≡◌, ◌⊎◌, ℕ, cond, Bool, true, false, Option, Some, is_some, List, [], length, slice_set, slice_index, sym, refl, ap, ap₂, subst, ◌∙◌, inl, inr, length-set}
use Rattle.std.proofs.lemmas.Bool.{cond-true, cond-false}
use Rattle.nook_data.specs.declared.devices.DeviceKind.{DeviceKind}
use Rattle.nook_data.specs.declared.devices.DeviceKind.TheVariants as kind
use Rattle.nook_data.specs.declared.devices.DeviceState.{DeviceState}
use Rattle.nook_data.specs.declared.entries.Entry.{Entry}
use Rattle.nook_data.specs.declared.steps.Event.TheVariants as event
use Rattle.nook_data.specs.declared.steps.Mode.{Mode}
use Rattle.nook_data.specs.declared.steps.Mode.TheVariants as mode
use Rattle.nook_data.specs.declared.steps.Stage.{Stage}
use Rattle.nook_data.specs.declared.steps.Stage.TheVariants as stage
use Rattle.nook_data.specs.declared.machine.Context.{Context}
use Rattle.part_defs.specs.Calls.{Stepped}
use Rattle.part_laws.specs.Watch.{Watch, sees_stage}
use Rattle.machine_defs.specs.Devices.{reset_device, reset_kind}
use Rattle.machine_defs.proofs.MachineCases.{medium_of_kind, ring_of_kind}
use Rattle.part_defs.specs.Domain.{context_of, entered_domain, plainly_entered, stopped_domain, collected_domain}
use Rattle.part_defs.specs.Domain.{loaded_domain}
use Rattle.promise_defs.specs.Ideal.{ran}
use Rattle.part_defs.specs.Stages.{is_given_up, stops, gives_up_part, collects, resets, loads_image, inits, replays_set}
use Rattle.part_defs.specs.Stages.{replays_open, resumes, stage_due, stage_stepped}
use Rattle.part_defs.specs.State.{PartState}
use Rattle.part_defs.specs.Steps.{is_driven}
use Rattle.part_laws.specs.Counts.{Counts, count_stage}
use Rattle.part_laws.specs.Balance.{frame_counts, held_at, Balance, Balanced}
use Rattle.part_laws.specs.ActsOn.{Dev, dev_of, is_link}
use Rattle.part_laws.specs.Recovery.{Gone, StepKeeps}
use Rattle.part_laws.specs.Facts.{At, KeyAt, KeyIn, ReplayFits, BootFits, may_be_inside, is_driving, is_dead, Facts}
use Rattle.part_laws.specs.Views.{View, Past, Core, core_of, cores, stage_of, replay_of, view_of, watch_of, ideal_of}
use Rattle.part_laws.proofs.Balances.{reset_balance}
use Rattle.part_laws.proofs.Contexts.{shadow_set}
use Rattle.part_laws.proofs.Indices.{split, get_map}
use Rattle.part_laws.proofs.Stops.{stop_ok}
use Rattle.part_laws.proofs.Subs.{sub_without_end, sub_without_mid}

-- The stages of a boot and of a recovery.

abbrev pub with_mode : Mode → PartState → PartState
with_mode m p = record p { mode = m }

-- ---- builders

abbrev pub moded : Mode → Bool → View → View
moded m d v = record v { mode = m; driven = d }

-- no call is Inside, and the mode changes
pub restage : (v : View) (b : Past) (m : Mode) (d : Bool) → Facts v b → may_be_inside v.mode ≡ false
    → ((key : ℕ) → KeyIn (cores b) v.config v.defaults d m key (slice_index v.dev.registers key))
    → ReplayFits v.config (stage_of m) → BootFits v.config v.defaults m → (d ≡ true → is_driving (stage_of m) ≡ true) → Facts (moded m d v) b
restage v b m d f n registers replay booting driving = record {
  linked = f.linked;
  width = f.width;
  keys = f.keys;
  defaults = f.defaults;
  pending = f.pending;
  count = f.count;
  calls = f.calls;
  disk = f.disk;
  holders = f.holders;
  registers = registers;
  replay = replay;
  booting = booting;
  chain = f.chain;
  handed_up = λ r k c h i. absurd (none k c.core (get_map core_of b.calls k c h) i);
  insides = λ k c h i. absurd (none k c h i);
  driving = driving;
}
  where
    none : (k : ℕ) (c : Core) → At (cores b) k c → c.inside ≡ true → ⊥
    none k c h i = absurd cc (n, f.insides k c h i)

abbrev stage_event : PartState → Stage → List Entry → Stepped
stage_event q s released = record { state = q; event = event.Stage s [] released }

-- a stage that changes only the mode, or begins the shadow's call
quiet : (p q : PartState) (b : Past) (s : Stage) (released : List Entry) (m : Mode) (d : Bool) → moded m d (view_of p) ≡ view_of q
    → length q.domain.contexts ≡ 17 → Facts (moded m d (view_of p)) b
    → sees_stage s (watch_of (view_of p) b) ≡ watch_of (moded m d (view_of p)) b
    → ((n : Counts) → count_stage s n ≡ n) → held_at (stage_of p.mode) b.rest ≡ held_at (stage_of m) b.rest
    → StepKeeps p b (stage_event q s released)
quiet p q b s released m d e l f h same held = record {
  counted = λ n x. subst (λ v. Balanced v b (count_stage s n)) e
      (subst (λ y. Balance (length (view_of p).dev.ring) (length p.queue) (held_at (stage_of m) b.rest) (frame_counts y)) (sym (same n))
      (subst (λ y. Balance (length (view_of p).dev.ring) (length p.queue) y (frame_counts n)) held x));
  after = b;
  facts = subst (λ v. Facts v b) e f;
  contexts = l;
  seen = h ∙ ap (λ v. watch_of v b) e;
  tracked = refl;
  shown = λ more. ap (λ v. ran (ideal_of v b) more) e;
  licensed = refl;
}

-- nothing is replayed while the shadow's context is free
no_replay : (w : Watch) (d : Bool) (m m' : Mode) → d ≡ false
    → record w { replay = replay_of d m } ≡ record w { replay = replay_of d m' }
no_replay w d m m' e = ap (λ t. record w { replay = replay_of t m }) e ∙ ap (λ t. record w { replay = replay_of t m' }) (sym e)

-- the shadow's call begins
begun : (cs : List (Option Context)) (x : Context) → length cs ≡ 17 → true ≡ is_some (context_of 16 (slice_set cs 16 (Some x)))
begun cs x l = sym (ap is_some (shadow_set cs (Some x) l))

-- ---- Reset

reset_linked : (k : DeviceKind) → is_link (reset_kind k) ≡ is_link k
reset_linked (kind.Disk k) = refl
reset_linked (kind.Link k) = refl
reset_linked kind.Speaker = refl

reset_medium : (k : DeviceKind) → medium_of_kind (reset_kind k) ≡ medium_of_kind k
reset_medium (kind.Disk k) = refl
reset_medium (kind.Link k) = refl
reset_medium kind.Speaker = refl

reset_ring : (k : DeviceKind) → ring_of_kind (reset_kind k) ≡ []
reset_ring (kind.Disk k) = refl
reset_ring (kind.Link k) = refl
reset_ring kind.Speaker = refl

abbrev reset_dev : List ℕ → Dev → Dev
reset_dev defaults d = record { linked = d.linked; medium = d.medium; ring = []; registers = defaults }

reset_seen : (defaults : List ℕ) (d : DeviceState) → reset_dev defaults (dev_of d) ≡ dev_of (reset_device defaults d)
unfolding reset_device
reset_seen defaults d = ap₂ (λ m r. record { linked = is_link d.kind; medium = m; ring = r; registers = defaults }) (sym (reset_medium d.kind)) (sym (reset_ring d.kind))
    ∙ ap (λ l. record { linked = l; medium = medium_of_kind (reset_kind d.kind); ring = ring_of_kind (reset_kind d.kind); registers = defaults }) (sym (reset_linked d.kind))

-- from Reset to Load
abbrev reset_view : Mode → View → View
reset_view m v = record v { mode = m; dev = reset_dev v.defaults v.dev }

reset_facts : (v : View) (b : Past) (m : Mode) → Facts v b → may_be_inside v.mode ≡ false → v.driven ≡ false
    → ((key : ℕ) → KeyIn (cores b) v.config v.defaults v.driven m key (slice_index v.defaults key))
    → ReplayFits v.config (stage_of m) → BootFits v.config v.defaults m → Facts (reset_view m v) b
reset_facts v b m f n d registers replay booting = record {
  linked = f.linked;
  width = ap length f.defaults;
  keys = f.keys;
  defaults = f.defaults;
  pending = f.pending;
  count = f.count;
  calls = f.calls;
  disk = f.disk;
  holders = f.holders;
  registers = registers;
  replay = replay;
  booting = booting;
  chain = sub_without_end v.queue b.rest v.dev.ring b.frames f.chain;
  handed_up = λ r k c h i. absurd (none k c.core (get_map core_of b.calls k c h) i);
  insides = λ k c h i. absurd (none k c h i);
  driving = λ t. absurd cc (d, t);
}
  where
    none : (k : ℕ) (c : Core) → At (cores b) k c → c.inside ≡ true → ⊥
    none k c h i = absurd cc (n, f.insides k c h i)

reset_step : (p q : PartState) (b : Past) (m : Mode) → reset_view m (view_of p) ≡ view_of q → length q.domain.contexts ≡ 17
    → held_at (stage_of m) b.rest ≡ 0
    → Facts (view_of p) b → is_driven p ≡ false → Facts (reset_view m (view_of p)) b → StepKeeps p b (stage_event q stage.Reset [])
reset_step p q b m e l held f d g = record {
  counted = λ n x. subst (λ v. Balanced v b (count_stage stage.Reset n)) e
      (subst (λ y. Balance 0 (length p.queue) y (frame_counts (count_stage stage.Reset n))) (sym held)
      (reset_balance (length (view_of p).dev.ring) (length p.queue) (held_at (stage_of p.mode) b.rest) n x));
  after = b;
  facts = subst (λ v. Facts v b) e g;
  contexts = l;
  seen =
      ap (λ r. record (watch_of (view_of p) b) { ring = []; registers = r }) (sym f.defaults)
      ∙ no_replay (watch_of (reset_view m (view_of p)) b) (is_driven p) p.mode m d
      ∙ ap (λ v. watch_of v b) e;
  tracked = refl;
  shown = λ more. ap (λ v. ran (ideal_of v b) more) e;
  licensed = refl;
}

-- ---- Load

abbrev loaded : Past → Past
loaded b = record b { handed = []; rest = [] }

load_facts : (v : View) (b : Past) (m : Mode) → Facts (moded m v.driven v) b → Facts (moded m v.driven v) (loaded b)
load_facts v b m f = record {
  linked = f.linked;
  width = f.width;
  keys = f.keys;
  defaults = f.defaults;
  pending = f.pending;
  count = f.count;
  calls = f.calls;
  disk = f.disk;
  holders = f.holders;
  registers = f.registers;
  replay = f.replay;
  booting = f.booting;
  chain = sub_without_mid v.queue b.rest v.dev.ring b.frames f.chain;
  handed_up = f.handed_up;
  insides = f.insides;
  driving = f.driving;
}

load_step : (p q : PartState) (b : Past) (m : Mode) → moded m (is_driven p) (view_of p) ≡ view_of q → length q.domain.contexts ≡ 17
    → held_at (stage_of p.mode) b.rest ≡ held_at (stage_of m) []
    → is_driven p ≡ false → Facts (moded m (is_driven p) (view_of p)) b → StepKeeps p b (stage_event q stage.Load [])
load_step p q b m e l held d g = record {
  counted = λ n x. subst (λ v. Balanced v (loaded b) n) e
      (subst (λ y. Balance (length (view_of p).dev.ring) (length p.queue) y (frame_counts n)) held x);
  after = loaded b;
  facts = subst (λ v. Facts v (loaded b)) e (load_facts (view_of p) b m g);
  contexts = l;
  seen = no_replay (watch_of (moded m (is_driven p) (view_of p)) (loaded b)) (is_driven p) p.mode m d ∙ ap (λ v. watch_of v (loaded b)) e;
  tracked = refl;
  shown = λ more. ap (λ v. ran (ideal_of v (loaded b)) more) e;
  licensed = refl;
}

-- ---- a replay begins

replay_begins : (config defaults : List ℕ) (d : Bool) (k w key value : ℕ) → d ≡ false → KeyAt config defaults d (stage.ReplaySet k w) key value
    → KeyAt config defaults true (stage.ReplaySet k w) key value
replay_begins config defaults d k w key value e h = (h.0, h.1, λ s. at (h.2 s))
  where
    at : (value ≡ slice_index defaults key) ⊎ ((d ≡ true) × (value ≡ w)) → (value ≡ slice_index defaults key) ⊎ ((true ≡ true) × (value ≡ w))
    at (inl i) = inl i
    at (inr i) = absurd cc (e, i.0)

-- ---- all stages

stop_or_dead : (p : PartState) (b : Past) → Facts (view_of p) b → held_at (stage_of p.mode) b.rest ≡ length b.rest → is_driven p ≡ false
    → Gone (cond (is_given_up p) (gives_up_part p) (stops p)).state ⊎ StepKeeps p b (cond (is_given_up p) (gives_up_part p) (stops p))
unfolding gives_up_part stopped_domain
stop_or_dead p b f held d = split (is_given_up p)
    (λ t. inl (subst (λ (x : Stepped). Gone x.state) (sym (cond-true (is_given_up p) (gives_up_part p) (stops p) t)) (refl, refl)))
    (λ t. inr (subst (λ x. StepKeeps p b x) (sym (cond-false (is_given_up p) (gives_up_part p) (stops p) t)) (stop_ok p b f held d)))

stage_at : (m : Mode) (p : PartState) (b : Past) → Facts (view_of (with_mode m p)) b → length p.domain.contexts ≡ 17
    → is_driven p ≡ false → is_dead m ≡ false → is_some (stage_due m) ≡ true
    → Gone (stage_stepped (with_mode m p)).state ⊎ StepKeeps (with_mode m p) b (stage_stepped (with_mode m p))
unfolding stage_stepped collects collected_domain resets loads_image loaded_domain inits replays_set replays_open resumes plainly_entered entered_domain
stage_at mode.Running p b f l d n s = absurd cc
stage_at (mode.Dead collected) p b f l d n s = absurd cc
stage_at (mode.Boot stage.Stop) p b f l d n s = stop_or_dead (with_mode (mode.Boot stage.Stop) p) b f refl d
stage_at (mode.Recovering stage.Stop) p b f l d n s = stop_or_dead (with_mode (mode.Recovering stage.Stop) p) b f refl d
stage_at (mode.Boot stage.Collect) p b f l d n s = inr (quiet (with_mode (mode.Boot stage.Collect) p) _ b stage.Collect _ (mode.Boot stage.Reset) (is_driven p) refl l
    (restage (view_of (with_mode (mode.Boot stage.Collect) p)) b (mode.Boot stage.Reset) (is_driven p) f refl (λ key. tt) tt f.booting (λ t. absurd cc (d, t)))
    (no_replay (watch_of (view_of (with_mode (mode.Boot stage.Collect) p)) b) (is_driven p) (mode.Boot stage.Collect) (mode.Boot stage.Reset) d) (λ n. refl) refl)
stage_at (mode.Recovering stage.Collect) p b f l d n s = inr (quiet (with_mode (mode.Recovering stage.Collect) p) _ b stage.Collect _ (mode.Recovering stage.Reset) (is_driven p) refl l
    (restage (view_of (with_mode (mode.Recovering stage.Collect) p)) b (mode.Recovering stage.Reset) (is_driven p) f refl (λ key. tt) tt tt (λ t. absurd cc (d, t)))
    (no_replay (watch_of (view_of (with_mode (mode.Recovering stage.Collect) p)) b) (is_driven p) (mode.Recovering stage.Collect) (mode.Recovering stage.Reset) d) (λ n. refl) refl)
stage_at (mode.Boot stage.Reset) p b f l d n s = inr (reset_step (with_mode (mode.Boot stage.Reset) p) _ b (mode.Boot stage.Load)
    (ap (λ x. record (view_of (with_mode (mode.Boot stage.Load) p)) { dev = x }) (reset_seen p.log.defaults p.domain.device)) l refl f d
    (reset_facts (view_of (with_mode (mode.Boot stage.Reset) p)) b (mode.Boot stage.Load) f refl d (λ key. refl) tt f.booting))
stage_at (mode.Recovering stage.Reset) p b f l d n s = inr (reset_step (with_mode (mode.Recovering stage.Reset) p) _ b (mode.Recovering stage.Load)
    (ap (λ x. record (view_of (with_mode (mode.Recovering stage.Load) p)) { dev = x }) (reset_seen p.log.defaults p.domain.device)) l refl f d
    (reset_facts (view_of (with_mode (mode.Recovering stage.Reset) p)) b (mode.Recovering stage.Load) f refl d (λ key. refl) tt tt))
stage_at (mode.Boot stage.Load) p b f l d n s = inr (load_step (with_mode (mode.Boot stage.Load) p) _ b (mode.Boot stage.Init) refl l refl d
    (restage (view_of (with_mode (mode.Boot stage.Load) p)) b (mode.Boot stage.Init) (is_driven p) f refl f.registers tt f.booting (λ t. refl)))
stage_at (mode.Recovering stage.Load) p b f l d n s = inr (load_step (with_mode (mode.Recovering stage.Load) p) _ b (mode.Recovering stage.Init) refl l refl d
    (restage (view_of (with_mode (mode.Recovering stage.Load) p)) b (mode.Recovering stage.Init) (is_driven p) f refl f.registers tt tt (λ t. refl)))
stage_at (mode.Boot stage.Init) p b f l d n s = inr (quiet (with_mode (mode.Boot stage.Init) p) _ b stage.Init _ (mode.Boot stage.Init) true
    (ap (λ t. moded (mode.Boot stage.Init) t (view_of p)) (begun p.domain.contexts _ l)) (length-set p.domain.contexts 16 _ ∙ l)
    (restage (view_of (with_mode (mode.Boot stage.Init) p)) b (mode.Boot stage.Init) true f refl f.registers tt f.booting (λ t. refl))
    (ap (λ t. record (watch_of (view_of (with_mode (mode.Boot stage.Init) p)) b) { replay = replay_of t (mode.Boot stage.Init) }) d) (λ n. refl) refl)
stage_at (mode.Recovering stage.Init) p b f l d n s = inr (quiet (with_mode (mode.Recovering stage.Init) p) _ b stage.Init _ (mode.Recovering stage.Init) true
    (ap (λ t. moded (mode.Recovering stage.Init) t (view_of p)) (begun p.domain.contexts _ l)) (length-set p.domain.contexts 16 _ ∙ l)
    (restage (view_of (with_mode (mode.Recovering stage.Init) p)) b (mode.Recovering stage.Init) true f refl f.registers tt tt (λ t. refl))
    (ap (λ t. record (watch_of (view_of (with_mode (mode.Recovering stage.Init) p)) b) { replay = replay_of t (mode.Recovering stage.Init) }) d) (λ n. refl) refl)
stage_at (mode.Boot (stage.ReplaySet k w)) p b f l d n s = inr (quiet (with_mode (mode.Boot (stage.ReplaySet k w)) p) _ b (stage.ReplaySet k w) _ (mode.Boot (stage.ReplaySet k w)) true
    (ap (λ t. moded (mode.Boot (stage.ReplaySet k w)) t (view_of p)) (begun p.domain.contexts _ l)) (length-set p.domain.contexts 16 _ ∙ l)
    (restage (view_of (with_mode (mode.Boot (stage.ReplaySet k w)) p)) b (mode.Boot (stage.ReplaySet k w)) true f refl
    (λ key. replay_begins p.log.config p.log.defaults (is_driven p) k w key _ d (f.registers key)) f.replay f.booting (λ t. refl))
    refl (λ n. refl) refl)
stage_at (mode.Recovering (stage.ReplaySet k w)) p b f l d n s = inr (quiet (with_mode (mode.Recovering (stage.ReplaySet k w)) p) _ b (stage.ReplaySet k w) _ (mode.Recovering (stage.ReplaySet k w)) true
    (ap (λ t. moded (mode.Recovering (stage.ReplaySet k w)) t (view_of p)) (begun p.domain.contexts _ l)) (length-set p.domain.contexts 16 _ ∙ l)
    (restage (view_of (with_mode (mode.Recovering (stage.ReplaySet k w)) p)) b (mode.Recovering (stage.ReplaySet k w)) true f refl
    (λ key. replay_begins p.log.config p.log.defaults (is_driven p) k w key _ d (f.registers key)) f.replay tt (λ t. refl))
    refl (λ n. refl) refl)
stage_at (mode.Boot stage.ReplayOpen) p b f l d n s = inr (quiet (with_mode (mode.Boot stage.ReplayOpen) p) _ b stage.ReplayOpen _ (mode.Boot stage.ReplayOpen) true
    (ap (λ t. moded (mode.Boot stage.ReplayOpen) t (view_of p)) (begun p.domain.contexts _ l)) (length-set p.domain.contexts 16 _ ∙ l)
    (restage (view_of (with_mode (mode.Boot stage.ReplayOpen) p)) b (mode.Boot stage.ReplayOpen) true f refl f.registers tt f.booting (λ t. refl))
    (ap (λ t. record (watch_of (view_of (with_mode (mode.Boot stage.ReplayOpen) p)) b) { replay = replay_of t (mode.Boot stage.ReplayOpen) }) d) (λ n. refl) refl)
stage_at (mode.Recovering stage.ReplayOpen) p b f l d n s = inr (quiet (with_mode (mode.Recovering stage.ReplayOpen) p) _ b stage.ReplayOpen _ (mode.Recovering stage.ReplayOpen) true
    (ap (λ t. moded (mode.Recovering stage.ReplayOpen) t (view_of p)) (begun p.domain.contexts _ l)) (length-set p.domain.contexts 16 _ ∙ l)
    (restage (view_of (with_mode (mode.Recovering stage.ReplayOpen) p)) b (mode.Recovering stage.ReplayOpen) true f refl f.registers tt tt (λ t. refl))
    (ap (λ t. record (watch_of (view_of (with_mode (mode.Recovering stage.ReplayOpen) p)) b) { replay = replay_of t (mode.Recovering stage.ReplayOpen) }) d) (λ n. refl) refl)
stage_at (mode.Boot stage.Resume) p b f l d n s = inr (quiet (with_mode (mode.Boot stage.Resume) p) _ b stage.Resume _ mode.Running (is_driven p) refl l
    (restage (view_of (with_mode (mode.Boot stage.Resume) p)) b mode.Running (is_driven p) f refl (λ key. inl (f.registers key)) tt tt (λ t. absurd cc (d, t)))
    (no_replay (watch_of (view_of (with_mode (mode.Boot stage.Resume) p)) b) (is_driven p) (mode.Boot stage.Resume) mode.Running d) (λ n. refl) refl)
stage_at (mode.Recovering stage.Resume) p b f l d n s = inr (quiet (with_mode (mode.Recovering stage.Resume) p) _ b stage.Resume _ mode.Running (is_driven p) refl l
    (restage (view_of (with_mode (mode.Recovering stage.Resume) p)) b mode.Running (is_driven p) f refl (λ key. inl (f.registers key)) tt tt (λ t. absurd cc (d, t)))
    (no_replay (watch_of (view_of (with_mode (mode.Recovering stage.Resume) p)) b) (is_driven p) (mode.Recovering stage.Resume) mode.Running d) (λ n. refl) refl)

pub stage_ok : (p : PartState) (b : Past) → Facts (view_of p) b → length p.domain.contexts ≡ 17
    → is_driven p ≡ false → is_dead p.mode ≡ false → is_some (stage_due p.mode) ≡ true
    → Gone (stage_stepped p).state ⊎ StepKeeps p b (stage_stepped p)
stage_ok p b f l d n s = stage_at p.mode p b f l d n s
