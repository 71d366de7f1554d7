use Rattle.std.proofs.Common.{◌≡◌, ◌⊎◌, ℕ, zero, suc, ◌&&◌, not, eqb, Bool, true, false, Option, Some, None, is_some, List, [], ◌∷◌, ◌++◌, length, fold, slice_index, slice_index_or, ext_get_or, sym, refl, ap, subst, ◌∙◌, inl, inr, true≢false}
use Rattle.std.specs.List.{list_any}
use Rattle.std.proofs.lemmas.Bool.{cond-true, cond-false, and_parts, and_from, not-true, or_left, or_right}
use Rattle.nook_data.specs.declared.calls.Answer.{Answer}
use Rattle.nook_data.specs.declared.scenario.BadBlock.{BadBlock}
use Rattle.nook_data.specs.declared.verdicts.Break.{Break}
use Rattle.nook_data.specs.declared.calls.CallEntry.{CallEntry}
use Rattle.nook_data.specs.declared.classes.Class.{Class}
use Rattle.nook_data.specs.declared.classes.Class.TheVariants as class
use Rattle.nook_data.specs.declared.steps.Event.{Event}
use Rattle.nook_data.specs.declared.steps.Mode.{Mode}
use Rattle.nook_data.specs.declared.steps.Mode.TheVariants as mode
use Rattle.nook_data.specs.declared.calls.Op.{Op}
use Rattle.nook_data.specs.declared.scenario.PartSpec.{PartSpec}
use Rattle.nook_data.specs.declared.steps.Stage.TheVariants as stage
use Rattle.nook_data.specs.declared.steps.Step.{Step}
use Rattle.nook_data.specs.declared.steps.Step.TheVariants as step
use Rattle.promise_defs.specs.Blocks.{blank_blocks}
use Rattle.part_defs.specs.Calls.{after_invoke}
use Rattle.part_defs.proofs.PartCases.{invoked_by}
use Rattle.nook_data.specs.Classes.{defaults_of, is_set, same_class, static_check}
use Rattle.part_laws.specs.Watch.{sees, break_at, break_from, first_watch, watched_break}
use Rattle.machine_defs.specs.Devices.{opening_device}
use Rattle.part_defs.specs.Domain.{opening_domain, collected_domain}
use Rattle.promise_defs.specs.Ideal.{Ideal, IsClassRun, class_run, ran}
use Rattle.part_laws.specs.Allowed.{IsAllowed, licenses, licensed, licensed_from}
use Rattle.part_laws.specs.Counts.{Counts, count_event, no_counts, counted_losses}
use Rattle.part_defs.specs.Log.{opening_log, call_of_thread}
use Rattle.part_defs.specs.Runs.{IsRun, IsRunFrom, state_after, state_from, state_of, step_of}
use Rattle.part_defs.specs.Stages.{collects, stage_stepped, stage_due}
use Rattle.part_defs.specs.State.{PartState}
use Rattle.part_defs.specs.Steps.{opening, enabled, stepped, is_driven, is_running, is_ready, is_inside, after_arrival}
use Rattle.promise_defs.specs.Trace.{shown, trace, trace_from, tracks_after}
use Rattle.promise_defs.specs.Licence.{is_balanced}
use Rattle.part_laws.specs.Balance.{Balanced}
use Rattle.part_laws.specs.ActsOn.{dev_of}
use Rattle.part_laws.specs.Facts.{At, IsStored, IsSetting, KeyIn, Facts, is_dead, is_driving}
use Rattle.part_laws.specs.Recovery.{Gone, StepKeeps, HasFacts, ShowsDevice, Agrees, has_write, has_set_inside, is_write_call, is_set_inside}
use Rattle.part_laws.specs.Views.{View, Past, Core, cores, entry_of, keep_waiting, open_from, stage_of, view_of, watch_of, ideal_of, tracks_of}
use Rattle.part_laws.proofs.Arrivals.{arrive_ok}
use Rattle.part_laws.proofs.Balances.{balance_reported}
use Rattle.part_laws.proofs.Bursting.{burst_ok}
use Rattle.part_laws.proofs.Enters.{enter_ok}
use Rattle.part_laws.proofs.Invokes.{invoke_ok}
use Rattle.part_laws.proofs.Indices.{split, some_same}
use Rattle.part_laws.proofs.Stages.{stage_ok, with_mode}

-- Every step keeps the facts, and so does every run.

-- ---- the step theorem

pub step_keeps : (p : PartState) (b : Past) (s : Step) → Facts (view_of p) b → length p.domain.contexts ≡ 17 → is_dead p.mode ≡ false
    → enabled p s ≡ true → (sees (watch_of (view_of p) b) (stepped p s).event).clause ≡ None
    → Gone (stepped p s).state ⊎ StepKeeps p b (stepped p s)
unfolding enabled stepped
step_keeps p b (step.Invoke thread o) f l d e h = inr (invoke_ok p b thread o f l d e)
step_keeps p b (step.Enter thread) f l d e h = inr (enter_ok p b thread f l e)
step_keeps p b (step.Burst context) f l d e h = inr (burst_ok p b context f l e h)
step_keeps p b step.Stage f l d e h = stage_ok p b f l
    (not-true (is_driven p) (and_parts (is_some (stage_due p.mode)) _ e).1) d (and_parts (is_some (stage_due p.mode)) _ e).0
step_keeps p b (step.Arrive frame) f l d e h = inr (arrive_ok p b frame f l e)

-- ---- a part that was given up stays so

gone_runs : (m : Mode) → is_dead m ≡ true → is_running m ≡ true → ⊥
gone_runs (mode.Dead collected) d r = absurd cc
gone_runs (mode.Boot s) d r = absurd cc
gone_runs mode.Running d r = absurd cc
gone_runs (mode.Recovering s) d r = absurd cc

gone_invoke : (p : PartState) (t : ℕ) (o : Op) → Gone p → Gone (after_invoke t o p).state
unfolding after_invoke
gone_invoke p t o g = by_check (static_check p.spec.class p.spec.blocks o)
  where
    by_check : (r : Option Answer) → Gone (invoked_by p t o r).state
    by_check None = g
    by_check (Some a) = g

gone_arrive : (p : PartState) (frame : List ℕ) → Gone p → Gone (after_arrival frame p).state
unfolding after_arrival
gone_arrive p frame g = g

gone_stage : (m : Mode) (p : PartState) → is_dead m ≡ true → is_driven p ≡ false → is_some (stage_due m) ≡ true
    → Gone (stage_stepped (with_mode m p)).state
unfolding stage_stepped collects collected_domain
gone_stage (mode.Dead false) p d n s = (refl, n)
gone_stage (mode.Dead true) p d n s = absurd cc
gone_stage (mode.Boot s) p d n e = absurd cc
gone_stage mode.Running p d n s = absurd cc
gone_stage (mode.Recovering s) p d n e = absurd cc

pub gone_stays : (p : PartState) (s : Step) → Gone p → enabled p s ≡ true → Gone (stepped p s).state
unfolding enabled stepped
gone_stays p (step.Invoke thread o) g e = gone_invoke p thread o g
gone_stays p (step.Enter thread) g e = absurd (gone_runs p.mode g.0 (and_parts (is_running p.mode) (is_ready p (call_of_thread thread p.log.pending)) e).0)
gone_stays p (step.Burst context) g e = absurd (split (eqb context 16)
    (λ t. true≢false (sym (sym (cond-true (eqb context 16) (is_driven p) (is_running p.mode && is_inside (call_of_thread context p.log.pending)) t) ∙ e) ∙ g.1))
    (λ t. gone_runs p.mode g.0 (and_parts (is_running p.mode) (is_inside (call_of_thread context p.log.pending))
    (sym (cond-false (eqb context 16) (is_driven p) (is_running p.mode && is_inside (call_of_thread context p.log.pending)) t) ∙ e)).0))
gone_stays p step.Stage g e = gone_stage p.mode p g.0 g.1 (and_parts (is_some (stage_due p.mode)) (not (is_driven p)) e).0
gone_stays p (step.Arrive frame) g e = gone_arrive p frame g

-- ---- runs

unbroken : (o : Option ℕ) (number : ℕ) (later : Option Break) → break_at o number later ≡ None → (o ≡ None) × (later ≡ None)
unbroken None number later h = (refl, h)
unbroken (Some clause) number later h = absurd cc

-- a part that was given up drives nothing
undriven_dead : (m : Mode) → is_dead m ≡ true → (d : Bool) → (d ≡ true → is_driving (stage_of m) ≡ true) → d ≡ false
undriven_dead (mode.Dead collected) t true f = absurd cc (f refl)
undriven_dead m t false f = refl
undriven_dead (mode.Boot s) t true f = absurd cc
undriven_dead mode.Running t true f = absurd cc
undriven_dead (mode.Recovering s) t true f = absurd cc

-- what a run keeps
pub record RunKeeps (p : PartState) (b : Past) (events : List Event) : Type 0 where
  pub after : Past
  pub facts : Facts (view_of (state_from p events)) after
  pub shown : ran (ideal_of (view_of p) b) (trace_from (tracks_of b) events) ≡ Some (ideal_of (view_of (state_from p events)) after)
  pub licensed : licensed_from p (watch_of (view_of p) b) events ≡ true
  pub seen : fold sees (watch_of (view_of p) b) events ≡ watch_of (view_of (state_from p events)) after
  pub tracked : fold (λ ts e. tracks_after e ts) (tracks_of b) events ≡ tracks_of after
  pub counted : (n : Counts) → Balanced (view_of p) b n → Balanced (view_of (state_from p events)) after (fold count_event n events)

-- a run of a part that was given up ends so
gone_run : (events : List Event) (p : PartState) → Gone p → IsRunFrom p events → is_dead (state_from p events).mode ≡ true
unfolding IsRunFrom state_from
gone_run [] p g r = g.0
gone_run (e ∷ events) p g r = gone_run events (state_after p (step_of e)) (gone_stays p (step_of e) g r.0) r.2

joined : (p : PartState) (b : Past) (e : Event) (events : List Event) → (k : StepKeeps p b (stepped p (step_of e))) → (stepped p (step_of e)).event ≡ e
    → RunKeeps (stepped p (step_of e)).state k.after events → RunKeeps p b (e ∷ events)
unfolding state_from trace_from licensed_from
joined p b e events k same r = record {
  after = r.after;
  facts = r.facts;
  seen = ap (λ w. fold sees w events) watched ∙ r.seen;
  tracked = ap (λ ts. fold (λ ts e. tracks_after e ts) ts events) tracked ∙ r.tracked;
  counted = λ n x. r.counted (count_event n e) (subst (λ y. Balanced (view_of (stepped p (step_of e)).state) k.after (count_event n y)) same (k.counted n x));
  shown =
      ap (λ ts. ran (ideal_of (view_of p) b) (shown e ts ++ trace_from ts events)) tracked
      ∙ ap (λ x. ran (ideal_of (view_of p) b) (shown x (tracks_of k.after) ++ trace_from (tracks_of k.after) events)) (sym same)
      ∙ k.shown (trace_from (tracks_of k.after) events)
      ∙ r.shown;
  licensed = and_from (licenses p (sees (watch_of (view_of p) b) e) e) (licensed_from (stepped p (step_of e)).state (sees (watch_of (view_of p) b) e) events)
      (ap (λ w. licenses p w e) watched ∙ ap (licenses p (watch_of (view_of (stepped p (step_of e)).state) k.after)) (sym same) ∙ k.licensed)
      (ap (λ w. licensed_from (stepped p (step_of e)).state w events) watched ∙ r.licensed);
}
  where
    tracked : tracks_after e (tracks_of b) ≡ tracks_of k.after
    tracked = ap (λ x. tracks_after x (tracks_of b)) (sym same) ∙ k.tracked

    watched : sees (watch_of (view_of p) b) e ≡ watch_of (view_of (stepped p (step_of e)).state) k.after
    watched = ap (sees (watch_of (view_of p) b)) (sym same) ∙ k.seen

pub run_keeps : (events : List Event) (p : PartState) (b : Past) (number : ℕ) → Facts (view_of p) b → length p.domain.contexts ≡ 17 → is_dead p.mode ≡ false
    → IsRunFrom p events → break_from number (watch_of (view_of p) b) events ≡ None → is_dead (state_from p events).mode ≡ false → RunKeeps p b events
unfolding IsRunFrom state_from break_from ran trace_from licensed_from
run_keeps [] p b number f l d r h n = record { after = b; facts = f; shown = refl; licensed = refl; seen = refl; tracked = refl; counted = λ m x. x }
run_keeps (e ∷ events) p b number f l d r h n = by_step
    (step_keeps p b (step_of e) f l d r.0 (ap (λ x. (sees (watch_of (view_of p) b) x).clause) r.1 ∙ clauses.0))
    (λ b' g k i w. run_keeps events (stepped p (step_of e)).state b' (suc number) g k i r.2 w n)
  where
    clauses : ((sees (watch_of (view_of p) b) e).clause ≡ None) × (break_from (suc number) (sees (watch_of (view_of p) b) e) events ≡ None)
    clauses = unbroken (sees (watch_of (view_of p) b) e).clause number (break_from (suc number) (sees (watch_of (view_of p) b) e) events) h

    by_step : Gone (stepped p (step_of e)).state ⊎ StepKeeps p b (stepped p (step_of e))
        → ((b' : Past) → Facts (view_of (stepped p (step_of e)).state) b' → length (stepped p (step_of e)).state.domain.contexts ≡ 17
        → is_dead (stepped p (step_of e)).state.mode ≡ false → break_from (suc number) (watch_of (view_of (stepped p (step_of e)).state) b') events ≡ None
        → RunKeeps (stepped p (step_of e)).state b' events)
        → RunKeeps p b (e ∷ events)
    by_step (inl g) go = absurd (true≢false (sym (gone_run events (state_after p (step_of e)) g r.2) ∙ n))
    by_step (inr k) go = split (is_dead (stepped p (step_of e)).state.mode)
        (λ t. absurd (true≢false (sym (gone_run events (state_after p (step_of e)) (
          t,
          undriven_dead (stepped p (step_of e)).state.mode t
              (is_driven (stepped p (step_of e)).state) k.facts.driving,
        ) r.2) ∙ n)))
        (λ t. joined p b e events k r.1 (go k.after k.facts k.contexts t
        (subst (λ w. break_from (suc number) w events ≡ None) (ap (sees (watch_of (view_of p) b)) (sym r.1) ∙ k.seen) clauses.1)))

-- ---- the opening part

opening_dev : (c : Class) (blocks : ℕ) (bad : List BadBlock) (defaults : List ℕ)
    → dev_of (opening_device c blocks bad defaults)
    ≡ record { linked = same_class c class.Net; medium = blank_blocks c blocks; ring = []; registers = defaults }
unfolding opening_device
opening_dev class.Block blocks bad defaults = refl
opening_dev class.Net blocks bad defaults = refl
opening_dev class.Sound blocks bad defaults = refl

abbrev opening_view : PartSpec → View
opening_view spec = record {
  class = spec.class;
  size = spec.blocks;
  dev = record { linked = same_class spec.class class.Net; medium = blank_blocks spec.class spec.blocks; ring = []; registers = defaults_of spec.class };
  pending = [];
  count = 0;
  config = defaults_of spec.class;
  defaults = defaults_of spec.class;
  holder = None;
  queue = [];
  mode = mode.Boot stage.Load;
  driven = false;
}

abbrev opening_past : PartSpec → Past
opening_past spec = record { calls = []; blocks = blank_blocks spec.class spec.blocks; frames = []; handed = []; rest = [] }

opening_seen : (spec : PartSpec) → opening_view spec ≡ view_of (opening spec)
unfolding opening opening_domain opening_log
opening_seen spec = ap (λ d. record (opening_view spec) { dev = d }) (sym (opening_dev spec.class spec.blocks spec.bad (defaults_of spec.class)))

opening_facts : (spec : PartSpec) → Facts (opening_view spec) (opening_past spec)
opening_facts spec = record {
  linked = refl;
  width = refl;
  keys = refl;
  defaults = refl;
  pending = refl;
  count = refl;
  calls = record { each = λ k c h. absurd cc; alone = λ j k c d h. absurd cc; apart = λ j k c d h. absurd cc };
  disk = record { size = refl; blocks = λ n. inl refl; named = λ k c n h. absurd cc; covered = λ k c n h. absurd cc };
  holders = λ k c h. absurd cc;
  registers = λ key. refl;
  replay = tt;
  booting = refl;
  chain = refl;
  handed_up = λ m. absurd cc;
  insides = λ k c h. absurd cc;
  driving = λ d. absurd cc;
}

opening_room : (spec : PartSpec) → length (opening spec).domain.contexts ≡ 17
unfolding opening opening_domain
opening_room spec = refl

opening_alive : (spec : PartSpec) → is_dead (opening spec).mode ≡ false
unfolding opening
opening_alive spec = refl

-- ---- the recovery theorem

-- a run in which the fold breaks no clause and which does not end given up
pub record IsWatchedRun (spec : PartSpec) (journal : List Event) : Type 0 where
  pub run : IsRun spec journal
  pub contract : watched_break spec.class spec.blocks journal ≡ None
  pub alive : is_dead (state_of spec journal).mode ≡ false

pub recovered : (spec : PartSpec) (journal : List Event) → IsWatchedRun spec journal → RunKeeps (opening spec) (opening_past spec) journal
unfolding watched_break
recovered spec journal h = run_keeps journal (opening spec) (opening_past spec) 1
    (subst (λ v. Facts v (opening_past spec)) (opening_seen spec) (opening_facts spec)) (opening_room spec) (opening_alive spec) h.run
    (subst (λ v. break_from 1 (watch_of v (opening_past spec)) journal ≡ None) (opening_seen spec) h.contract) h.alive

pub has_facts : (spec : PartSpec) (journal : List Event) → IsWatchedRun spec journal → HasFacts spec journal
unfolding trace
has_facts spec journal h = record {
  past = (recovered spec journal h).after;
  facts = (recovered spec journal h).facts;
  seen = ap (λ v. fold sees (watch_of v (opening_past spec)) journal) (opening_seen spec) ∙ (recovered spec journal h).seen;
  tracked = (recovered spec journal h).tracked;
  shown = ap (λ v. ran (ideal_of v (opening_past spec)) (trace_from [] journal)) (opening_seen spec) ∙ (recovered spec journal h).shown;
}

pub sees_one_run : (spec : PartSpec) (journal : List Event) → IsWatchedRun spec journal → IsClassRun spec.class spec.blocks (trace journal)
unfolding class_run
sees_one_run spec journal h = ap is_some (has_facts spec journal h).shown

-- each answer is licensed; the balance of frames is another law
pub answers_licensed : (spec : PartSpec) (journal : List Event) → IsWatchedRun spec journal
    → licensed_from (opening spec) (first_watch spec.class spec.blocks) journal ≡ true
answers_licensed spec journal h =
    ap (λ v. licensed_from (opening spec) (watch_of v (opening_past spec)) journal) (opening_seen spec) ∙ (recovered spec journal h).licensed

-- frames are in balance
pub frames_balanced : (spec : PartSpec) (journal : List Event) → IsWatchedRun spec journal → is_balanced (counted_losses journal) ≡ true
unfolding counted_losses
frames_balanced spec journal h = balance_reported _ _ _ (fold count_event no_counts journal)
    ((recovered spec journal h).counted no_counts
    (subst (λ v. Balanced v (opening_past spec) no_counts) (opening_seen spec)
    (record { arrived = refl; kept = refl; taken = refl; driver = refl; flow = refl })))

pub losses_licensed : (spec : PartSpec) (journal : List Event) → IsWatchedRun spec journal → IsAllowed spec journal
unfolding licensed
losses_licensed spec journal h = and_from (licensed_from (opening spec) (first_watch spec.class spec.blocks) journal) (is_balanced (counted_losses journal))
    (answers_licensed spec journal h) (frames_balanced spec journal h)

-- ---- what the part shares with the device

open_any : (test : CallEntry → Bool) (n : ℕ) (cs : List Core) (k : ℕ) (c : Core) → At cs k c → c.waits ≡ true
    → ((m : ℕ) → test (entry_of m c) ≡ true) → list_any test (open_from n cs) ≡ true
open_any test n [] k c h w t = absurd cc
open_any test n (d ∷ cs) zero c h w t =
    ap (λ v. list_any test (keep_waiting v (entry_of n d) (open_from (suc n) cs))) (ap (λ x. x.waits) (some_same d c h) ∙ w)
    ∙ or_left (test (entry_of n d)) (list_any test (open_from (suc n) cs)) (ap (λ x. test (entry_of n x)) (some_same d c h) ∙ t n)
open_any test n (d ∷ cs) (suc k) c h w t = by_waits d.waits (open_any test (suc n) cs k c h w t)
  where
    by_waits : (v : Bool) → list_any test (open_from (suc n) cs) ≡ true → list_any test (keep_waiting v (entry_of n d) (open_from (suc n) cs)) ≡ true
    by_waits true e = or_right (test (entry_of n d)) (list_any test (open_from (suc n) cs)) e
    by_waits false e = e

facts_agree : (p : PartState) (b : Past) → Facts (view_of p) b → Agrees p (ideal_of (view_of p) b)
facts_agree p b f = record {
  config = refl;
  holder = refl;
  medium = λ w. ext_get_or [] (view_of p).dev.medium b.blocks f.disk.size (λ n l. by_block w n (f.disk.blocks n));
  registers = λ r s. ext_get_or 0 p.domain.device.registers p.log.config (f.width ∙ sym f.keys)
      (λ key l. by_key s key (subst (λ m. KeyIn (cores b) p.log.config p.log.defaults (is_driven p) m key (slice_index p.domain.device.registers key)) r (f.registers key)));
}
  where
    by_block : has_write p ≡ false → (n : ℕ) → (slice_index_or (view_of p).dev.medium n [] ≡ slice_index_or b.blocks n []) ⊎ IsStored (cores b) n (slice_index_or (view_of p).dev.medium n [])
        → slice_index_or (view_of p).dev.medium n [] ≡ slice_index_or b.blocks n []
    by_block w n (inl e) = e
    by_block w n (inr s) = absurd (true≢false (sym (ap (list_any is_write_call) f.pending
        ∙ open_any is_write_call 1 (cores b) s.index s.call s.at s.waits (λ m. s.writes)) ∙ w))

    by_key : has_set_inside p ≡ false → (key : ℕ) → (slice_index p.domain.device.registers key ≡ slice_index p.log.config key)
        ⊎ IsSetting (cores b) key (slice_index p.domain.device.registers key)
        → slice_index p.domain.device.registers key ≡ slice_index p.log.config key
    by_key w key (inl e) = e
    by_key w key (inr s) = absurd (true≢false (sym (ap (list_any is_set_inside) f.pending
        ∙ open_any is_set_inside 1 (cores b) s.index s.call s.at ((f.calls.each s.index s.call s.at).opened s.inside)
        (λ m. and_from s.call.inside (is_set s.call.op) s.inside (ap is_set s.sets))) ∙ w))

-- after the trace the part agrees with the never-failing device
pub agrees : (spec : PartSpec) (journal : List Event) (device : Ideal) → IsWatchedRun spec journal → ShowsDevice spec journal device
    → Agrees (state_of spec journal) device
agrees spec journal device h s = subst (λ d. Agrees (state_of spec journal) d)
    (one_device (ideal_of (view_of (state_of spec journal)) (has_facts spec journal h).past) device (sym (has_facts spec journal h).shown ∙ s))
    (facts_agree (state_of spec journal) (has_facts spec journal h).past (has_facts spec journal h).facts)
  where
    one_device : (x y : Ideal) → Some x ≡ Some y → x ≡ y
    one_device x y e = some_same x y e
