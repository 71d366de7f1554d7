use Rattle.std.proofs.Common.{◌≡◌, ◌⊎◌, ℕ, zero, suc, ◌&&◌, ◌||◌, not, eqb, Bool, true, false, Option, Some, None, List, [], ◌∷◌, ◌++◌, map, length, drop, slice_set, slice_index, sym, refl, ap, subst, ◌∙◌, inl, inr, arith, nat_lt, append_assoc, length-append, length-set, option_and_then, bytes_eq}
use Rattle.std.proofs.lemmas.Bool.{eqb-true, eq-eqb, and_parts, and_from, or_cases, lt-ltb}
use Rattle.nook_data.specs.declared.machine.Act.{Act}
use Rattle.nook_data.specs.declared.machine.Act.TheVariants as act
use Rattle.nook_data.specs.declared.calls.CallEntry.{CallEntry}
use Rattle.nook_data.specs.declared.classes.Class.TheVariants.{Net, Sound}
use Rattle.nook_data.specs.declared.steps.Mode.{Mode}
use Rattle.nook_data.specs.declared.steps.Mode.TheVariants as mode
use Rattle.nook_data.specs.declared.calls.Op.{Op}
use Rattle.nook_data.specs.declared.calls.Op.TheVariants.{Read, Write, Send, Recv, Open, Play, Close, Get, Set}
use Rattle.promise_defs.specs.Blocks.{words_for}
use Rattle.nook_data.specs.Classes.{is_set, is_recv, is_holder, is_next, is_play, is_write, covers, same_class, sends}
use Rattle.part_laws.specs.Watch.{Watched, sees_act, required, is_covered, is_agreed, is_own_frame, is_first_frame, is_next_of, is_playing, may_register, is_setting, sent_once, played_one, failed_at}
use Rattle.promise_defs.specs.Ideal.{Ideal, Opened, ran, shows, when, may_wire, play_of, may_sound}
use Rattle.promise_defs.proofs.PromiseCases.{plays_for}
use Rattle.promise_defs.proofs.PromiseChanges.{wired_once, played_once, store_track}
use Rattle.nook_data.specs.Numbered.{at_number, change_number, number_where}
use Rattle.promise_defs.specs.Trace.{Visible, wire, sample, tracks_after_act}
use Rattle.promise_defs.specs.Contract.{is_replay_of}
use Rattle.nook_data.specs.Frames.{is_empty}
use Rattle.part_laws.specs.Counts.{Counts, count_act}
use Rattle.part_laws.specs.Balance.{held_at, Balanced}
use Rattle.part_laws.specs.ActsOn.{act_on, Fits}
use Rattle.part_laws.specs.Facts.{At, CallFacts, CallsFacts, DiskFacts, IsSetting, KeyIn, HolderFits, Sub, Facts}
use Rattle.part_laws.specs.Moves.{store_core, with_core, send_call, play_call, fail_call}
use Rattle.part_laws.specs.Views.{View, Past, Core, Call, core_of, cores, entry_of, keep_waiting, open_from, stage_of, replay_of, as_watched, as_opened, as_track, watch_of, ideal_of, tracks_of}
use Rattle.part_laws.proofs.Acting.{with_dev, redev, reported_of, recalled, Active, running_inside, set_alone, store_less, store_disk, word_set, replay_key}
use Rattle.part_laws.proofs.Balances.{held_active, popped_balance}
use Rattle.part_laws.proofs.Keeping.{AllLess, calls_less, holders_less}
use Rattle.part_laws.proofs.OfClass.{of_class, plays_sound, sends_net}
use Rattle.part_laws.proofs.Indices.{some_same, same_at, get_map, from_map, map_join, map_swap, change_map, change_unseen, length_map}
use Rattle.part_laws.proofs.Watching.{required_met, required_same, FoundWhere, where_at, where_only, StoresAt, covered_at, agreed_at, SetsAt, setting_at}

-- The acts of a burst: the facts stay, and the never-failing device may show what the acts show.

-- the call that a burst serves is Inside; number 0 is the shadow's own
abbrev pub Serves : ℕ → CallEntry → Past → Type 0
Serves zero e b = Unit {0}
Serves (suc k) e b = (c : Call) × At b.calls k c × (c.core.inside ≡ true) × (e ≡ entry_of (suc k) c.core)

-- what an act shows, followed by the rest
abbrev pub act_shown : ℕ → Act → List Visible → List Visible
act_shown n (act.Sent frame) more = wire n frame ∷ more
act_shown n (act.Played word rate volume) more = sample word rate volume ∷ more
act_shown n a more = more

pub record ActOk (v : View) (b : Past) (n : ℕ) (e : CallEntry) (a : Act) : Type 0 where
  pub after : Past
  pub facts : Facts (with_dev (act_on a v.dev) v) after
  pub serves : Serves n e after
  pub seen : sees_act n a (watch_of v b) ≡ watch_of (with_dev (act_on a v.dev) v) after
  pub tracked : tracks_after_act (tracks_of b) a ≡ tracks_of after
  pub shown : (more : List Visible)
      → ran (ideal_of v b) (act_shown n a more) ≡ ran (ideal_of (with_dev (act_on a v.dev) v) after) more
  pub counted : (m : Counts) → Balanced v b m → Balanced (with_dev (act_on a v.dev) v) after (count_act n a m)

abbrev unbroken : Option ℕ
unbroken = None

-- ---- the never-failing device continues

pub ran_step : (m m' : Ideal) (s : Visible) (more : List Visible) → shows m s ≡ Some m' → ran m (s ∷ more) ≡ ran m' more
unfolding ran
ran_step m m' s more h = ap (option_and_then (λ after. ran after more)) h

pub when_true : (t : Bool) (m : Ideal) → t ≡ true → when t m ≡ Some m
when_true true m h = refl
when_true false m h = absurd cc

-- ---- a change that does not concern the facts

serves_reported : (n : ℕ) (e : CallEntry) (b : Past) (calls' : List Call) → map reported_of calls' ≡ map reported_of b.calls
    → Serves n e b → Serves n e (record b { calls = calls' })
serves_reported zero e b calls' s h = tt
serves_reported (suc k) e b calls' s (c, h, i, x) = moved (from_map reported_of calls' k (reported_of c) (subst (λ l. At l k (reported_of c)) (sym s) (get_map reported_of b.calls k c h)))
  where
    moved : (d : Call) × At calls' k d × (reported_of c ≡ reported_of d) → Serves (suc k) e (record b { calls = calls' })
    moved (d, g, t) = (d, g, ap (λ (p : Core × Bool). p.0.inside) (sym t) ∙ i, x ∙ ap (λ (p : Core × Bool). entry_of (suc k) p.0) t)

reported_same : (b : Past) (calls' : List Call) → map reported_of calls' ≡ map reported_of b.calls → tracks_of b ≡ tracks_of (record b { calls = calls' })
reported_same b calls' s = ap (map as_track)
    (sym (map_join (λ (p : Core × Bool). p.0) reported_of core_of (λ c. refl) b.calls) ∙ ap (map (λ (p : Core × Bool). p.0)) (sym s)
    ∙ map_join (λ (p : Core × Bool). p.0) reported_of core_of (λ c. refl) calls')

-- ---- a command that failed

pub failed_ok : (v : View) (b : Past) (n : ℕ) (e : CallEntry) (block : ℕ) (store : Bool) → Facts v b → Serves n e b → ActOk v b n e (act.Failed block store)
failed_ok v b n e block store f s = record {
  after = record b { calls = calls };
  facts = recalled v b calls same f;
  serves = serves_reported n e b calls same s;
  seen = ap (λ cs. record (watch_of v b) { calls = cs }) (sym (change_map as_watched (fail_call block) (failed_at block) (λ c. refl) n b.calls));
  counted = λ m x. x;
  tracked = reported_same b calls same;
  shown = λ more. ap (λ os. ran (record (ideal_of v b) { opened = os }) more) (sym (change_unseen as_opened (fail_call block) (λ c. refl) n b.calls));
}
  where
    calls : List Call
    calls = change_number (fail_call block) n b.calls

    same : map reported_of (change_number (fail_call block) n b.calls) ≡ map reported_of b.calls
    same = change_unseen reported_of (fail_call block) (λ c. refl) n b.calls

-- ---- a frame sent

opened_sent : (c : Call) → as_opened (send_call c) ≡ wired_once (as_opened c)
opened_sent c = ap (λ t. record (as_opened c) { wired = t }) (lt-ltb 0 (suc c.sent) (omega arith))

pub sent_ok : (v : View) (b : Past) (n : ℕ) (e : CallEntry) (frame : List ℕ) → Facts v b → Serves n e b
    → (sees_act n (act.Sent frame) (watch_of v b)).clause ≡ None → ActOk v b n e (act.Sent frame)
sent_ok v b zero e frame f s h = absurd cc (required_met false 5 (required true 6 None) h).0
sent_ok v b (suc k) e frame f (c, g, i, x) h = record {
  after = record b { calls = calls };
  facts = recalled v b calls same f;
  serves = serves_reported (suc k) e b calls same (c, g, i, x);
  seen =
      ap (λ cs. record (watch_of v b) { calls = cs; clause = required own 5 (required first 6 None) })
      (sym (change_map as_watched send_call sent_once (λ d. refl) (suc k) b.calls))
      ∙ ap (λ t. record (watch_of v b) { calls = map as_watched calls; clause = t })
      (required_same own 5 (required first 6 None) met.0 ∙ required_same first 6 None later.0);
  counted = λ m x. x;
  tracked = reported_same b calls same;
  shown = λ more. ran_step (ideal_of v b) (ideal_of v (record b { calls = calls })) (wire (suc k) frame) more
      (ap (option_and_then (λ o. when (same_class v.class Net && may_wire frame o) next)) (get_map as_opened b.calls k c g)
      ∙ when_true (same_class v.class Net && may_wire frame (as_opened c)) next
      (and_from (same_class v.class Net) (may_wire frame (as_opened c))
      (sends_net v.class frame c.core.op sent (of_class v.class v.size c.core.op (facts.checked waits)))
      (and_from (c.core.waits && not (nat_lt 0 c.sent)) (sends frame c.core.op)
      (and_from c.core.waits (not (nat_lt 0 c.sent)) waits (ap not (ap (nat_lt 0) none_sent))) sent))
      ∙ ap (λ os. Some (record (ideal_of v b) { opened = os })) (sym (change_map as_opened send_call wired_once opened_sent (suc k) b.calls)));
}
  where
    calls : List Call
    calls = change_number send_call (suc k) b.calls

    same : map reported_of (change_number send_call (suc k) b.calls) ≡ map reported_of b.calls
    same = change_unseen reported_of send_call (λ c. refl) (suc k) b.calls

    own : Bool
    own = is_own_frame frame (at_number (suc k) (map as_watched b.calls))

    first : Bool
    first = is_first_frame (at_number (suc k) (map as_watched b.calls))

    met : (own ≡ true) × (required first 6 None ≡ None)
    met = required_met own 5 (required first 6 None) h

    later : (first ≡ true) × (unbroken ≡ None)
    later = required_met first 6 None met.1

    next : Ideal
    next = record (ideal_of v b) { opened = change_number wired_once (suc k) (map as_opened b.calls) }

    facts : CallFacts v.class v.size c.core
    facts = f.calls.each k c.core (get_map core_of b.calls k c g)

    waits : c.core.waits ≡ true
    waits = facts.opened i

    sent : sends frame c.core.op ≡ true
    sent = sym (ap (is_own_frame frame) (get_map as_watched b.calls k c g)) ∙ met.0

    none_sent : c.sent ≡ 0
    none_sent = eqb-true c.sent 0 (sym (ap is_first_frame (get_map as_watched b.calls k c g)) ∙ later.0)

-- ---- a frame popped

pub popped_ok : (v : View) (b : Past) (n : ℕ) (e : CallEntry) (frame : List ℕ) → Facts v b → Active v → Serves n e b
    → Fits (act.Popped frame) v.dev → ActOk v b n e (act.Popped frame)
popped_ok v b n e frame f u s (ring, h) = record {
  after = record b { rest = b.rest ++ frame ∷ [] };
  facts = record {
    linked = f.linked;
    width = f.width;
    keys = f.keys;
    defaults = f.defaults;
    pending = f.pending;
    count = f.count;
    calls = f.calls;
    disk = f.disk;
    holders = f.holders;
    registers = f.registers;
    replay = f.replay;
    booting = f.booting;
    chain = subst (λ l. Sub (v.queue ++ l) b.frames) moved f.chain;
    handed_up = f.handed_up;
    insides = f.insides;
    driving = f.driving;
  };
  serves = serves n s;
  seen = ap (λ l. record (watch_of v b) { ring = drop 1 v.dev.ring; popped = l }) (append_assoc b.handed b.rest (frame ∷ []));
  counted = λ m x. popped_balance (length v.dev.ring) (length (drop 1 v.dev.ring)) (length v.queue) (held_at (stage_of v.mode) b.rest)
      (held_at (stage_of v.mode) (b.rest ++ frame ∷ [])) m (ap length h ∙ ap suc (sym (ap (λ l. length (drop 1 l)) h)))
      (omega (arith, length-append b.rest (frame ∷ []), held_active v.mode v.driven f.driving u b.rest, held_active v.mode v.driven f.driving u (b.rest ++ frame ∷ []))) x;
  tracked = refl;
  shown = λ more. refl;
}
  where
    serves : (n : ℕ) → Serves n e b → Serves n e (record b { rest = b.rest ++ frame ∷ [] })
    serves zero s = tt
    serves (suc k) s = s

    moved : b.rest ++ v.dev.ring ≡ (b.rest ++ frame ∷ []) ++ drop 1 v.dev.ring
    moved = ap (λ l. b.rest ++ l) (h ∙ ap (λ l. frame ∷ l) (sym (ap (drop 1) h))) ∙ sym (append_assoc b.rest (frame ∷ []) (drop 1 v.dev.ring))

-- ---- a store

open_store : (n k : ℕ) (cs : List Core) → open_from k cs ≡ open_from k (map (store_core n) cs)
open_store n k [] = refl
open_store n k (c ∷ cs) = ap (keep_waiting c.waits (entry_of k c)) (open_store n (suc k) cs)

-- what holds of a register if the Sets that are Inside stay
pub key_forward : (cs ds : List Core) (config defaults : List ℕ) (driven : Bool) (m : Mode) (key value : ℕ)
    → (IsSetting cs key value → IsSetting ds key value) → KeyIn cs config defaults driven m key value → KeyIn ds config defaults driven m key value
key_forward cs ds config defaults driven (mode.Boot s) key value g h = h
key_forward cs ds config defaults driven mode.Running key value g (inl h) = inl h
key_forward cs ds config defaults driven mode.Running key value g (inr h) = inr (g h)
key_forward cs ds config defaults driven (mode.Recovering s) key value g h = h
key_forward cs ds config defaults driven (mode.Dead collected) key value g h = h

store_setting : (n : ℕ) (cs : List Core) (key value : ℕ) → IsSetting cs key value → IsSetting (map (store_core n) cs) key value
store_setting n cs key value s = record
    { index = s.index; call = store_core n s.call; at = get_map (store_core n) cs s.index s.call s.at; inside = s.inside; sets = s.sets }

pub stored_ok : (v : View) (b : Past) (n : ℕ) (e : CallEntry) (block : ℕ) (words : List ℕ) → Facts v b → Serves n e b
    → Fits (act.Store block words) v.dev → (sees_act n (act.Store block words) (watch_of v b)).clause ≡ None
    → ActOk v b n e (act.Store block words)
stored_ok v b n e block words f s fit h = with_store (covered_at block (map as_watched b.calls) met.0)
  where
    covered : Bool
    covered = is_covered block (map as_watched b.calls)

    agreed : Bool
    agreed = is_agreed block words (map as_watched b.calls)

    met : (covered ≡ true) × (required agreed 2 None ≡ None)
    met = required_met covered 1 (required agreed 2 None) h

    later : (agreed ≡ true) × (unbroken ≡ None)
    later = required_met agreed 2 None met.1

    calls : List Call
    calls = map (with_core (store_core block)) b.calls

    new : List Core
    new = map (store_core block) (cores b)

    same : map core_of (map (with_core (store_core block)) b.calls) ≡ map (store_core block) (cores b)
    same = map_swap core_of (with_core (store_core block)) (store_core block) core_of (λ c. refl) b.calls

    less : AllLess (cores b) (map (store_core block) (cores b))
    less = store_less block (cores b) (λ k c g. (f.calls.each k c g).opened)

    serves : (n : ℕ) → Serves n e b → Serves n e (record b { calls = map (with_core (store_core block)) b.calls })
    serves zero s = tt
    serves (suc k) (c, g, i, x) = (with_core (store_core block) c, get_map (with_core (store_core block)) b.calls k c g, i, x)

    handed : v.mode ≡ mode.Running → (k : ℕ) (c : Call) → c.core.inside ≡ true → is_recv c.core.op ≡ true → c.handed ≡ true
        → (d : Call) × At b.calls k d × (c ≡ with_core (store_core block) d) → is_empty v.queue ≡ false
    handed m k c i r u (d, g, x) = f.handed_up m k d g
        (ap (λ y. y.core.inside) (sym x) ∙ i) (ap (λ y. is_recv y.core.op) (sym x) ∙ r) (ap (λ y. y.handed) (sym x) ∙ u)

    with_call : (p : StoresAt block (map as_watched b.calls)) → (c : Call) × At b.calls p.index c × (p.call ≡ as_watched c)
        → Facts (with_dev (act_on (act.Store block words) v.dev) v) (record b { calls = map (with_core (store_core block)) b.calls })
    with_call p (c, g, x) = record {
      linked = f.linked;
      width = f.width;
      keys = f.keys;
      defaults = f.defaults;
      pending = f.pending ∙ open_store block 1 (cores b) ∙ ap (open_from 1) (sym same);
      count = f.count ∙ sym (length_map (with_core (store_core block)) b.calls);
      calls = subst (λ cs. CallsFacts v.class v.size cs) (sym same) (calls_less v.class v.size (cores b) new f.calls less);
      disk = subst (λ cs. DiskFacts cs b.blocks (slice_set v.dev.medium block words)) (sym same)
          (store_disk v.class v.size (cores b) b.blocks v.dev.medium block words f.calls f.disk fit p.index c.core
          (get_map core_of b.calls p.index c g) (ap (λ w. w.inside) (sym x) ∙ p.inside) (ap (λ w. is_write w.op) (sym x) ∙ p.writes)
          (ap (λ w. covers w.op block) (sym x) ∙ p.covered)
          (agreed_at block words (map as_watched b.calls) later.0 p.index p.call p.at p.inside p.writes p.covered ∙ ap (λ w. words_for w.op block) x));
      holders = λ k d j. holders_less v.holder (cores b) new less f.holders k d (subst (λ cs. At cs k d) same j);
      registers = λ key. subst (λ cs. KeyIn cs v.config v.defaults v.driven v.mode key (slice_index v.dev.registers key)) (sym same)
          (key_forward (cores b) new v.config v.defaults v.driven v.mode key (slice_index v.dev.registers key)
          (store_setting block (cores b) key (slice_index v.dev.registers key)) (f.registers key));
      replay = f.replay;
      booting = f.booting;
      chain = f.chain;
      handed_up = λ m k d j i r u. handed m k d i r u (from_map (with_core (store_core block)) b.calls k d j);
      insides = λ k d j i. f.insides k (less k d (subst (λ cs. At cs k d) same j)).0 (less k d (subst (λ cs. At cs k d) same j)).1
          ((less k d (subst (λ cs. At cs k d) same j)).2.inside i);
      driving = f.driving;
    }

    with_store : StoresAt block (map as_watched b.calls) → ActOk v b n e (act.Store block words)
    with_store p = record {
      counted = λ m x. x;
      after = record b { calls = calls };
      facts = with_call p (from_map as_watched b.calls p.index p.call p.at);
      serves = serves n s;
      seen =
          ap (λ t. record (watch_of v b) { medium = slice_set v.dev.medium block words; clause = t })
          (required_same covered 1 (required agreed 2 None) met.0 ∙ required_same agreed 2 None later.0)
          ∙ ap (λ cs. record (watch_of v b) { medium = slice_set v.dev.medium block words; calls = cs })
          (sym (map_join as_watched (with_core (store_core block)) as_watched (λ c. refl) b.calls));
      tracked = map_swap (store_track block) as_track as_track (store_core block) (λ c. refl) (cores b) ∙ ap (map as_track) (sym same);
      shown = λ more. ap (λ os. ran (record (ideal_of v b) { opened = os }) more)
          (sym (map_join as_opened (with_core (store_core block)) as_opened (λ c. refl) b.calls));
    }

-- ---- a register

pub register_ok : (v : View) (b : Past) (n : ℕ) (e : CallEntry) (key value : ℕ) → Facts v b → Active v → Serves n e b
    → (sees_act n (act.Register key value) (watch_of v b)).clause ≡ None → ActOk v b n e (act.Register key value)
register_ok v b n e key value f a s h = record {
  counted = λ m x. x;
  after = b;
  facts = redev v b (act_on (act.Register key value) v.dev) f refl (length-set v.dev.registers key value) f.disk (λ k. by_key k (word_set v.dev.registers key k value)) f.chain;
  serves = s;
  seen = ap (λ t. record (watch_of v b) { registers = slice_set v.dev.registers key value; clause = t }) (required_same may 12 None met.0);
  tracked = refl;
  shown = λ more. refl;
}
  where
    has : Bool
    has = eqb (slice_index v.dev.registers key) value

    setting : Bool
    setting = is_setting key value (map as_watched b.calls)

    replaying : Bool
    replaying = is_replay_of key value (replay_of v.driven v.mode)

    may : Bool
    may = may_register key value (watch_of v b)

    met : (may ≡ true) × (unbroken ≡ None)
    met = required_met may 12 None h

    with_set : SetsAt key value (map as_watched b.calls) → KeyIn (cores b) v.config v.defaults v.driven v.mode key value
    with_set p = with_call (from_map as_watched b.calls p.index p.call p.at)
      where
        with_call : (c : Call) × At b.calls p.index c × (p.call ≡ as_watched c) → KeyIn (cores b) v.config v.defaults v.driven v.mode key value
        with_call (c, g, x) = subst (λ m. KeyIn (cores b) v.config v.defaults v.driven m key value)
            (sym (running_inside v b f a p.index c.core (get_map core_of b.calls p.index c g) inside))
            (inr (record { index = p.index; call = c.core; at = get_map core_of b.calls p.index c g; inside = inside; sets = ap (λ w. w.op) (sym x) ∙ p.sets }))
          where
            inside : c.core.inside ≡ true
            inside = ap (λ w. w.inside) (sym x) ∙ p.inside

    new : KeyIn (cores b) v.config v.defaults v.driven v.mode key value
    new = by_case (or_cases (has || setting) replaying met.0)
      where
        first : (has ≡ true) ⊎ (setting ≡ true) → KeyIn (cores b) v.config v.defaults v.driven v.mode key value
        first (inl t) = subst (λ w. KeyIn (cores b) v.config v.defaults v.driven v.mode key w) (eqb-true (slice_index v.dev.registers key) value t) (f.registers key)
        first (inr t) = with_set (setting_at key value (map as_watched b.calls) t)

        by_case : ((has || setting) ≡ true) ⊎ (replaying ≡ true) → KeyIn (cores b) v.config v.defaults v.driven v.mode key value
        by_case (inl t) = first (or_cases has setting t)
        by_case (inr t) = replay_key (cores b) v.config v.defaults v.driven v.mode key value t

    by_key : (k : ℕ) → (slice_index (slice_set v.dev.registers key value) k ≡ slice_index v.dev.registers k)
        ⊎ ((k ≡ key) × (slice_index (slice_set v.dev.registers key value) k ≡ value))
        → KeyIn (cores b) v.config v.defaults v.driven v.mode k (slice_index (slice_set v.dev.registers key value) k)
    by_key k (inl t) = subst (λ w. KeyIn (cores b) v.config v.defaults v.driven v.mode k w) (sym t) (f.registers k)
    by_key k (inr t) = subst (λ w. KeyIn (cores b) v.config v.defaults v.driven v.mode k w) (sym t.1)
        (subst (λ j. KeyIn (cores b) v.config v.defaults v.driven v.mode j value) (sym t.0) new)

-- ---- a sample played

play_holder : (holder : Option ℕ) (t : ℕ) (o : Op) → is_play o ≡ true → HolderFits holder t o → holder ≡ Some t
play_holder holder t (Play samples) p h = h
play_holder holder t (Read first count) p h = absurd cc
play_holder holder t (Write first words) p h = absurd cc
play_holder holder t (Send frame) p h = absurd cc
play_holder holder t Recv p h = absurd cc
play_holder holder t Open p h = absurd cc
play_holder holder t Close p h = absurd cc
play_holder holder t (Get k) p h = absurd cc
play_holder holder t (Set k v) p h = absurd cc

pub holder_is : (holder : Option ℕ) (t : ℕ) → holder ≡ Some t → is_holder holder t ≡ true
holder_is None t h = absurd cc
holder_is (Some u) t h = eq-eqb u t (some_same u t h)

pub is_the_holder : (holder : Option ℕ) (t : ℕ) → is_holder holder t ≡ true → holder ≡ Some t
is_the_holder None t h = absurd cc
is_the_holder (Some u) t h = ap Some (eqb-true u t h)

-- in Running a register is the record, if a call other than a Set is Inside
register_is : (v : View) (b : Past) → Facts v b → v.mode ≡ mode.Running → (k : ℕ) (c : Core) → At (cores b) k c → c.inside ≡ true
    → is_play c.op ≡ true → (key : ℕ) → slice_index v.dev.registers key ≡ slice_index v.config key
register_is v b f r k c h i p key = by_fact (subst (λ m. KeyIn (cores b) v.config v.defaults v.driven m key (slice_index v.dev.registers key)) r (f.registers key))
  where
    no_set : (o : Op) → is_play o ≡ true → is_set o ≡ true → ⊥
    no_set (Play samples) p s = absurd cc
    no_set (Set k v) p s = absurd cc
    no_set (Read first count) p s = absurd cc
    no_set (Write first words) p s = absurd cc
    no_set (Send frame) p s = absurd cc
    no_set Recv p s = absurd cc
    no_set Open p s = absurd cc
    no_set Close p s = absurd cc
    no_set (Get k) p s = absurd cc

    by_fact : (slice_index v.dev.registers key ≡ slice_index v.config key) ⊎ IsSetting (cores b) key (slice_index v.dev.registers key)
        → slice_index v.dev.registers key ≡ slice_index v.config key
    by_fact (inl e) = e
    by_fact (inr s) = absurd (set_alone v b f s.index k s.call c s.at h s.inside i (ap is_set s.sets)
        (λ e. no_set c.op p (ap (λ x. is_set x.op) (sym (same_at (cores b) k s.call c (subst (λ q. At (cores b) q s.call) e s.at) h)) ∙ ap is_set s.sets)))

pub played_ok : (v : View) (b : Past) (n : ℕ) (e : CallEntry) (word rate volume : ℕ) → Facts v b → Active v → Serves n e b
    → Fits (act.Played word rate volume) v.dev → (sees_act n (act.Played word rate volume) (watch_of v b)).clause ≡ None
    → ActOk v b n e (act.Played word rate volume)
played_ok v b n e word rate volume f a s fit h = by_item (at_number number watched) refl met.0
  where
    watched : List Watched
    watched = map as_watched b.calls

    number : ℕ
    number = number_where is_playing (map as_watched b.calls)

    next : Bool
    next = is_next_of word (at_number number watched)

    met : (next ≡ true) × (unbroken ≡ None)
    met = required_met next 10 None h

    calls : List Call
    calls = change_number play_call number b.calls

    same : map reported_of (change_number play_call number b.calls) ≡ map reported_of b.calls
    same = change_unseen reported_of play_call (λ c. refl) number b.calls

    -- the never-failing device, with one more sample played for the call with a number
    next_play : ℕ → Ideal
    next_play m = record (ideal_of v b) { opened = change_number played_once m (map as_opened b.calls) }

    sounds : ℕ → Opened → Option Ideal
    sounds m o = when (same_class v.class Sound && may_sound word rate volume (ideal_of v b) o) (next_play m)

    with_call : (w : Watched) → is_next_of word (Some w) ≡ true → (p : FoundWhere is_playing watched w)
        → (c : Call) × At b.calls p.index c × (w ≡ as_watched c) → ActOk v b n e (act.Played word rate volume)
    with_call w t p (c, g, x) = record {
      after = record b { calls = calls };
      facts = recalled v b calls same f;
      serves = serves_reported n e b calls same s;
      seen =
          ap (λ cs. record (watch_of v b) { calls = cs; clause = required next 10 None })
          (sym (change_map as_watched play_call played_one (λ d. refl) number b.calls))
          ∙ ap (λ t. record (watch_of v b) { calls = map as_watched calls; clause = t }) (required_same next 10 None met.0);
      counted = λ m x. x;
      tracked = reported_same b calls same;
      shown = λ more. ran_step (ideal_of v b) (ideal_of v (record b { calls = calls })) (sample word rate volume) more
          (ap (λ m. option_and_then (sounds m) (at_number m (map as_opened b.calls))) plays
          ∙ ap (option_and_then (sounds (suc p.index))) (get_map as_opened b.calls p.index c g)
          ∙ when_true (same_class v.class Sound && may_sound word rate volume (ideal_of v b) (as_opened c)) (next_play (suc p.index))
          (and_from (same_class v.class Sound) (may_sound word rate volume (ideal_of v b) (as_opened c))
          (plays_sound v.class c.core.op passes.1 (of_class v.class v.size c.core.op ((f.calls.each p.index c.core at).checked waits)))
          (and_from (is_next c.core.op c.played word && eqb (slice_index v.config 0) rate)
          (eqb (slice_index v.config 1) volume)
          (and_from (is_next c.core.op c.played word) (eqb (slice_index v.config 0) rate)
          (ap (λ y. is_next y.op y.played word) (sym x) ∙ t)
          (eq-eqb (slice_index v.config 0) rate (sym (register 0) ∙ fit.0)))
          (eq-eqb (slice_index v.config 1) volume (sym (register 1) ∙ fit.1))))
          ∙ ap (λ m. Some (next_play m)) (sym p.number)
          ∙ ap (λ os. Some (record (ideal_of v b) { opened = os })) (sym (change_map as_opened play_call played_once (λ d. refl) number b.calls)));
    }
      where
        passes : (c.core.inside ≡ true) × (is_play c.core.op ≡ true)
        passes = and_parts c.core.inside (is_play c.core.op) (ap is_playing (sym x) ∙ p.passes)

        at : At (cores b) p.index c.core
        at = get_map core_of b.calls p.index c g

        running : v.mode ≡ mode.Running
        running = running_inside v b f a p.index c.core at passes.0

        register : (key : ℕ) → slice_index v.dev.registers key ≡ slice_index v.config key
        register = register_is v b f running p.index c.core at passes.0 passes.1

        holder : v.holder ≡ Some c.core.thread
        holder = play_holder v.holder c.core.thread c.core.op passes.1 (f.holders p.index c.core at passes.0)

        waits : c.core.waits ≡ true
        waits = (f.calls.each p.index c.core at).opened passes.0

        only : (j : ℕ) (y : Opened) → At (map as_opened b.calls) j y → plays_for v.holder y ≡ true → j ≡ p.index
        only j y hy ty = by_call (from_map as_opened b.calls j y hy)
          where
            by_call : (d : Call) × At b.calls j d × (y ≡ as_opened d) → j ≡ p.index
            by_call (d, gd, ed) = f.calls.alone j p.index d.core c.core (get_map core_of b.calls j d gd) at
                (and_parts d.core.waits (is_play d.core.op) parts.0).0 waits
                (some_same d.core.thread c.core.thread (sym (is_the_holder v.holder d.core.thread parts.1) ∙ holder))
              where
                parts : ((d.core.waits && is_play d.core.op) ≡ true) × (is_holder v.holder d.core.thread ≡ true)
                parts = and_parts (d.core.waits && is_play d.core.op) (is_holder v.holder d.core.thread) (ap (plays_for v.holder) (sym ed) ∙ ty)

        plays : play_of (ideal_of v b) ≡ suc p.index
        plays = where_only (plays_for v.holder) (map as_opened b.calls) p.index (as_opened c) (get_map as_opened b.calls p.index c g)
            (and_from (c.core.waits && is_play c.core.op) (is_holder v.holder c.core.thread)
            (and_from c.core.waits (is_play c.core.op) waits passes.1) (holder_is v.holder c.core.thread holder))
            only

    by_item : (o : Option Watched) → at_number number watched ≡ o → is_next_of word o ≡ true → ActOk v b n e (act.Played word rate volume)
    by_item None q t = absurd cc
    by_item (Some w) q t = with_found (where_at is_playing watched w q)
      where
        with_found : FoundWhere is_playing watched w → ActOk v b n e (act.Played word rate volume)
        with_found p = with_call w t p (from_map as_watched b.calls p.index w p.at)
