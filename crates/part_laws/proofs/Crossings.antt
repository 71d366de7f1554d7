use Rattle.std.proofs.Common.{◌≡◌, ◌<◌, ◌≤◌, ◌⊎◌, ℕ, zero, suc, ◌+◌, ◌-◌, cond, eqb, Bool, true, false, Option, Some, None, List, [], ◌∷◌, ◌++◌, map, length, set, slice_index, sym, refl, ap, subst, ◌∙◌, inl, inr, arith, nat_lt, append_assoc, if◌then◌else◌}
use Rattle.std.proofs.lemmas.Bool.{eqb-true, cond-true, cond-false, ltb-false, cases_lt, cases_eq}
use Rattle.std.proofs.lemmas.List.{get_or_past}
use Rattle.nook_data.specs.declared.calls.Answer.{Answer}
use Rattle.nook_data.specs.declared.steps.End.{End}
use Rattle.nook_data.specs.declared.steps.End.TheVariants as ends
use Rattle.nook_data.specs.declared.steps.FailCause.{FailCause}
use Rattle.nook_data.specs.declared.steps.Mode.{Mode}
use Rattle.nook_data.specs.declared.steps.Mode.TheVariants as mode
use Rattle.nook_data.specs.declared.steps.Stage.{Stage}
use Rattle.nook_data.specs.declared.steps.Stage.TheVariants as stage
use Rattle.part_laws.specs.Watch.{sees_crossing, sees_service, sees_reply, required, hands_up, handed_one, leaves, owes_found}
use Rattle.part_defs.specs.Crossing.{next_mode}
use Rattle.promise_defs.specs.Ideal.{ran}
use Rattle.promise_defs.proofs.PromiseChanges.{stops_waiting}
use Rattle.part_laws.specs.Allowed.{allows_option}
use Rattle.part_defs.specs.Log.{next_replay, replay_after, queue_after}
use Rattle.part_defs.proofs.PartCases.{config_after, holder_after, replay_stream}
use Rattle.nook_data.specs.Numbered.{at_number, change_number}
use Rattle.part_defs.specs.State.{PartState}
use Rattle.promise_defs.specs.Trace.{Visible, shown_option, kept_blocks, answer}
use Rattle.promise_defs.specs.Losses.{handed_result}
use Rattle.promise_defs.specs.Contract.{is_front, is_replayed}
use Rattle.nook_data.specs.Frames.{is_empty}
use Rattle.part_laws.specs.Counts.{Counts, count_option, count_handed}
use Rattle.part_laws.specs.Balance.{frame_counts, held_at, Balance, Balanced}
use Rattle.part_laws.specs.Facts.{At, CallsFacts, DiskFacts, KeyAt, KeyIn, ReplayFits, BootFits, Sub, may_be_inside, is_driving, Facts}
use Rattle.part_laws.specs.Moves.{hand_call, close_core}
use Rattle.part_laws.specs.Views.{View, Past, Core, Call, core_of, cores, open_from, stage_of, replay_of, as_watched, as_opened, as_track, watch_of, ideal_of, tracks_of}
use Rattle.part_laws.proofs.Accepts.{closed_call, Replies, Accepted, core_at, call_facts, checks}
use Rattle.part_laws.proofs.Balances.{handed_balance, room_balance, answered_balance}
use Rattle.part_laws.proofs.Closing.{closed_facts, closed_view, answer_shown}
use Rattle.part_laws.proofs.Indices.{split, get_map, get_set_same, map_set, set_get, change_at, change_map, change_unseen, length_map}
use Rattle.part_laws.proofs.Subs.{sub_mid, prefix_next}
use Rattle.part_laws.proofs.Watching.{required_met}

-- The crossing of a burst, as the monitor and the never-failing device see it.

pub record CrossOk (v : View) (b : Past) (n : ℕ) (e : End) (a : Option Answer) (failure : Option FailCause) (v' : View) : Type 0 where
  pub after : Past
  pub facts : Facts v' after
  pub seen : sees_crossing n e a failure (watch_of v b) ≡ watch_of v' after
  pub tracked : tracks_of b ≡ tracks_of after
  pub shown : (more : List Visible)
      → ran (ideal_of v b) (shown_option n a (tracks_of b) ++ more) ≡ ran (ideal_of v' after) more
  pub allowed : allows_option None v.queue (watch_of v' after) n a ≡ true
  pub counted : (m : Counts) → Balanced v b m → Balanced v' after (count_option n a (count_handed (handed_result e) m))

-- ---- a failure

pub fails_cross : (v : View) (b : Past) (n : ℕ) (e : End) (cause : FailCause) → Facts v b → handed_result e ≡ None
    → held_at (stage_of v.mode) b.rest ≡ length b.rest
    → CrossOk v b n e None (Some cause) (record v { mode = mode.Recovering stage.Stop; driven = false })
fails_cross v b n e cause f r held = record {
  counted = λ m x. subst (λ y. Balance (length v.dev.ring) (length v.queue) (length b.rest) (frame_counts (count_handed y m))) (sym r)
      (subst (λ y. Balance (length v.dev.ring) (length v.queue) y (frame_counts m)) held x);
  after = b;
  facts = record {
    linked = f.linked;
    width = f.width;
    keys = f.keys;
    defaults = f.defaults;
    pending = f.pending;
    count = f.count;
    calls = f.calls;
    disk = f.disk;
    holders = f.holders;
    registers = λ key. tt;
    replay = tt;
    booting = tt;
    chain = f.chain;
    handed_up = λ m. absurd cc;
    insides = λ k c h i. refl;
    driving = λ d. absurd cc;
  };
  seen = refl;
  tracked = refl;
  shown = λ more. refl;
  allowed = refl;
}

-- ---- nothing can be seen

pub pause_cross : (v : View) (b : Past) (n : ℕ) → Facts v b → CrossOk v b n ends.Pause None None v
pause_cross v b n f = record { counted = λ m x. x; after = b; facts = f; seen = refl; tracked = refl; shown = λ more. refl; allowed = refl }

pub served_cross : (v : View) (b : Past) (n service first second : ℕ) (result : Option ℕ) (moved : List ℕ) → Facts v b
    → hands_up service result ≡ false → handed_result (ends.Service service first second result moved) ≡ None
    → CrossOk v b n (ends.Service service first second result moved) None None v
served_cross v b n service first second result moved f h r = record
    { counted = λ m x. subst (λ y. Balanced v b (count_handed y m)) (sym r) x; after = b; facts = f; seen = ap (λ up. sees_service up n moved (watch_of v b)) h; tracked = refl; shown = λ more. refl; allowed = refl }

-- ---- a frame handed up

abbrev pub taken_up : List ℕ → List (List ℕ) → List (List ℕ)
taken_up frame queue = if nat_lt (length queue) 64 then queue ++ frame ∷ [] else queue

taken_not_empty : (frame : List ℕ) (queue : List (List ℕ)) → is_empty (taken_up frame queue) ≡ false
taken_not_empty frame queue = split (nat_lt (length queue) 64)
    (λ t. ap is_empty (cond-true (nat_lt (length queue) 64) (queue ++ frame ∷ []) queue t) ∙ pushed queue)
    (λ t. ap is_empty (cond-false (nat_lt (length queue) 64) (queue ++ frame ∷ []) queue t) ∙ long queue (ltb-false (length queue) 64 t))
  where
    pushed : (queue : List (List ℕ)) → is_empty (queue ++ frame ∷ []) ≡ false
    pushed [] = refl
    pushed (x ∷ queue) = refl

    long : (queue : List (List ℕ)) → 64 ≤ length queue → is_empty queue ≡ false
    long [] l = absurd (omega (arith, l))
    long (x ∷ queue) l = refl

pub rx_cross : (v : View) (b : Past) (n service first second r : ℕ) (result : Option ℕ) (moved : List ℕ) → Facts v b
    → handed_result (ends.Service service first second result moved) ≡ Some r → r ≡ cond (nat_lt (length v.queue) 64) 1 0
    → ((rest : List (List ℕ)) → held_at (stage_of v.mode) rest ≡ length rest)
    → hands_up service result ≡ true → (sees_crossing n (ends.Service service first second result moved) None None (watch_of v b)).clause ≡ None
    → CrossOk v b n (ends.Service service first second result moved) None None (record v { queue = taken_up moved v.queue })
rx_cross v b n service first second r result moved f ir er held u h = with_rest (prefix_next b.handed b.rest moved met)
  where
    kept : (required (is_front (b.handed ++ moved ∷ []) (b.handed ++ b.rest)) 8 None) ≡ None
    kept = sym (ap (λ up. (sees_service up n moved (watch_of v b)).clause) u) ∙ h

    met : is_front (b.handed ++ moved ∷ []) (b.handed ++ b.rest) ≡ true
    met = (required_met (is_front (b.handed ++ moved ∷ []) (b.handed ++ b.rest)) 8 None kept).0

    same : map core_of (change_number hand_call n b.calls) ≡ cores b
    same = change_unseen core_of hand_call (λ c. refl) n b.calls

    chain : (more : List (List ℕ)) → b.rest ≡ moved ∷ more → Sub (taken_up moved v.queue ++ (more ++ v.dev.ring)) b.frames
    chain more e = split (nat_lt (length v.queue) 64)
        (λ t. subst (λ q. Sub (q ++ (more ++ v.dev.ring)) b.frames) (sym (cond-true (nat_lt (length v.queue) 64) (v.queue ++ moved ∷ []) v.queue t))
        (subst (λ l. Sub l b.frames) (sym (append_assoc v.queue (moved ∷ []) (more ++ v.dev.ring))) old))
        (λ t. subst (λ q. Sub (q ++ (more ++ v.dev.ring)) b.frames) (sym (cond-false (nat_lt (length v.queue) 64) (v.queue ++ moved ∷ []) v.queue t))
        (sub_mid v.queue moved (more ++ v.dev.ring) b.frames old))
      where
        old : Sub (v.queue ++ (moved ∷ (more ++ v.dev.ring))) b.frames
        old = subst (λ r. Sub (v.queue ++ (r ++ v.dev.ring)) b.frames) e f.chain

    with_rest : (more : List (List ℕ)) × (b.rest ≡ moved ∷ more)
        → CrossOk v b n (ends.Service service first second result moved) None None (record v { queue = taken_up moved v.queue })
    with_rest (more, e) = record {
      counted = λ m x. subst (λ y. Balance (length v.dev.ring) (length (taken_up moved v.queue)) (held_at (stage_of v.mode) more) (frame_counts (count_handed y m))) (sym ir)
          (handed_balance (length v.dev.ring) (length v.queue) (length (taken_up moved v.queue)) (held_at (stage_of v.mode) b.rest) (held_at (stage_of v.mode) more) r m
          (held b.rest ∙ ap length e ∙ ap suc (sym (held more))) (room_balance v.queue moved r er).0 (room_balance v.queue moved r er).1 x);
      after = record b { calls = change_number hand_call n b.calls; handed = b.handed ++ moved ∷ []; rest = more };
      facts = record {
        linked = f.linked;
        width = f.width;
        keys = f.keys;
        defaults = f.defaults;
        pending = f.pending ∙ ap (open_from 1) (sym same);
        count = f.count ∙ sym (length_map core_of b.calls) ∙ ap length (sym same) ∙ length_map core_of (change_number hand_call n b.calls);
        calls = subst (λ cs. CallsFacts v.class v.size cs) (sym same) f.calls;
        disk = subst (λ cs. DiskFacts cs b.blocks v.dev.medium) (sym same) f.disk;
        holders = λ k c i. f.holders k c (subst (λ cs. At cs k c) same i);
        registers = λ key. subst (λ cs. KeyIn cs v.config v.defaults v.driven v.mode key (slice_index v.dev.registers key)) (sym same) (f.registers key);
        replay = f.replay;
        booting = f.booting;
        chain = chain more e;
        handed_up = λ m k c i j r t. taken_not_empty moved v.queue;
        insides = λ k c i. f.insides k c (subst (λ cs. At cs k c) same i);
        driving = f.driving;
      };
      seen =
          ap (λ up. sees_service up n moved (watch_of v b)) u
          ∙ ap (λ cs. record (watch_of v b) { calls = cs; handed = b.handed ++ moved ∷ []; clause = required prefix 8 None })
          (sym (change_map as_watched hand_call handed_one (λ c. refl) n b.calls))
          ∙ ap (λ t. record (watch_of v b) { calls = map as_watched (change_number hand_call n b.calls); handed = b.handed ++ moved ∷ []; clause = t }) kept
          ∙ ap (λ l. record (watch_of v b) { calls = map as_watched (change_number hand_call n b.calls); handed = b.handed ++ moved ∷ []; popped = l })
          (ap (λ r. b.handed ++ r) e ∙ sym (append_assoc b.handed (moved ∷ []) more));
      tracked = ap (map as_track) (sym same);
      shown = λ more. ap (λ os. ran (record (ideal_of v b) { opened = os }) more) (sym (change_unseen as_opened hand_call (λ c. refl) n b.calls));
      allowed = refl;
    }
      where
        prefix : Bool
        prefix = is_front (b.handed ++ moved ∷ []) (b.handed ++ b.rest)

-- ---- the shadow's own call is accepted

-- the replay of the first key that is not a default: the registers before it are the record, the others the defaults
next_keys : (config defaults regs : List ℕ) (holder : Option ℕ) (key more : ℕ) → key + more ≡ 4 → length config ≡ 4 → length defaults ≡ 4
    → ((j : ℕ) → j < key → slice_index regs j ≡ slice_index config j) → ((j : ℕ) → key ≤ j → slice_index regs j ≡ slice_index defaults j)
    → ((j : ℕ) → KeyAt config defaults false (next_replay key more config defaults holder) j (slice_index regs j))
    × ReplayFits config (Some (next_replay key more config defaults holder))
next_keys config defaults regs holder key zero e lc ld before rest_after = by_holder holder
  where
    all : (j : ℕ) → slice_index regs j ≡ slice_index config j
    all j = by_position (cases_lt j key)
      where
        by_position : (j < key) ⊎ (key ≤ j) → slice_index regs j ≡ slice_index config j
        by_position (inl l) = before j l
        by_position (inr l) = rest_after j l ∙ get_or_past defaults j 0 (omega (arith, l, e, ld)) ∙ sym (get_or_past config j 0 (omega (arith, l, e, lc)))

    by_holder : (holder : Option ℕ) → ((j : ℕ) → KeyAt config defaults false (replay_stream holder) j (slice_index regs j)) × ReplayFits config (Some (replay_stream holder))
    by_holder None = (all, tt)
    by_holder (Some t) = (all, tt)
next_keys config defaults regs holder key (suc more) e lc ld before rest_after = split (eqb (slice_index config key) (slice_index defaults key))
    (λ t. subst Good (sym (cond-true (eqb (slice_index config key) (slice_index defaults key)) (next_replay (key + 1) more config defaults holder) (stage.ReplaySet key (slice_index config key)) t))
    (next_keys config defaults regs holder (key + 1) more (omega (arith, e)) lc ld
    (λ j l. by_position t j (cases_eq j key) l) (λ j l. rest_after j (omega (arith, l)))))
    (λ t. subst Good (sym (cond-false (eqb (slice_index config key) (slice_index defaults key)) (next_replay (key + 1) more config defaults holder) (stage.ReplaySet key (slice_index config key)) t))
    ((λ j. ((λ l. before j l), (λ l. rest_after j (omega (arith, l))), λ s. inl (rest_after j (omega (arith, s))))), (omega (arith, e), refl)))
  where
    Good : Stage → Type 0
    Good s = ((j : ℕ) → KeyAt config defaults false s j (slice_index regs j)) × ReplayFits config (Some s)

    by_position : eqb (slice_index config key) (slice_index defaults key) ≡ true → (j : ℕ) → (j ≡ key) ⊎ (j ≡ key → ⊥) → j < key + 1
        → slice_index regs j ≡ slice_index config j
    by_position t j (inl s) l = rest_after j (omega (arith, s)) ∙ ap (slice_index defaults) s ∙ sym (eqb-true (slice_index config key) (slice_index defaults key) t) ∙ ap (slice_index config) (sym s)
    by_position t j (inr n) l = before j (omega (arith, l, n))

-- the facts at the stage after the shadow's call
pub record NextOk (cs : List Core) (config defaults regs : List ℕ) (m : Mode) : Type 0 where
  pub registers : (key : ℕ) → KeyIn cs config defaults false m key (slice_index regs key)
  pub replay : ReplayFits config (stage_of m)
  pub booting : BootFits config defaults m
  pub still : m ≡ mode.Running → ⊥
  pub held : (rest : List (List ℕ)) → held_at (stage_of m) rest ≡ length rest

next_held : (config defaults : List ℕ) (holder : Option ℕ) (key more : ℕ) (rest : List (List ℕ))
    → held_at (Some (next_replay key more config defaults holder)) rest ≡ length rest
next_held config defaults None key zero rest = refl
next_held config defaults (Some t) key zero rest = refl
next_held config defaults holder key (suc more) rest = split (eqb (slice_index config key) (slice_index defaults key))
    (λ t. ap (λ s. held_at (Some s) rest) (cond-true (eqb (slice_index config key) (slice_index defaults key)) (next_replay (key + 1) more config defaults holder) (stage.ReplaySet key (slice_index config key)) t)
    ∙ next_held config defaults holder (key + 1) more rest)
    (λ t. ap (λ s. held_at (Some s) rest) (cond-false (eqb (slice_index config key) (slice_index defaults key)) (next_replay (key + 1) more config defaults holder) (stage.ReplaySet key (slice_index config key)) t))

replayed : (cs : List Core) (config defaults regs : List ℕ) (s : Stage) → ((rest : List (List ℕ)) → held_at (Some s) rest ≡ length rest)
    → ((j : ℕ) → KeyAt config defaults false s j (slice_index regs j)) × ReplayFits config (Some s) → NextOk cs config defaults regs (mode.Recovering s)
replayed cs config defaults regs s held (k, r) = record { registers = k; replay = r; booting = tt; still = λ e. absurd cc; held = held }

pub next_ok : (p : PartState) (cs : List Core) (regs : List ℕ) (m : Mode) → length p.log.config ≡ 4 → length p.log.defaults ≡ 4
    → is_driving (stage_of m) ≡ true → ReplayFits p.log.config (stage_of m) → BootFits p.log.config p.log.defaults m
    → ((key : ℕ) → KeyIn cs p.log.config p.log.defaults true m key (slice_index regs key)) → is_replayed (replay_of true m) regs ≡ true
    → NextOk cs p.log.config p.log.defaults regs (next_mode m p)
unfolding replay_after
next_ok p cs regs (mode.Boot stage.Init) lc ld d r b k h = record
    { registers = λ key. k key ∙ ap (λ l. slice_index l key) (sym b); replay = tt; booting = b; still = λ e. absurd cc; held = λ l. refl }
next_ok p cs regs (mode.Boot (stage.ReplaySet x y)) lc ld d r b k h = record
    { registers = λ key. by_position key (cases_lt key x) (cases_lt x key); replay = tt; booting = b; still = λ e. absurd cc; held = λ l. refl }
  where
    by_position : (key : ℕ) → (key < x) ⊎ (x ≤ key) → (x < key) ⊎ (key ≤ x) → slice_index regs key ≡ slice_index p.log.config key
    by_position key (inl l) u = (k key).0 l
    by_position key (inr l) (inl u) = (k key).1 u ∙ ap (λ l. slice_index l key) (sym b)
    by_position key (inr l) (inr u) = ap (slice_index regs) same ∙ eqb-true (slice_index regs x) y h ∙ sym r.1 ∙ ap (slice_index p.log.config) (sym same)
      where
        same : key ≡ x
        same = omega (arith, l, u)
next_ok p cs regs (mode.Boot stage.ReplayOpen) lc ld d r b k h = record
    { registers = λ key. k key; replay = tt; booting = b; still = λ e. absurd cc; held = λ l. refl }
next_ok p cs regs (mode.Recovering stage.Init) lc ld d r b k h = replayed cs p.log.config p.log.defaults regs
    (next_replay 0 4 p.log.config p.log.defaults p.log.holder) (next_held p.log.config p.log.defaults p.log.holder 0 4)
    (next_keys p.log.config p.log.defaults regs p.log.holder 0 4 (omega arith) lc ld (λ j l. absurd (omega (arith, l))) (λ j l. k j))
next_ok p cs regs (mode.Recovering (stage.ReplaySet x y)) lc ld d r b k h = replayed cs p.log.config p.log.defaults regs
    (next_replay (x + 1) (3 - x) p.log.config p.log.defaults p.log.holder) (next_held p.log.config p.log.defaults p.log.holder (x + 1) (3 - x))
    (next_keys p.log.config p.log.defaults regs p.log.holder (x + 1) (3 - x) (omega (arith, r.0)) lc ld
    (λ j l. by_position j (cases_eq j x) l) (λ j l. (k j).1 (omega (arith, l))))
  where
    by_position : (j : ℕ) → (j ≡ x) ⊎ (j ≡ x → ⊥) → j < x + 1 → slice_index regs j ≡ slice_index p.log.config j
    by_position j (inl s) l = ap (slice_index regs) s ∙ eqb-true (slice_index regs x) y h ∙ sym r.1 ∙ ap (slice_index p.log.config) (sym s)
    by_position j (inr n) l = (k j).0 (omega (arith, l, n))
next_ok p cs regs (mode.Recovering stage.ReplayOpen) lc ld d r b k h = record
    { registers = λ key. k key; replay = tt; booting = tt; still = λ e. absurd cc; held = λ l. refl }
next_ok p cs regs mode.Running lc ld d r b k h = absurd cc
next_ok p cs regs (mode.Dead collected) lc ld d r b k h = absurd cc
next_ok p cs regs (mode.Boot stage.Stop) lc ld d r b k h = absurd cc
next_ok p cs regs (mode.Boot stage.Collect) lc ld d r b k h = absurd cc
next_ok p cs regs (mode.Boot stage.Reset) lc ld d r b k h = absurd cc
next_ok p cs regs (mode.Boot stage.Load) lc ld d r b k h = absurd cc
next_ok p cs regs (mode.Boot stage.Resume) lc ld d r b k h = absurd cc
next_ok p cs regs (mode.Recovering stage.Stop) lc ld d r b k h = absurd cc
next_ok p cs regs (mode.Recovering stage.Collect) lc ld d r b k h = absurd cc
next_ok p cs regs (mode.Recovering stage.Reset) lc ld d r b k h = absurd cc
next_ok p cs regs (mode.Recovering stage.Load) lc ld d r b k h = absurd cc
next_ok p cs regs (mode.Recovering stage.Resume) lc ld d r b k h = absurd cc

-- no call is Inside while the shadow drives
driven_alone : (m : Mode) → is_driving (stage_of m) ≡ true → may_be_inside m ≡ true → ⊥
driven_alone (mode.Boot s) d i = absurd cc
driven_alone mode.Running d i = absurd cc
driven_alone (mode.Dead collected) d i = absurd cc
driven_alone (mode.Recovering stage.Stop) d i = absurd cc
driven_alone (mode.Recovering stage.Collect) d i = absurd cc
driven_alone (mode.Recovering stage.Reset) d i = absurd cc
driven_alone (mode.Recovering stage.Load) d i = absurd cc
driven_alone (mode.Recovering stage.Init) d i = absurd cc
driven_alone (mode.Recovering (stage.ReplaySet k v)) d i = absurd cc
driven_alone (mode.Recovering stage.ReplayOpen) d i = absurd cc
driven_alone (mode.Recovering stage.Resume) d i = absurd cc

pub shadow_cross : (v : View) (b : Past) (n status : ℕ) (m : Mode) → Facts v b → v.driven ≡ true
    → held_at (stage_of v.mode) b.rest ≡ length b.rest
    → (sees_reply n None (watch_of v b)).clause ≡ None → NextOk (cores b) v.config v.defaults v.dev.registers m
    → CrossOk v b n (ends.Reply status) None None (record v { mode = m; driven = false })
shadow_cross v b n status m f d held h g = record {
  counted = λ t x. subst (λ y. Balance (length v.dev.ring) (length v.queue) y (frame_counts t)) (held ∙ sym (g.held b.rest)) x;
  after = b;
  facts = record {
    linked = f.linked;
    width = f.width;
    keys = f.keys;
    defaults = f.defaults;
    pending = f.pending;
    count = f.count;
    calls = f.calls;
    disk = f.disk;
    holders = f.holders;
    registers = g.registers;
    replay = g.replay;
    booting = g.booting;
    chain = f.chain;
    handed_up = λ r. absurd (g.still r);
    insides = λ k c i j. absurd (driven_alone v.mode (f.driving d) (f.insides k c i j));
    driving = λ t. absurd cc;
  };
  seen = ap (λ t. record (watch_of v b) { replay = None; clause = t }) h;
  tracked = refl;
  shown = λ more. refl;
  allowed = refl;
}

-- ---- a call's reply is accepted

pub accepted_cross : (v : View) (b : Past) (k status : ℕ) (c : Call) (a : Answer) → (r : Replies v b k c)
    → (sees_reply (suc k) (Some a) (watch_of v b)).clause ≡ None → Accepted v b k c a
    → CrossOk v b (suc k) (ends.Reply status) (Some a) None
    (closed_view (suc k) (config_after c.core.op v.config) (holder_after c.core.thread c.core.op v.holder) (queue_after c.core.op v.queue) v)
accepted_cross v b k status c a r h g = record {
  counted = λ m x. answered_balance (length v.dev.ring) (held_at (stage_of v.mode) b.rest) (suc k) v.queue (queue_after c.core.op v.queue) a m g.counted x;
  after = past;
  facts = closed_facts v b k c (closed_call c) (config_after c.core.op v.config) (holder_after c.core.thread c.core.op v.holder)
      (queue_after c.core.op v.queue) g.plain g.frames r.facts r.running r.at
      (record { thread = refl; op = refl; waits = refl; inside = refl }) g.facts;
  seen =
      ap (λ cs. record (watch_of v b) { calls = cs; clause = owes_found (at_number (suc k) (map as_watched b.calls)) a (watch_of v b) })
      (change_at leaves k (map as_watched b.calls) (as_watched c) (get_map as_watched b.calls k c r.at) ∙ sym (map_set as_watched b.calls k (closed_call c)))
      ∙ ap (λ t. record (watch_of v b) { calls = map as_watched (set b.calls k (closed_call c)); clause = t }) h;
  tracked = sym (ap (map as_track) (map_set core_of b.calls k (closed_call c)) ∙ map_set as_track (cores b) k (close_core c.core)
      ∙ set_get (tracks_of b) k (as_track c.core) track);
  shown = λ more.
      ap (λ l. ran (ideal_of v b) (answer (suc k) a l ∷ more)) (ap (kept_blocks a) track)
      ∙ answer_shown (ideal_of v b)
      (record (ideal_of v b) {
        opened = change_number stops_waiting (suc k) (map as_opened b.calls);
        blocks = g.plain;
        pending = g.frames;
        holder = holder_after c.core.thread c.core.op v.holder;
        config = config_after c.core.op v.config;
      })
      k (as_opened c) a (kept_blocks a (Some (as_track c.core))) more (get_map as_opened b.calls k c r.at)
      ((call_facts v b k c r).opened r.inside) (checks v b k c r) g.comes
      ∙ ap (λ os. ran (record (ideal_of v b) {
        opened = os;
        blocks = g.plain;
        pending = g.frames;
        holder = holder_after c.core.thread c.core.op v.holder;
        config = config_after c.core.op v.config;
      }) more)
      (change_at stops_waiting k (map as_opened b.calls) (as_opened c) (get_map as_opened b.calls k c r.at) ∙ sym (map_set as_opened b.calls k (closed_call c)));
  allowed = g.allowed (watch_of (closed_view (suc k) (config_after c.core.op v.config) (holder_after c.core.thread c.core.op v.holder) (queue_after c.core.op v.queue) v) past)
      (get_map as_watched (set b.calls k (closed_call c)) k (closed_call c) (get_set_same b.calls k c (closed_call c) r.at)) refl;
}
  where
    past : Past
    past = record b { calls = set b.calls k (closed_call c); blocks = g.plain; frames = g.frames }

    track : At (tracks_of b) k (as_track c.core)
    track = get_map as_track (cores b) k c.core (core_at v b k c r)
