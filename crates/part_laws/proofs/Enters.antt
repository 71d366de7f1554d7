use Rattle.std.proofs.Common.{◌≡◌, ◌<◌, ◌⊎◌, ℕ, suc, ◌+◌, not, eqb, Bool, true, false, Option, Some, None, List, [], ◌∷◌, ◌++◌, map, length, set, slice_index, sym, refl, ap, ap₂, subst, ◌∙◌, inl, inr, arith, length-set}
use Rattle.std.specs.List.{find, list_any}
use Rattle.std.proofs.lemmas.Bool.{and_parts, eq-eqb, lt-ltb, cases_order, not-true, cond-true, cond-false}
use Rattle.nook_data.specs.declared.classes.Admit.TheVariants as admits
use Rattle.nook_data.specs.declared.calls.Answer.{Answer}
use Rattle.nook_data.specs.declared.calls.Answer.TheVariants as answered
use Rattle.nook_data.specs.declared.calls.CallEntry.{CallEntry}
use Rattle.nook_data.specs.declared.classes.Class.TheVariants.{Net}
use Rattle.nook_data.specs.declared.steps.Mode.{Mode}
use Rattle.nook_data.specs.declared.steps.Mode.TheVariants as mode
use Rattle.nook_data.specs.declared.calls.Op.{Op}
use Rattle.nook_data.specs.declared.calls.Op.TheVariants.{Read, Write, Send, Recv, Open, Play, Close, Get, Set}
use Rattle.part_defs.specs.Calls.{after_admit, after_enter}
use Rattle.nook_data.specs.Classes.{conflicts, is_holder, is_recv, is_write, admit, admit_holder, entry_address}
use Rattle.part_laws.specs.Watch.{Watch, enters}
use Rattle.nook_data.specs.Frames.{head_of, is_empty, tail_of}
use Rattle.part_defs.specs.Domain.{entered_domain, entry_context, arguments_of}
use Rattle.promise_defs.specs.Ideal.{ran}
use Rattle.promise_defs.proofs.PromiseChanges.{stops_waiting, enter_track}
use Rattle.part_laws.specs.Allowed.{allows}
use Rattle.part_defs.specs.Log.{call_of_thread, after_entering, after_answering as answered_log, is_blocked}
use Rattle.part_defs.specs.Log.{blocks_call}
use Rattle.part_defs.proofs.PartCases.{admit_open, change_entry, entered_by, entered_call, is_of_thread}
use Rattle.promise_defs.proofs.PromiseCases.{closes}
use Rattle.nook_data.specs.Numbered.{at_number, change_number}
use Rattle.part_defs.specs.State.{PartState}
use Rattle.part_defs.specs.Steps.{can_enter, is_ready, is_running}
use Rattle.promise_defs.specs.Trace.{Visible, answer, kept_blocks}
use Rattle.part_laws.specs.Balance.{held_at, Balanced}
use Rattle.part_laws.specs.Facts.{At, CallsFacts, DiskFacts, HolderFits, IsSetting, KeyIn, Sub, may_be_inside, Facts}
use Rattle.part_laws.specs.Moves.{enter_core, enter_call}
use Rattle.part_laws.specs.Views.{View, Past, Core, Call, core_of, cores, entry_of, open_from, stage_of, view_of, as_watched, as_opened, as_track, watch_of, ideal_of, tracks_of}
use Rattle.part_laws.proofs.Accepts.{with_op, recvs_conflict}
use Rattle.part_laws.proofs.Acts.{key_forward, is_the_holder}
use Rattle.part_laws.proofs.Balances.{TakesFrame, answered_balance}
use Rattle.part_laws.proofs.Closing.{Comes, closed_facts, closed_view, answer_shown, frame_comes}
use Rattle.part_laws.proofs.Contexts.{other_set}
use Rattle.part_laws.proofs.Disks.{disk_plain}
use Rattle.part_laws.proofs.Keeping.{calls_enter, disk_same, writes_set}
use Rattle.part_laws.proofs.OfClass.{recv_class}
use Rattle.part_laws.proofs.OpenCalls.{Found, open_find, open_change, open_apart}
use Rattle.part_laws.proofs.Indices.{split, same_at, get_map, from_map, get_set, get_set_other, map_set, set_get, change_at}
use Rattle.part_laws.specs.Recovery.{StepKeeps}
use Rattle.part_laws.proofs.Subs.{Taken, sub_front}

-- A held call is entered: it goes Inside, or its class answers it.

-- a call that may be entered
pub record MayEnter (v : View) (b : Past) (k : ℕ) (c : Call) : Type 0 where
  pub facts : Facts v b
  pub running : v.mode ≡ mode.Running
  pub at : At b.calls k c
  pub waits : c.core.waits ≡ true
  pub held : c.core.inside ≡ false
  pub free : (j : ℕ) (d : Core) → At (cores b) j d → d.waits ≡ true → j < k → conflicts v.class c.core.op d.op ≡ false

enter_at : (v : View) (b : Past) (k : ℕ) (c : Call) → MayEnter v b k c → At (cores b) k c.core
enter_at v b k c u = get_map core_of b.calls k c u.at

-- a Set that is Inside has another index
setting_stays : (v : View) (b : Past) (k : ℕ) (c : Call) (d : Core) → MayEnter v b k c → (key value : ℕ)
    → IsSetting (cores b) key value → IsSetting (set (cores b) k d) key value
setting_stays v b k c d u key value s = record {
  index = s.index;
  call = s.call;
  at = get_set_other (cores b) s.index k d (λ e. absurd cc (
    u.held,
    ap (λ x. x.inside)
        (same_at (cores b) k c.core s.call (enter_at v b k c u) (subst (λ p. At (cores b) p s.call) e s.at)) ∙ s.inside,
  )) ∙ s.at;
  inside = s.inside;
  sets = s.sets;
}

-- ---- it goes Inside

entered_track : (c : Core) → as_track (enter_core true c) ≡ enter_track (as_track c)
entered_track c = ap (λ t. record (as_track c) { entered = t }) (lt-ltb 0 (c.attempts + 1) (omega arith))

abbrev entered_view : ℕ → View → View
entered_view k v = record v { pending = map (change_entry (suc k) entered_call) v.pending }

enter_facts : (v : View) (b : Past) (k : ℕ) (c : Call) → MayEnter v b k c → HolderFits v.holder c.core.thread c.core.op
    → Facts (entered_view k v) (record b { calls = set b.calls k (enter_call true c) })
enter_facts v b k c u holder = record {
  linked = f.linked;
  width = f.width;
  keys = f.keys;
  defaults = f.defaults;
  pending = ap (map (change_entry (suc k) entered_call)) f.pending
      ∙ ap (λ n. map (change_entry n entered_call) (open_from 1 (cores b))) (omega arith)
      ∙ open_change entered_call (enter_core true) (λ m d. refl) 1 (cores b) k c.core at (sym u.waits)
      ∙ ap (open_from 1) (sym same);
  count = f.count ∙ sym (length-set b.calls k (enter_call true c));
  calls = subst (λ cs. CallsFacts v.class v.size cs) (sym same) (calls_enter v.class v.size (cores b) f.calls k c.core at u.waits u.free);
  disk = subst (λ cs. DiskFacts cs b.blocks v.dev.medium) (sym same)
      (disk_same (cores b) (set (cores b) k (enter_core true c.core)) b.blocks v.dev.medium
      (writes_set (cores b) k c.core (enter_core true c.core) at
      (λ w i. record { waits = refl; op = refl; entered = λ a. omega arith; stored = refl })
      (λ w i. (u.waits, record { waits = refl; op = refl; entered = λ a. omega arith; stored = refl }))) f.disk);
  holders = λ j d h i. holders j d i (get_set (cores b) j k (enter_core true c.core) d (subst (λ cs. At cs j d) same h));
  registers = λ key. subst (λ cs. KeyIn cs v.config v.defaults v.driven v.mode key (slice_index v.dev.registers key)) (sym same)
      (key_forward (cores b) (set (cores b) k (enter_core true c.core)) v.config v.defaults v.driven v.mode key (slice_index v.dev.registers key)
      (setting_stays v b k c (enter_core true c.core) u key (slice_index v.dev.registers key)) (f.registers key));
  replay = f.replay;
  booting = f.booting;
  chain = f.chain;
  handed_up = λ m j d h i r t. handed m j d i r t (get_set b.calls j k (enter_call true c) d h);
  insides = λ j d h i. ap may_be_inside u.running;
  driving = f.driving;
}
  where
    f : Facts v b
    f = u.facts

    at : At (cores b) k c.core
    at = enter_at v b k c u

    same : map core_of (set b.calls k (enter_call true c)) ≡ set (cores b) k (enter_core true c.core)
    same = map_set core_of b.calls k (enter_call true c)

    holders : (j : ℕ) (d : Core) → d.inside ≡ true → ((j ≡ k) × (d ≡ enter_core true c.core)) ⊎ ((j ≡ k → ⊥) × At (cores b) j d)
        → HolderFits v.holder d.thread d.op
    holders j d i (inl s) = subst (λ x. HolderFits v.holder x.thread x.op) (sym s.1) holder
    holders j d i (inr s) = f.holders j d s.1 i

    handed : v.mode ≡ mode.Running → (j : ℕ) (d : Call) → d.core.inside ≡ true → is_recv d.core.op ≡ true → d.handed ≡ true
        → ((j ≡ k) × (d ≡ enter_call true c)) ⊎ ((j ≡ k → ⊥) × At b.calls j d) → is_empty v.queue ≡ false
    handed m j d i r t (inl s) = absurd cc (ap (λ x. x.handed) s.1, t)
    handed m j d i r t (inr s) = f.handed_up m j d s.1 i r t

tracked_entered : (b : Past) (k : ℕ) (c d : Call) → At b.calls k c → as_track d.core ≡ enter_track (as_track c.core)
    → change_number enter_track (suc k) (tracks_of b) ≡ map as_track (map core_of (set b.calls k d))
tracked_entered b k c d h e =
    change_at enter_track k (tracks_of b) (as_track c.core) (get_map as_track (cores b) k c.core (get_map core_of b.calls k c h))
    ∙ ap (set (tracks_of b) k) (sym e)
    ∙ sym (ap (map as_track) (map_set core_of b.calls k d) ∙ map_set as_track (cores b) k d.core)

enters_ok : (p : PartState) (b : Past) (k index : ℕ) (c : Call) → MayEnter (view_of p) b k c → length p.domain.contexts ≡ 17
    → HolderFits p.log.holder c.core.thread c.core.op → StepKeeps p b (after_admit p (entry_of (suc k) c.core) (admits.Enter index))
unfolding after_entering entered_domain
enters_ok p b k index c u l holder = record {
  counted = λ n x. subst (λ v. Balanced v (record b { calls = set b.calls k (enter_call true c) }) n) seen x;
  after = past;
  facts = subst (λ v. Facts v (record b { calls = set b.calls k (enter_call true c) })) seen (enter_facts (view_of p) b k c u holder);
  contexts = length-set p.domain.contexts c.core.thread _ ∙ l;
  seen = ap (λ cs. record (watch_of (view_of p) b) { calls = cs })
      (change_at (enters true) k (map as_watched b.calls) (as_watched c) (get_map as_watched b.calls k c u.at) ∙ sym (map_set as_watched b.calls k (enter_call true c)))
      ∙ ap (λ v. watch_of v (record b { calls = set b.calls k (enter_call true c) })) seen;
  tracked = tracked_entered b k c (enter_call true c) u.at (entered_track c.core);
  shown = λ more. ap (λ os. ran (record (ideal_of (view_of p) b) { opened = os }) more)
      (sym (map_set as_opened b.calls k (enter_call true c)
      ∙ ap (set (map as_opened b.calls) k) (ap (λ w. record (as_opened c) { waits = w }) (sym u.waits))
      ∙ set_get (map as_opened b.calls) k (as_opened c) (get_map as_opened b.calls k c u.at)))
      ∙ ap (λ v. ran (ideal_of v (record b { calls = set b.calls k (enter_call true c) })) more) seen;
  licensed = refl;
}
  where
    past : Past
    past = record b { calls = set b.calls k (enter_call true c) }

    seen : entered_view k (view_of p) ≡ view_of (after_admit p (entry_of (suc k) c.core) (admits.Enter index)).state
    seen = ap (λ t. record (entered_view k (view_of p)) { driven = t })
        (sym (other_set p.domain.contexts c.core.thread (Some (entry_context (slice_index p.domain.starts index) c.core.thread (arguments_of c.core.thread c.core.op)))
        (λ e. omega (arith, e, (u.facts.calls.each k c.core (enter_at (view_of p) b k c u)).thread))))

-- ---- the class answers it

-- what must be shown of the class's answer
record Replied (v : View) (b : Past) (k : ℕ) (c : Call) (a : Answer) (queue : List (List ℕ)) : Type 0 where
  frames : List (List ℕ)
  plain : is_write c.core.op ≡ false
  chain : Sub (queue ++ (b.rest ++ v.dev.ring)) frames
  handed : (j : ℕ) (d : Call) → At b.calls j d → (j ≡ k → ⊥) → d.core.inside ≡ true → is_recv d.core.op ≡ true → d.handed ≡ true → is_empty queue ≡ false
  comes : Comes (closes (suc k) (ideal_of v b)) c.core.thread c.core.op a [] (record (closes (suc k) (ideal_of v b)) { pending = frames })
  blocks : (t : _) → kept_blocks a t ≡ []
  allowed : (q : List (List ℕ)) (w : Watch) → allows None q w (suc k) a ≡ true
  takes : TakesFrame a v.queue queue

replied_facts : (v : View) (b : Past) (k : ℕ) (c : Call) (a : Answer) (queue : List (List ℕ)) → MayEnter v b k c → (r : Replied v b k c a queue)
    → Facts (closed_view (suc k) v.config v.holder queue v) (record b { calls = set b.calls k (enter_call false c); frames = r.frames })
replied_facts v b k c a queue u r = closed_facts v b k c (enter_call false c) v.config v.holder queue b.blocks r.frames u.facts u.running u.at
    (record { thread = refl; op = refl; waits = refl; inside = refl })
    (record {
      keys = u.facts.keys;
      disk = disk_plain (cores b) b.blocks v.dev.medium k c.core (enter_core false c.core) (enter_at v b k c u) r.plain refl u.facts.disk;
      holders = λ j d h n i. u.facts.holders j d h i;
      registers = λ key. by_fact key (subst (λ m. KeyIn (cores b) v.config v.defaults v.driven m key (slice_index v.dev.registers key)) u.running (u.facts.registers key));
      chain = r.chain;
      handed_up = r.handed;
    })
  where
    by_fact : (key : ℕ) → (slice_index v.dev.registers key ≡ slice_index v.config key) ⊎ IsSetting (cores b) key (slice_index v.dev.registers key)
        → (slice_index v.dev.registers key ≡ slice_index v.config key) ⊎ IsSetting (set (cores b) k (enter_core false c.core)) key (slice_index v.dev.registers key)
    by_fact key (inl e) = inl e
    by_fact key (inr s) = inr (setting_stays v b k c (enter_core false c.core) u key (slice_index v.dev.registers key) s)

left_track : (c : Core) → as_track (enter_core false c) ≡ enter_track (as_track c)
left_track c = ap (λ t. record (as_track c) { entered = t }) (lt-ltb 0 (c.attempts + 1) (omega arith))

replied_shown : (v : View) (b : Past) (k : ℕ) (c : Call) (a : Answer) (queue : List (List ℕ)) → MayEnter v b k c → (r : Replied v b k c a queue)
    → (t : _) (more : List Visible)
    → ran (ideal_of v b) (answer (suc k) a (kept_blocks a t) ∷ more)
    ≡ ran (ideal_of (closed_view (suc k) v.config v.holder queue v) (record b { calls = set b.calls k (enter_call false c); frames = r.frames })) more
replied_shown v b k c a queue u r t more =
    ap (λ l. ran (ideal_of v b) (answer (suc k) a l ∷ more)) (r.blocks t)
    ∙ answer_shown (ideal_of v b) (record (closes (suc k) (ideal_of v b)) { pending = r.frames }) k (as_opened c) a [] more
    (get_map as_opened b.calls k c u.at) u.waits ((u.facts.calls.each k c.core (enter_at v b k c u)).checked u.waits) r.comes
    ∙ ap (λ os. ran (record (ideal_of v b) { opened = os; pending = r.frames }) more)
    (change_at stops_waiting k (map as_opened b.calls) (as_opened c) (get_map as_opened b.calls k c u.at) ∙ sym (map_set as_opened b.calls k (enter_call false c)))

replied_seen : (v : View) (b : Past) (k : ℕ) (c : Call) (queue frames : List (List ℕ)) → At b.calls k c
    → record (watch_of v b) { calls = change_number (enters false) (suc k) (map as_watched b.calls) }
    ≡ watch_of (closed_view (suc k) v.config v.holder queue v) (record b { calls = set b.calls k (enter_call false c); frames = frames })
replied_seen v b k c queue frames h = ap (λ cs. record (watch_of v b) { calls = cs })
    (change_at (enters false) k (map as_watched b.calls) (as_watched c) (get_map as_watched b.calls k c h) ∙ sym (map_set as_watched b.calls k (enter_call false c)))

reply_ok : (p : PartState) (b : Past) (k : ℕ) (c : Call) (a : Answer) → MayEnter (view_of p) b k c → length p.domain.contexts ≡ 17
    → Replied (view_of p) b k c a p.queue → StepKeeps p b (after_admit p (entry_of (suc k) c.core) (admits.Reply a))
unfolding answered_log
reply_ok p b k c a u l r = record {
  counted = λ n x. answered_balance (length (view_of p).dev.ring) (held_at (stage_of p.mode) b.rest) (suc k) p.queue p.queue a n r.takes x;
  after = record b { calls = set b.calls k (enter_call false c); frames = r.frames };
  facts = replied_facts (view_of p) b k c a p.queue u r;
  contexts = l;
  seen = replied_seen (view_of p) b k c p.queue r.frames u.at;
  tracked = tracked_entered b k c (enter_call false c) u.at (left_track c.core);
  shown = replied_shown (view_of p) b k c a p.queue u r (at_number (suc k) (tracks_of (record b { calls = set b.calls k (enter_call false c); frames = r.frames })));
  licensed = r.allowed p.queue (watch_of (view_of (after_admit p (entry_of (suc k) c.core) (admits.Reply a)).state) (record b { calls = set b.calls k (enter_call false c); frames = r.frames }));
}

take_ok : (p : PartState) (b : Past) (k : ℕ) (c : Call) → MayEnter (view_of p) b k c → length p.domain.contexts ≡ 17
    → Replied (view_of p) b k c (answered.Frame (head_of p.queue)) (tail_of p.queue) → StepKeeps p b (after_admit p (entry_of (suc k) c.core) admits.TakeFrame)
unfolding answered_log
take_ok p b k c u l r = record {
  counted = λ n x. answered_balance (length (view_of p).dev.ring) (held_at (stage_of p.mode) b.rest) (suc k) p.queue (tail_of p.queue)
      (answered.Frame (head_of p.queue)) n r.takes x;
  after = record b { calls = set b.calls k (enter_call false c); frames = r.frames };
  facts = replied_facts (view_of p) b k c (answered.Frame (head_of p.queue)) (tail_of p.queue) u r;
  contexts = l;
  seen = replied_seen (view_of p) b k c (tail_of p.queue) r.frames u.at;
  tracked = tracked_entered b k c (enter_call false c) u.at (left_track c.core);
  shown = replied_shown (view_of p) b k c (answered.Frame (head_of p.queue)) (tail_of p.queue) u r (at_number (suc k) (tracks_of (record b { calls = set b.calls k (enter_call false c); frames = r.frames })));
  licensed = refl;
}

-- ---- what the class does, by operation

plain_reply : (v : View) (b : Past) (k : ℕ) (c : Call) (a : Answer) → MayEnter v b k c → is_write c.core.op ≡ false
    → Comes (closes (suc k) (ideal_of v b)) c.core.thread c.core.op a [] (closes (suc k) (ideal_of v b))
    → ((t : _) → kept_blocks a t ≡ []) → ((q : List (List ℕ)) (w : Watch) → allows None q w (suc k) a ≡ true) → TakesFrame a v.queue v.queue → Replied v b k c a v.queue
plain_reply v b k c a u n e t w x = record {
  frames = b.frames;
  plain = n;
  chain = u.facts.chain;
  handed = λ j d h ne i r s. u.facts.handed_up u.running j d h i r s;
  comes = e;
  blocks = t;
  allowed = w;
  takes = x;
}

open_enters : (p : PartState) (b : Past) (k : ℕ) (c : Call) → MayEnter (view_of p) b k (with_op Open c) → length p.domain.contexts ≡ 17
    → (holder : Option ℕ) → p.log.holder ≡ holder → StepKeeps p b (after_admit p (entry_of (suc k) (with_op Open c).core) (admit_open holder))
open_enters p b k c u l None e = enters_ok p b k _ (with_op Open c) u l e
open_enters p b k c u l (Some h) e = reply_ok p b k (with_op Open c) (answered.InUse h) u l
    (plain_reply (view_of p) b k (with_op Open c) (answered.InUse h) u refl
    (record { may = ap (λ x. is_holder x h) e ∙ eq-eqb h h refl; after = refl })
    (λ t. refl) (λ q w. refl) (omega arith))

play_enters : (p : PartState) (b : Past) (k index : ℕ) (samples : List ℕ) (c : Call) → MayEnter (view_of p) b k (with_op (Play samples) c) → length p.domain.contexts ≡ 17
    → (t : Bool) → is_holder p.log.holder c.core.thread ≡ t
    → StepKeeps p b (after_admit p (entry_of (suc k) (with_op (Play samples) c).core) (admit_holder t index))
play_enters p b k index samples c u l true e = enters_ok p b k index (with_op (Play samples) c) u l (is_the_holder p.log.holder c.core.thread e)
play_enters p b k index samples c u l false e = reply_ok p b k (with_op (Play samples) c) answered.NotOpen u l
    (plain_reply (view_of p) b k (with_op (Play samples) c) answered.NotOpen u refl
    (record { may = ap not e; after = refl })
    (λ t. refl) (λ q w. refl) (omega arith))

close_enters : (p : PartState) (b : Past) (k index : ℕ) (c : Call) → MayEnter (view_of p) b k (with_op Close c) → length p.domain.contexts ≡ 17
    → (t : Bool) → is_holder p.log.holder c.core.thread ≡ t
    → StepKeeps p b (after_admit p (entry_of (suc k) (with_op Close c).core) (admit_holder t index))
close_enters p b k index c u l true e = enters_ok p b k index (with_op Close c) u l (is_the_holder p.log.holder c.core.thread e)
close_enters p b k index c u l false e = reply_ok p b k (with_op Close c) answered.NotOpen u l
    (plain_reply (view_of p) b k (with_op Close c) answered.NotOpen u refl
    (record { may = ap not e; after = refl })
    (λ t. refl) (λ q w. refl) (omega arith))

-- a Recv takes the first frame of the queue
recv_takes : (p : PartState) (b : Past) (k : ℕ) (c : Call) → MayEnter (view_of p) b k (with_op Recv c)
    → (queue : List (List ℕ)) → p.queue ≡ queue → eqb (length p.queue) 0 ≡ false
    → Replied (view_of p) b k (with_op Recv c) (answered.Frame (head_of queue)) (tail_of queue)
recv_takes p b k c u [] e n = absurd cc (e, n)
recv_takes p b k c u (frame ∷ queue) e n = taken (sub_front frame (queue ++ (b.rest ++ (view_of p).dev.ring)) b.frames
    (subst (λ q. Sub (q ++ (b.rest ++ (view_of p).dev.ring)) b.frames) e u.facts.chain))
  where
    net : p.spec.class ≡ Net
    net = recv_class p.spec.class p.spec.blocks ((u.facts.calls.each k (with_op Recv c).core (enter_at (view_of p) b k (with_op Recv c) u)).checked u.waits)

    other : (j : ℕ) (d : Call) → At b.calls j d → d.core.inside ≡ true → is_recv d.core.op ≡ true
        → (j ≡ k) ⊎ ((j < k) ⊎ (k < j)) → (j ≡ k → ⊥) → ⊥
    other j d h i r (inl s) ne = ne s
    other j d h i r (inr (inl s)) ne = absurd cc (
      u.free j d.core (get_map core_of b.calls j d h) ((u.facts.calls.each j d.core (get_map core_of b.calls j d h)).opened i) s,
      recvs_conflict p.spec.class Recv d.core.op net refl r,
    )
    other j d h i r (inr (inr s)) ne = absurd cc (
      u.facts.calls.apart k j (with_op Recv c).core d.core (enter_at (view_of p) b k (with_op Recv c) u) (get_map core_of b.calls j d h) s u.waits
          ((u.facts.calls.each j d.core (get_map core_of b.calls j d h)).opened i) ((u.facts.calls.each j d.core (get_map core_of b.calls j d h)).entered i),
      recvs_conflict p.spec.class d.core.op Recv net r refl,
    )

    taken : Taken frame (queue ++ (b.rest ++ (view_of p).dev.ring)) b.frames → Replied (view_of p) b k (with_op Recv c) (answered.Frame frame) queue
    taken t = record {
      frames = t.rest;
      plain = refl;
      chain = t.chain;
      handed = λ j d h ne i r s. absurd (other j d h i r (cases_order j k) ne);
      comes = frame_comes (closes (suc k) (ideal_of (view_of p) b)) c.core.thread frame [] t.rest t.after;
      blocks = λ t. refl;
      allowed = λ q w. refl;
      takes = omega arith ∙ sym (ap length e);
    }

admits_ok : (p : PartState) (b : Past) (k : ℕ) (o : Op) (c : Call) → MayEnter (view_of p) b k (with_op o c) → length p.domain.contexts ≡ 17
    → StepKeeps p b (after_admit p (entry_of (suc k) (with_op o c).core) (admit p.spec.class c.core.thread o p.log.holder (length p.queue)))
admits_ok p b k Recv c u l = split (eqb (length p.queue) 0)
    (λ t. subst (λ x. StepKeeps p b (after_admit p (entry_of (suc k) (with_op Recv c).core) x)) (sym (cond-true (eqb (length p.queue) 0) (admits.Enter (entry_address p.spec.class Recv)) admits.TakeFrame t))
    (enters_ok p b k (entry_address p.spec.class Recv) (with_op Recv c) u l tt))
    (λ t. subst (λ x. StepKeeps p b (after_admit p (entry_of (suc k) (with_op Recv c).core) x)) (sym (cond-false (eqb (length p.queue) 0) (admits.Enter (entry_address p.spec.class Recv)) admits.TakeFrame t))
    (take_ok p b k (with_op Recv c) u l (recv_takes p b k c u p.queue refl t)))
admits_ok p b k Open c u l = open_enters p b k c u l p.log.holder refl
admits_ok p b k (Play samples) c u l = play_enters p b k (entry_address p.spec.class (Play samples)) samples c u l (is_holder p.log.holder c.core.thread) refl
admits_ok p b k Close c u l = close_enters p b k (entry_address p.spec.class Close) c u l (is_holder p.log.holder c.core.thread) refl
admits_ok p b k (Read first count) c u l = enters_ok p b k (entry_address p.spec.class (Read first count)) (with_op (Read first count) c) u l tt
admits_ok p b k (Write first words) c u l = enters_ok p b k (entry_address p.spec.class (Write first words)) (with_op (Write first words) c) u l tt
admits_ok p b k (Send frame) c u l = enters_ok p b k (entry_address p.spec.class (Send frame)) (with_op (Send frame) c) u l tt
admits_ok p b k (Get key) c u l = enters_ok p b k (entry_address p.spec.class (Get key)) (with_op (Get key) c) u l tt
admits_ok p b k (Set key value) c u l = enters_ok p b k (entry_address p.spec.class (Set key value)) (with_op (Set key value) c) u l tt

-- ---- the step

pub running_mode : (m : Mode) → is_running m ≡ true → m ≡ mode.Running
running_mode mode.Running h = refl
running_mode (mode.Boot s) h = absurd cc
running_mode (mode.Recovering s) h = absurd cc
running_mode (mode.Dead collected) h = absurd cc

pub enter_ok : (p : PartState) (b : Past) (t : ℕ) → Facts (view_of p) b → length p.domain.contexts ≡ 17 → can_enter p t ≡ true
    → StepKeeps p b (after_enter t p)
unfolding after_enter
enter_ok p b t f l h = by_call (call_of_thread t p.log.pending) refl parts.1
  where
    parts : (is_running p.mode ≡ true) × (is_ready p (call_of_thread t p.log.pending) ≡ true)
    parts = and_parts (is_running p.mode) (is_ready p (call_of_thread t p.log.pending)) h

    with_call : (e : CallEntry) → is_ready p (Some e) ≡ true → (g : Found 1 (cores b) t e)
        → (c : Call) × At b.calls g.index c × (g.core ≡ core_of c) → StepKeeps p b (entered_by p t (Some e))
    with_call e r g (c, at, s) = subst (λ x. StepKeeps p b (entered_by p t (Some x))) (sym entry)
        (subst (λ n. StepKeeps p b (after_admit p (entry_of (suc g.index) c.core) (admit p.spec.class n c.core.op p.log.holder (length p.queue)))) thread
        (admits_ok p b g.index c.core.op c may l))
      where
        entry : e ≡ entry_of (suc g.index) c.core
        entry = g.entry ∙ ap₂ (λ n x. entry_of n x) (omega arith) s

        thread : c.core.thread ≡ t
        thread = ap (λ x. x.thread) (sym s) ∙ g.mine

        ready : (not c.core.inside ≡ true) × (not (is_blocked p.spec.class (entry_of (suc g.index) c.core) p.log.pending) ≡ true)
        ready = and_parts (not c.core.inside) (not (is_blocked p.spec.class (entry_of (suc g.index) c.core) p.log.pending)) (ap (λ x. is_ready p (Some x)) (sym entry) ∙ r)

        unblocked : list_any (blocks_call p.spec.class (entry_of (suc g.index) c.core)) (open_from 1 (cores b)) ≡ false
        unblocked = ap (λ q. list_any (blocks_call p.spec.class (entry_of (suc g.index) c.core)) q) (sym f.pending)
            ∙ not-true (is_blocked p.spec.class (entry_of (suc g.index) c.core) p.log.pending) ready.1

        may : MayEnter (view_of p) b g.index c
        may = record {
          facts = f;
          running = running_mode p.mode parts.0;
          at = at;
          waits = ap (λ x. x.waits) (sym s) ∙ g.waits;
          held = not-true c.core.inside ready.0;
          free = λ j d i w n. open_apart p.spec.class (entry_of (suc g.index) c.core) 1 (cores b) unblocked j d i w (lt-ltb (1 + j) (suc g.index) (omega (arith, n)));
        }

    by_call : (x : Option CallEntry) → call_of_thread t p.log.pending ≡ x → is_ready p x ≡ true → StepKeeps p b (entered_by p t x)
    by_call None q r = absurd cc
    by_call (Some e) q r = with_found (open_find 1 (cores b) t e (ap (find (is_of_thread t)) (sym f.pending) ∙ q))
      where
        with_found : Found 1 (cores b) t e → StepKeeps p b (entered_by p t (Some e))
        with_found g = with_call e r g (from_map core_of b.calls g.index g.core g.at)
