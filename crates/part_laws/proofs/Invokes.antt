use Rattle.std.proofs.Common.{◌≡◌, ◌<◌, ◌⊎◌, ℕ, suc, ◌+◌, ◌&&◌, cond, eqb, not, Bool, true, false, Option, Some, None, is_none, List, [], ◌∷◌, ◌++◌, map, length, slice_index, sym, refl, ap, ap₂, subst, ◌∙◌, inl, inr, arith, nat_lt, nat_le, append-nil, length-append}
use Rattle.std.specs.List.{find, list_any}
use Rattle.std.proofs.lemmas.Bool.{and_parts, and_from, eq-eqb, ltb-true}
use Rattle.nook_data.specs.declared.calls.Answer.{Answer}
use Rattle.nook_data.specs.declared.calls.Answer.TheVariants as answered
use Rattle.nook_data.specs.declared.calls.CallEntry.{CallEntry}
use Rattle.nook_data.specs.declared.classes.Class.{Class}
use Rattle.nook_data.specs.declared.steps.Mode.{Mode}
use Rattle.nook_data.specs.declared.steps.Mode.TheVariants as mode
use Rattle.nook_data.specs.declared.calls.Op.{Op}
use Rattle.nook_data.specs.declared.calls.Op.TheVariants.{Read, Write, Send, Recv, Open, Play, Close, Get, Set}
use Rattle.nook_data.specs.declared.steps.Stage.{Stage}
use Rattle.part_defs.specs.Calls.{answer_in, queue_in, invoked_with, after_invoke}
use Rattle.nook_data.specs.Classes.{is_of_class, is_recv, check_op, check_range, is_block_length, maximum_of}
use Rattle.nook_data.specs.Classes.{static_check}
use Rattle.part_laws.specs.Watch.{Watch}
use Rattle.promise_defs.specs.Ideal.{Ideal, Opened, ran, after_answer, is_due, may_call, same_refusal}
use Rattle.promise_defs.proofs.PromiseChanges.{waits_for, opens, stops_waiting, first_track}
use Rattle.part_laws.specs.Allowed.{allows}
use Rattle.part_defs.specs.Log.{call_of_thread, with_call, with_answered_call, shadow_answer, queue_after}
use Rattle.promise_defs.proofs.PromiseCases.{closes}
use Rattle.part_defs.proofs.PartCases.{invoked_by, is_of_thread, new_entry}
use Rattle.nook_data.specs.Numbered.{at_number, change_number}
use Rattle.part_defs.specs.State.{PartState}
use Rattle.part_defs.specs.Steps.{can_invoke}
use Rattle.promise_defs.specs.Trace.{Visible, Track, called, answer, kept_blocks}
use Rattle.nook_data.specs.Frames.{is_empty}
use Rattle.part_laws.specs.Counts.{counted}
use Rattle.part_laws.specs.Balance.{held_at}
use Rattle.part_laws.specs.Facts.{At, CallsFacts, DiskFacts, HolderFits, IsSetting, KeyIn, Sub, may_be_inside, is_dead, Facts}
use Rattle.part_laws.specs.Moves.{new_core, made_call}
use Rattle.part_laws.specs.Views.{View, Past, Core, Call, core_of, cores, entry_of, keep_waiting, open_from, stage_of, view_of, as_watched, as_opened, as_track, watch_of, ideal_of, tracks_of}
use Rattle.part_laws.proofs.Acts.{ran_step, when_true, key_forward}
use Rattle.part_laws.proofs.Balances.{TakesFrame, answered_balance}
use Rattle.part_laws.proofs.Closing.{comes_due, due_shown}
use Rattle.part_laws.proofs.Keeping.{calls_push, disk_same, writes_push}
use Rattle.part_laws.proofs.OpenCalls.{open_none, none_waits, open_push}
use Rattle.part_laws.proofs.Indices.{get_push, get_keep, get_mid, set_mid, map_push, length_map, change_at}
use Rattle.part_laws.proofs.Shadow.{ShadowSays, shadow_says}
use Rattle.part_laws.proofs.Stages.{with_mode}
use Rattle.part_laws.specs.Recovery.{StepKeeps}
use Rattle.part_laws.specs.Allowed.{recovery_stage}

-- A thread invokes an operation.

-- ---- what the static check answers

-- an answer of the static check
abbrev Refuses : Option Answer → Type 0
Refuses None = Unit {0}
Refuses (Some a) = same_refusal a a ≡ true

either : (t : Bool) (x y : Option Answer) → Refuses x → Refuses y → Refuses (cond t x y)
either true x y h i = h
either false x y h i = i

op_refuses : (class : Class) (size : ℕ) (o : Op) → Refuses (check_op class size o)
op_refuses class size (Read first count) = either (nat_le 1 count && nat_le count 8) (check_range size first count) (Some answered.BadLength)
    (either (nat_le (first + count) size) None (Some answered.BadRange) tt refl) refl
op_refuses class size (Write first words) = either (is_block_length (length words)) (check_range size first _) (Some answered.BadLength)
    (either (nat_le (first + _) size) None (Some answered.BadRange) tt refl) refl
op_refuses class size (Send frame) = either (nat_le 1 (length frame) && nat_le (length frame) 64) None (Some answered.BadLength) tt refl
op_refuses class size Recv = tt
op_refuses class size Open = tt
op_refuses class size (Play samples) = either (nat_le 1 (length samples) && nat_le (length samples) 64) None (Some answered.BadLength) tt refl
op_refuses class size Close = tt
op_refuses class size (Get key) = either (nat_le key 3) None (Some answered.BadKey) tt refl
op_refuses class size (Set key value) = either (nat_le key 3) (cond (nat_le value (maximum_of class key)) None (Some answered.BadValue)) (Some answered.BadKey)
    (either (nat_le value (maximum_of class key)) None (Some answered.BadValue) tt refl) refl

refuses : (class : Class) (size : ℕ) (o : Op) → Refuses (static_check class size o)
refuses class size o = either (is_of_class class o) (check_op class size o) (Some answered.BadClass) (op_refuses class size o) refl

-- a proof by the answers that the static check may give
by_refusal : (P : Answer → Type 0) (a : Answer) → same_refusal a a ≡ true → P answered.BadClass → P answered.BadLength
    → P answered.BadRange → P answered.BadKey → P answered.BadValue → P a
by_refusal P answered.BadClass h c l r k v = c
by_refusal P answered.BadLength h c l r k v = l
by_refusal P answered.BadRange h c l r k v = r
by_refusal P answered.BadKey h c l r k v = k
by_refusal P answered.BadValue h c l r k v = v
by_refusal P answered.Done h c l r k v = absurd cc
by_refusal P (answered.Blocks words) h c l r k v = absurd cc
by_refusal P (answered.Value word) h c l r k v = absurd cc
by_refusal P (answered.Frame frame) h c l r k v = absurd cc
by_refusal P answered.Empty h c l r k v = absurd cc
by_refusal P (answered.Busy stage) h c l r k v = absurd cc
by_refusal P (answered.InUse holder) h c l r k v = absurd cc
by_refusal P answered.NotOpen h c l r k v = absurd cc
by_refusal P (answered.IoError block) h c l r k v = absurd cc
by_refusal P (answered.Gone failures) h c l r k v = absurd cc

refusal_allowed : (s : Option Stage) (q : List (List ℕ)) (w : Watch) (n : ℕ) (a : Answer) → same_refusal a a ≡ true → allows s q w n a ≡ true
refusal_allowed s q w n a h = by_refusal (λ a. allows s q w n a ≡ true) a h refl refl refl refl refl

-- it takes no frame
refusal_takes : (q : List (List ℕ)) (a : Answer) → same_refusal a a ≡ true → TakesFrame a q q
refusal_takes q a h = by_refusal (λ a. TakesFrame a q q) a h (omega arith) (omega arith) (omega arith) (omega arith) (omega arith)

-- the never-failing device gives it too, and does not change
refusal_due : (m : Ideal) (o : Opened) (a : Answer) → static_check m.class m.size o.op ≡ Some a → same_refusal a a ≡ true → is_due m o a ≡ true
refusal_due m o a e h = rw (e, is_due) h

refusal_leaves : (m : Ideal) (thread : ℕ) (o : Op) (stored : List ℕ) (a : Answer) → same_refusal a a ≡ true → after_answer m thread o a stored ≡ m
refusal_leaves m thread (Read first count) stored a h =
    by_refusal (λ a. after_answer m thread (Read first count) a stored ≡ m) a h refl refl refl refl refl
refusal_leaves m thread (Write first words) stored a h =
    by_refusal (λ a. after_answer m thread (Write first words) a stored ≡ m) a h refl refl refl refl refl
refusal_leaves m thread (Send frame) stored a h =
    by_refusal (λ a. after_answer m thread (Send frame) a stored ≡ m) a h refl refl refl refl refl
refusal_leaves m thread Recv stored a h =
    by_refusal (λ a. after_answer m thread Recv a stored ≡ m) a h refl refl refl refl refl
refusal_leaves m thread Open stored a h =
    by_refusal (λ a. after_answer m thread Open a stored ≡ m) a h refl refl refl refl refl
refusal_leaves m thread (Play samples) stored a h =
    by_refusal (λ a. after_answer m thread (Play samples) a stored ≡ m) a h refl refl refl refl refl
refusal_leaves m thread Close stored a h =
    by_refusal (λ a. after_answer m thread Close a stored ≡ m) a h refl refl refl refl refl
refusal_leaves m thread (Get key) stored a h =
    by_refusal (λ a. after_answer m thread (Get key) a stored ≡ m) a h refl refl refl refl refl
refusal_leaves m thread (Set key value) stored a h =
    by_refusal (λ a. after_answer m thread (Set key value) a stored ≡ m) a h refl refl refl refl refl

-- ---- the facts after a call is made

abbrev made_past : ℕ → Op → Bool → List (List ℕ) → Past → Past
made_past t o w frames b = record b { calls = b.calls ++ made_call t o w ∷ []; frames = frames }

abbrev made_view : List CallEntry → List (List ℕ) → View → View
made_view pending queue v = record v { pending = pending; count = v.count + 1; queue = queue }

made_facts : (v : View) (b : Past) (t : ℕ) (o : Op) (w : Bool) (pending : List CallEntry) (queue frames : List (List ℕ)) → Facts v b
    → t < 16 → (w ≡ true → static_check v.class v.size o ≡ None)
    → ((k : ℕ) (c : Core) → At (cores b) k c → c.waits ≡ true → c.thread ≡ t → ⊥)
    → pending ≡ v.pending ++ keep_waiting w (entry_of (v.count + 1) (new_core t o w)) []
    → Sub (queue ++ (b.rest ++ v.dev.ring)) frames → (v.mode ≡ mode.Running → queue ≡ v.queue)
    → Facts (made_view pending queue v) (made_past t o w frames b)
made_facts v b t o w pending queue frames f small checked alone p chain running = record {
  linked = f.linked;
  width = f.width;
  keys = f.keys;
  defaults = f.defaults;
  pending = p
      ∙ ap₂ (λ l n. l ++ keep_waiting w (entry_of n (new_core t o w)) []) f.pending (omega (arith, f.count, length_map core_of b.calls))
      ∙ sym (open_push 1 (cores b) (new_core t o w)) ∙ ap (open_from 1) (sym same);
  count = omega (arith, f.count, length-append b.calls (made_call t o w ∷ []));
  calls = subst (λ cs. CallsFacts v.class v.size cs) (sym same) (calls_push v.class v.size (cores b) f.calls t o w small checked alone);
  disk = subst (λ cs. DiskFacts cs b.blocks v.dev.medium) (sym same)
      (disk_same (cores b) (cores b ++ new_core t o w ∷ []) b.blocks v.dev.medium (writes_push (cores b) t o w) f.disk);
  holders = λ k c h i. holders k c i (get_push (cores b) k (new_core t o w) c (subst (λ cs. At cs k c) same h));
  registers = λ key. subst (λ cs. KeyIn cs v.config v.defaults v.driven v.mode key (slice_index v.dev.registers key)) (sym same)
      (key_forward (cores b) (cores b ++ new_core t o w ∷ []) v.config v.defaults v.driven v.mode key (slice_index v.dev.registers key)
      (setting key (slice_index v.dev.registers key)) (f.registers key));
  replay = f.replay;
  booting = f.booting;
  chain = chain;
  handed_up = λ m k c h i r u. handed m k c i r u (get_push b.calls k (made_call t o w) c h);
  insides = λ k c h i. inside k c i (get_push (cores b) k (new_core t o w) c (subst (λ cs. At cs k c) same h));
  driving = f.driving;
}
  where
    same : map core_of (b.calls ++ made_call t o w ∷ []) ≡ cores b ++ new_core t o w ∷ []
    same = map_push core_of b.calls (made_call t o w)

    holders : (k : ℕ) (c : Core) → c.inside ≡ true → At (cores b) k c ⊎ ((k ≡ length (cores b)) × (c ≡ new_core t o w)) → HolderFits v.holder c.thread c.op
    holders k c i (inl h) = f.holders k c h i
    holders k c i (inr h) = absurd cc (ap (λ x. x.inside) h.1, i)

    inside : (k : ℕ) (c : Core) → c.inside ≡ true → At (cores b) k c ⊎ ((k ≡ length (cores b)) × (c ≡ new_core t o w)) → may_be_inside v.mode ≡ true
    inside k c i (inl h) = f.insides k c h i
    inside k c i (inr h) = absurd cc (ap (λ x. x.inside) h.1, i)

    handed : v.mode ≡ mode.Running → (k : ℕ) (c : Call) → c.core.inside ≡ true → is_recv c.core.op ≡ true → c.handed ≡ true
        → At b.calls k c ⊎ ((k ≡ length b.calls) × (c ≡ made_call t o w)) → is_empty queue ≡ false
    handed m k c i r u (inl h) = ap is_empty (running m) ∙ f.handed_up m k c h i r u
    handed m k c i r u (inr h) = absurd cc (ap (λ x. x.core.inside) h.1, i)

    setting : (key value : ℕ) → IsSetting (cores b) key value → IsSetting (cores b ++ new_core t o w ∷ []) key value
    setting key value s = record
        { index = s.index; call = s.call; at = get_keep (cores b) (new_core t o w ∷ []) s.index s.call s.at; inside = s.inside; sets = s.sets }

-- ---- what is shown

-- the device takes a call
called_shown : (v : View) (b : Past) (t : ℕ) (o : Op) (more : List Visible) → v.count ≡ length b.calls
    → ((k : ℕ) (c : Core) → At (cores b) k c → c.waits ≡ true → c.thread ≡ t → ⊥)
    → ran (ideal_of v b) (called (v.count + 1) t o ∷ more) ≡ ran (record (ideal_of v b) { opened = map as_opened b.calls ++ opens t o ∷ [] }) more
called_shown v b t o more n alone = ran_step (ideal_of v b) (record (ideal_of v b) { opened = map as_opened b.calls ++ opens t o ∷ [] }) (called (v.count + 1) t o) more
    (when_true (may_call (v.count + 1) t (map as_opened b.calls)) (record (ideal_of v b) { opened = map as_opened b.calls ++ opens t o ∷ [] })
    (and_from (eqb (v.count + 1) (suc (length (map as_opened b.calls)))) (not (list_any (waits_for t) (map as_opened b.calls)))
    (eq-eqb (v.count + 1) (suc (length (map as_opened b.calls))) (omega (arith, n, length_map as_opened b.calls)))
    (ap not (none_waits t b.calls alone))))

-- the call is answered at once
closed_made : (v : View) (b : Past) (t : ℕ) (o : Op)
    → change_number stops_waiting (suc (length (map as_opened b.calls))) (map as_opened b.calls ++ opens t o ∷ []) ≡ map as_opened (b.calls ++ made_call t o false ∷ [])
closed_made v b t o =
    change_at stops_waiting (length (map as_opened b.calls)) (map as_opened b.calls ++ opens t o ∷ []) (opens t o) (get_mid (map as_opened b.calls) [] (opens t o))
    ∙ set_mid (map as_opened b.calls) [] (opens t o) (stops_waiting (opens t o))
    ∙ sym (map_push as_opened b.calls (made_call t o false))

-- ---- the step

-- what holds if a thread may invoke
pub record MayInvoke (v : View) (b : Past) (t : ℕ) : Type 0 where
  pub facts : Facts v b
  pub small : t < 16
  pub alone : (k : ℕ) (c : Core) → At (cores b) k c → c.waits ≡ true → c.thread ≡ t → ⊥

pub may_invoke : (p : PartState) (b : Past) (t : ℕ) → Facts (view_of p) b → can_invoke p t ≡ true → MayInvoke (view_of p) b t
may_invoke p b t f h = record {
  facts = f;
  small = ltb-true t 16 parts.0;
  alone = open_none 1 (cores b) t (by_none (find (is_of_thread t) (open_from 1 (cores b)))
      (ap (λ l. is_none (find (is_of_thread t) l)) (sym f.pending) ∙ parts.1));
}
  where
    parts : (nat_lt t 16 ≡ true) × (is_none (call_of_thread t p.log.pending) ≡ true)
    parts = and_parts (nat_lt t 16) (is_none (call_of_thread t p.log.pending))
        (and_parts (nat_lt t 16 && is_none (call_of_thread t p.log.pending)) (nat_lt p.log.count 100000) h).0

    by_none : (x : Option CallEntry) → is_none x ≡ true → x ≡ None
    by_none None h = refl
    by_none (Some e) h = absurd cc

-- the call stays open
held_ok : (p : PartState) (b : Past) (t : ℕ) (o : Op) → MayInvoke (view_of p) b t → static_check p.spec.class p.spec.blocks o ≡ None
    → length p.domain.contexts ≡ 17 → StepKeeps p b (invoked_with p t o None p.queue)
unfolding with_call
held_ok p b t o u e l = record {
  counted = λ n x. x;
  after = made_past t o true b.frames b;
  facts = made_facts (view_of p) b t o true (p.log.pending ++ new_entry (p.log.count + 1) t o ∷ []) p.queue b.frames u.facts u.small (λ w. e) u.alone refl u.facts.chain (λ m. refl);
  contexts = l;
  seen = ap (λ cs. record (watch_of (view_of p) b) { calls = cs }) (sym (map_push as_watched b.calls (made_call t o true)));
  tracked = tracked;
  shown = λ more. called_shown (view_of p) b t o more u.facts.count u.alone
      ∙ ap (λ os. ran (record (ideal_of (view_of p) b) { opened = os }) more) (sym (map_push as_opened b.calls (made_call t o true)));
  licensed = refl;
}
  where
    tracked : tracks_of b ++ first_track o ∷ [] ≡ map as_track (map core_of (b.calls ++ made_call t o true ∷ []))
    tracked = sym (ap (map as_track) (map_push core_of b.calls (made_call t o true)) ∙ map_push as_track (cores b) (new_core t o true))

-- the never-failing device, with the call made and closed
abbrev made_device : PartState → Past → ℕ → Op → Ideal
made_device p b t o = closes (suc (length (map as_opened b.calls)))
    (record (ideal_of (view_of p) b) { opened = map as_opened b.calls ++ opens t o ∷ [] })

-- the call is answered at once
answered_ok : (p : PartState) (b : Past) (t : ℕ) (o : Op) (a : Answer) (queue frames : List (List ℕ)) → MayInvoke (view_of p) b t
    → length p.domain.contexts ≡ 17 → Sub (queue ++ (b.rest ++ (view_of p).dev.ring)) frames → (p.mode ≡ mode.Running → queue ≡ p.queue)
    → is_due (made_device p b t o) (opens t o) a ≡ true
    → (after_answer (made_device p b t o) t o a
    (kept_blocks a (at_number (p.log.count + 1) (map as_track (map core_of (b.calls ++ made_call t o false ∷ [])))))
    ≡ record (made_device p b t o) { pending = frames })
    → ((w : Watch) → allows (recovery_stage p.mode) p.queue w (p.log.count + 1) a ≡ true) → TakesFrame a p.queue queue
    → StepKeeps p b (invoked_with p t o (Some a) queue)
unfolding with_answered_call
answered_ok p b t o a queue frames u l chain running due after allowed takes = record {
  counted = λ n x. answered_balance (length (view_of p).dev.ring) (held_at (stage_of p.mode) b.rest) (p.log.count + 1) p.queue queue a
      (record n { calls = n.calls ++ counted o ∷ [] }) takes x;
  after = made_past t o false frames b;
  facts = made_facts (view_of p) b t o false p.log.pending queue frames u.facts u.small (λ w. absurd cc) u.alone (sym (append-nil p.log.pending)) chain running;
  contexts = l;
  seen = ap (λ cs. record (watch_of (view_of p) b) { calls = cs }) (sym (map_push as_watched b.calls (made_call t o false)));
  tracked = sym (ap (map as_track) (map_push core_of b.calls (made_call t o false)) ∙ map_push as_track (cores b) (new_core t o false));
  shown = λ more. called_shown (view_of p) b t o (answer (p.log.count + 1) a kept ∷ more) u.facts.count u.alone
      ∙ ap (λ n. ran now (answer n a kept ∷ more)) number
      ∙ due_shown now then (length (map as_opened b.calls)) (opens t o) a kept more (get_mid (map as_opened b.calls) [] (opens t o)) refl due after
      ∙ ap (λ os. ran (record (ideal_of (view_of p) b) { opened = os; pending = frames }) more) (closed_made (view_of p) b t o);
  licensed = allowed (watch_of (view_of (invoked_with p t o (Some a) queue).state) (made_past t o false frames b));
}
  where
    now : Ideal
    now = record (ideal_of (view_of p) b) { opened = map as_opened b.calls ++ opens t o ∷ [] }

    then : Ideal
    then = record (made_device p b t o) { pending = frames }

    kept : List ℕ
    kept = kept_blocks a (at_number (p.log.count + 1) (map as_track (map core_of (b.calls ++ made_call t o false ∷ []))))

    number : p.log.count + 1 ≡ suc (length (map as_opened b.calls))
    number = omega (arith, u.facts.count, length_map as_opened b.calls)

-- the shadow answers or holds the call
shadow_step : (p : PartState) (b : Past) (t : ℕ) (o : Op) (s : Stage) → MayInvoke (view_of p) b t → static_check p.spec.class p.spec.blocks o ≡ None
    → length p.domain.contexts ≡ 17 → (p.mode ≡ mode.Running → ⊥) → recovery_stage p.mode ≡ Some s
    → (r : Option Answer) → ShadowSays (made_device p b t o) t o s p.queue (b.rest ++ (view_of p).dev.ring) r
    → StepKeeps p b (invoked_with p t o r (queue_after o p.queue))
shadow_step p b t o s u e l n m None (k, q) = subst (λ x. StepKeeps p b (invoked_with p t o None x)) (sym q) (held_ok p b t o u e l)
shadow_step p b t o s u e l n m (Some a) g = answered_ok p b t o a (queue_after o p.queue) g.frames u l g.chain (λ r. absurd (n r))
    (comes_due (made_device p b t o) (opens t o) a e g.comes.may) (ap (after_answer (made_device p b t o) t o a) (g.blocks track) ∙ g.comes.after)
    (λ w. ap (λ x. allows x p.queue w (p.log.count + 1) a) m ∙ g.allowed p.queue w (p.log.count + 1)) g.counted
  where
    track : Option Track
    track = at_number (p.log.count + 1) (map as_track (map core_of (b.calls ++ made_call t o false ∷ [])))

checked_step : (m : Mode) (p : PartState) (b : Past) (t : ℕ) (o : Op) → MayInvoke (view_of (with_mode m p)) b t → static_check p.spec.class p.spec.blocks o ≡ None
    → length p.domain.contexts ≡ 17 → is_dead m ≡ false
    → StepKeeps (with_mode m p) b (invoked_with (with_mode m p) t o (answer_in m t o (with_mode m p)) (queue_in m o p.queue))
checked_step (mode.Boot s) p b t o u e l d = held_ok (with_mode (mode.Boot s) p) b t o u e l
checked_step mode.Running p b t o u e l d = held_ok (with_mode mode.Running p) b t o u e l
checked_step (mode.Dead collected) p b t o u e l d = absurd cc
checked_step (mode.Recovering s) p b t o u e l d = shadow_step (with_mode (mode.Recovering s) p) b t o s u e l (λ r. absurd cc) refl
    (shadow_answer o t p.log.config p.log.holder s p.queue)
    (shadow_says (made_device (with_mode (mode.Recovering s) p) b t o)
    t o s p.queue (b.rest ++ (view_of p).dev.ring) u.facts.chain)

pub invoke_ok : (p : PartState) (b : Past) (t : ℕ) (o : Op) → Facts (view_of p) b → length p.domain.contexts ≡ 17 → is_dead p.mode ≡ false
    → can_invoke p t ≡ true → StepKeeps p b (after_invoke t o p)
unfolding after_invoke
invoke_ok p b t o f l d h = by_check (static_check p.spec.class p.spec.blocks o) refl
  where
    u : MayInvoke (view_of p) b t
    u = may_invoke p b t f h

    by_check : (r : Option Answer) → static_check p.spec.class p.spec.blocks o ≡ r → StepKeeps p b (invoked_by p t o r)
    by_check None e = checked_step p.mode p b t o u e l d
    by_check (Some a) e = answered_ok p b t o a p.queue b.frames u l f.chain (λ m. refl)
        (refusal_due (made_device p b t o) (opens t o) a e same)
        (refusal_leaves (made_device p b t o) t o _ a same)
        (λ w. refusal_allowed (recovery_stage p.mode) p.queue w (p.log.count + 1) a same)
        (refusal_takes p.queue a same)
      where
        same : same_refusal a a ≡ true
        same = subst Refuses e (refuses p.spec.class p.spec.blocks o)
