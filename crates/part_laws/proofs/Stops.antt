use Rattle.std.proofs.Common.{◌≡◌, ℕ, suc, ◌&&◌, Bool, true, false, Option, Some, None, List, [], ◌∷◌, ◌++◌, map, length, sym, refl, ap, subst, ◌∙◌, arith, append_assoc, length-append}
use Rattle.std.proofs.lemmas.Bool.{and_parts, and_from}
use Rattle.nook_data.specs.declared.calls.Answer.{Answer}
use Rattle.nook_data.specs.declared.calls.CallEntry.{CallEntry}
use Rattle.nook_data.specs.declared.calls.Op.{Op}
use Rattle.nook_data.specs.declared.calls.Op.TheVariants.{Read, Write, Send, Recv, Open, Play, Close, Get, Set}
use Rattle.nook_data.specs.declared.steps.Stage.TheVariants as stage
use Rattle.nook_data.specs.Classes.{is_write, static_check}
use Rattle.part_laws.specs.Watch.{Watch, leaves}
use Rattle.part_defs.specs.Domain.{stopped_domain}
use Rattle.promise_defs.specs.Ideal.{Ideal, Opened, ran}
use Rattle.promise_defs.proofs.PromiseChanges.{stops_waiting}
use Rattle.part_laws.specs.Allowed.{allows, allows_each}
use Rattle.part_defs.specs.Log.{shadow_answer, is_held, queue_after, with_answer, stop_answers, stop_queue}
use Rattle.promise_defs.proofs.PromiseCases.{closes}
use Rattle.part_defs.proofs.PartCases.{stop_calls}
use Rattle.nook_data.specs.Numbered.{at_number, change_number}
use Rattle.part_defs.specs.Stages.{stops}
use Rattle.part_defs.specs.State.{PartState}
use Rattle.part_defs.specs.Steps.{is_driven}
use Rattle.promise_defs.specs.Trace.{Visible, Track, answer, kept_blocks, shown_answers}
use Rattle.part_laws.specs.Counts.{Counts, count_answer, count_answers}
use Rattle.part_laws.specs.Balance.{frame_counts, held_at, Balance}
use Rattle.part_laws.specs.Recovery.{StepKeeps}
use Rattle.part_laws.specs.Facts.{At, CallsFacts, DiskFacts, Sub, is_once, Facts}
use Rattle.part_laws.specs.Moves.{stop_core, with_core}
use Rattle.part_laws.specs.Views.{Past, Core, Call, core_of, cores, entry_of, keep_waiting, open_from, stage_of, replay_of, view_of, as_watched, as_opened, as_track, watch_of, ideal_of, tracks_of}
use Rattle.part_laws.proofs.Balances.{answered_balance}
use Rattle.part_laws.proofs.Closing.{Comes, answer_shown}
use Rattle.part_laws.proofs.Keeping.{Less, AllLess, calls_less, SameWrite, SameWrites, disk_same}
use Rattle.part_laws.proofs.OpenCalls.{open_stop}
use Rattle.part_laws.proofs.Indices.{get_map, from_map, get_mid, set_mid, map_swap, map_join, length_map, change_at}
use Rattle.part_laws.proofs.Shadow.{ShadowSays, shadow_says}

-- Stop: the shadow's table answers or holds each open call.

-- ---- the calls

once_kept : (o : Op) → is_once o ≡ true → is_held o ≡ true → ⊥
unfolding shadow_answer
once_kept (Read first count) h i = absurd cc
once_kept (Write first words) h i = absurd cc
once_kept (Send frame) h i = absurd cc
once_kept Recv h i = absurd cc
once_kept Open h i = absurd cc
once_kept (Play samples) h i = absurd cc
once_kept Close h i = absurd cc
once_kept (Get key) h i = absurd cc
once_kept (Set key value) h i = absurd cc

write_kept : (o : Op) → is_write o ≡ true → is_held o ≡ true
unfolding shadow_answer
write_kept (Write first words) h = refl
write_kept (Read first count) h = refl
write_kept (Send frame) h = absurd cc
write_kept Recv h = absurd cc
write_kept Open h = absurd cc
write_kept (Play samples) h = absurd cc
write_kept Close h = refl
write_kept (Get key) h = absurd cc
write_kept (Set key value) h = refl

stop_less : (c : Core) → Less c (stop_core c)
stop_less c = record {
  thread = refl;
  op = refl;
  waits = λ w. (and_parts c.waits (is_held c.op) w).0;
  inside = λ i. absurd cc;
  opened = λ i. absurd cc;
  attempts = λ w. refl;
  once = λ o w i. absurd (once_kept c.op o (and_parts c.waits (is_held c.op) w).1);
}

all_stop_less : (cs : List Core) → AllLess cs (map stop_core cs)
all_stop_less cs k d h = by_call (from_map stop_core cs k d h)
  where
    by_call : (c : Core) × At cs k c × (d ≡ stop_core c) → (c : Core) × At cs k c × Less c d
    by_call (c, i, e) = (c, i, subst (λ x. Less c x) (sym e) (stop_less c))

stop_writes : (cs : List Core) → SameWrites cs (map stop_core cs)
stop_writes cs = record {
  forward = λ k c h w i. (
    stop_core c,
    get_map stop_core cs k c h,
    record
        { waits = and_from c.waits (is_held c.op) w (write_kept c.op i); op = refl; entered = λ a. a; stored = refl },
  );
  back = λ k d n h w i s. by_call k d w (from_map stop_core cs k d h);
}
  where
    by_call : (k : ℕ) (d : Core) → d.waits ≡ true → (c : Core) × At cs k c × (d ≡ stop_core c)
        → (c : Core) × At cs k c × (c.waits ≡ true) × SameWrite c d
    by_call k d w (c, g, e) = (
      c,
      g,
      (and_parts c.waits (is_held c.op) (ap (λ x. x.waits) (sym e) ∙ w)).0,
      subst (λ x. SameWrite c x) (sym e) (record
          { waits = ap (λ x. x.waits) (sym e) ∙ w; op = refl; entered = λ a. a; stored = refl }),
    )

none_inside : (cs : List Core) (k : ℕ) (d : Core) → At (map stop_core cs) k d → d.inside ≡ true → ⊥
none_inside cs k d h i = by_call (from_map stop_core cs k d h)
  where
    by_call : (c : Core) × At cs k c × (d ≡ stop_core c) → ⊥
    by_call (c, g, e) = absurd cc (ap (λ x. x.inside) e, i)

-- ---- the answers in order

abbrev pub stop_call : Call → Call
stop_call c = with_core stop_core c

abbrev with_opened : Ideal → List Opened → List (List ℕ) → Ideal
with_opened m opened frames = record m { opened = opened; pending = frames }

-- the device's open calls, answered as the entries say, become the target
pub record Stopped (m : Ideal) (opened : List Opened) (entries : List CallEntry) (queue tail frames : List (List ℕ)) (ts : List Track)
    (target : List Opened) : Type 0 where
  pub left : List (List ℕ)
  pub chain : Sub (stop_queue entries queue ++ tail) left
  pub shown : (more : List Visible)
      → ran (with_opened m opened frames) (shown_answers (stop_answers entries m.config m.holder queue) ts ++ more)
      ≡ ran (with_opened m target left) more
  pub allowed : (q : List (List ℕ)) (w : Watch) → allows_each (Some stage.Stop) q w (stop_answers entries m.config m.holder queue) ≡ true
  pub counted : (ring held : ℕ) (t : Counts) → Balance ring (length queue) held (frame_counts t)
      → Balance ring (length (stop_queue entries queue)) held (frame_counts (count_answers (stop_answers entries m.config m.holder queue) t))

move_front : (front : List Opened) (o : Opened) (os : List Opened) → (front ++ o ∷ []) ++ os ≡ front ++ (o ∷ os)
move_front front o os = append_assoc front (o ∷ []) os

-- what the later calls become, if the call before them does not change
past_call : (m : Ideal) (front : List Opened) (o o' : Opened) (os os' : List Opened) (es : List CallEntry) (queue tail frames : List (List ℕ)) (ts : List Track)
    → o ≡ o' → Stopped m ((front ++ o' ∷ []) ++ os) es queue tail frames ts ((front ++ o' ∷ []) ++ os')
    → Stopped m (front ++ (o ∷ os)) es queue tail frames ts (front ++ (o' ∷ os'))
past_call m front o o' os os' es queue tail frames ts e s =
    subst (λ l. Stopped m l es queue tail frames ts (front ++ (o' ∷ os'))) (move_front front o' os ∙ ap (λ x. front ++ (x ∷ os)) (sym e))
    (subst (λ l. Stopped m ((front ++ o' ∷ []) ++ os) es queue tail frames ts l) (move_front front o' os') s)

-- the first call is answered or held
one_stop : (m : Ideal) (front : List Opened) (n : ℕ) (c : Core) (o : Opened) (os os' : List Opened) (es : List CallEntry) (queue tail frames : List (List ℕ))
    (ts : List Track) → n ≡ suc (length front) → o.thread ≡ c.thread → o.op ≡ c.op → o.waits ≡ true → static_check m.class m.size o.op ≡ None
    → (r : Option Answer) → shadow_answer c.op c.thread m.config m.holder stage.Stop queue ≡ r
    → ShadowSays (closes n (with_opened m (front ++ (o ∷ os)) frames)) c.thread c.op stage.Stop queue tail r
    → ((o' : Opened) → o' ≡ record o { waits = is_held c.op } → (queue frames : List (List ℕ)) → Sub (queue ++ tail) frames
    → Stopped m ((front ++ o' ∷ []) ++ os) es queue tail frames ts ((front ++ o' ∷ []) ++ os'))
    → Sub (queue ++ tail) frames
    → Stopped m (front ++ (o ∷ os)) (entry_of n c ∷ es) queue tail frames ts (front ++ (record o { waits = is_held c.op } ∷ os'))
one_stop m front n c o os os' es queue tail frames ts e et eo w ch None a s later chain = record {
  left = next.left;
  chain = next.chain;
  shown = λ more. ap (λ l. ran (with_opened m (front ++ (o ∷ os)) frames) (shown_answers (with_answer n l (stop_answers es m.config m.holder (queue_after c.op queue))) ts ++ more)) a
      ∙ next.shown more;
  allowed = λ q v. ap (λ l. allows_each (Some stage.Stop) q v (with_answer n l (stop_answers es m.config m.holder (queue_after c.op queue)))) a ∙ next.allowed q v;
  counted = λ ring held t x. subst (λ l. Balance ring (length (stop_queue es (queue_after c.op queue))) held (frame_counts (count_answers (with_answer n l (stop_answers es m.config m.holder (queue_after c.op queue))) t))) (sym a)
      (next.counted ring held t (subst (λ l. Balance ring (length l) held (frame_counts t)) (sym s.1) x));
}
  where
    next : Stopped m (front ++ (o ∷ os)) es (queue_after c.op queue) tail frames ts (front ++ (record o { waits = is_held c.op } ∷ os'))
    next = past_call m front o (record o { waits = is_held c.op }) os os' es (queue_after c.op queue) tail frames ts
        (ap (λ t. record o { waits = t }) (w ∙ sym s.0))
        (later (record o { waits = is_held c.op }) refl (queue_after c.op queue) frames (subst (λ l. Sub (l ++ tail) frames) (sym s.1) chain))
one_stop m front n c o os os' es queue tail frames ts e et eo w ch (Some x) a s later chain = record {
  left = next.left;
  chain = next.chain;
  shown = λ more.
      ap (λ l. ran (with_opened m (front ++ (o ∷ os)) frames) (shown_answers (with_answer n l (stop_answers es m.config m.holder (queue_after c.op queue))) ts ++ more)) a
      ∙ ap (λ k. ran (with_opened m (front ++ (o ∷ os)) frames) (answer k x (kept_blocks x (at_number n ts)) ∷ (rest ++ more))) e
      ∙ answer_shown (with_opened m (front ++ (o ∷ os)) frames) (record (closes n (with_opened m (front ++ (o ∷ os)) frames)) { pending = s.frames })
      (length front) o x (kept_blocks x (at_number n ts)) (rest ++ more) (get_mid front os o) w ch
      (subst (λ k. Comes (closes k (with_opened m (front ++ (o ∷ os)) frames)) o.thread o.op x (kept_blocks x (at_number n ts)) left) e
      (subst (λ l. Comes (closes n (with_opened m (front ++ (o ∷ os)) frames)) o.thread o.op x l left) (sym (s.blocks (at_number n ts)))
      (subst (λ t. Comes (closes n (with_opened m (front ++ (o ∷ os)) frames)) t o.op x [] left) (sym et)
      (subst (λ p. Comes (closes n (with_opened m (front ++ (o ∷ os)) frames)) c.thread p x [] left) (sym eo) s.comes))))
      ∙ ap (λ l. ran (with_opened m l s.frames) (rest ++ more))
      (ap (λ k. change_number stops_waiting k (front ++ (o ∷ os))) e
      ∙ change_at stops_waiting (length front) (front ++ (o ∷ os)) o (get_mid front os o) ∙ set_mid front os o (stops_waiting o)
      ∙ ap (λ t. front ++ (record o { waits = t } ∷ os)) (sym s.kept))
      ∙ next.shown more;
  allowed = λ q v. ap (λ l. allows_each (Some stage.Stop) q v (with_answer n l (stop_answers es m.config m.holder (queue_after c.op queue)))) a
      ∙ and_from (allows (Some stage.Stop) q v n x) (allows_each (Some stage.Stop) q v (stop_answers es m.config m.holder (queue_after c.op queue)))
      (s.allowed q v n) (next.allowed q v);
  counted = λ ring held t y. subst (λ l. Balance ring (length (stop_queue es (queue_after c.op queue))) held (frame_counts (count_answers (with_answer n l (stop_answers es m.config m.holder (queue_after c.op queue))) t))) (sym a)
      (next.counted ring held (count_answer n x t) (answered_balance ring held n queue (queue_after c.op queue) x t s.counted y));
}
  where
    left : Ideal
    left = record (closes n (with_opened m (front ++ (o ∷ os)) frames)) { pending = s.frames }

    rest : List Visible
    rest = shown_answers (stop_answers es m.config m.holder (queue_after c.op queue)) ts

    next : Stopped m (front ++ (record o { waits = is_held c.op } ∷ os)) es (queue_after c.op queue) tail s.frames ts (front ++ (record o { waits = is_held c.op } ∷ os'))
    next = past_call m front (record o { waits = is_held c.op }) (record o { waits = is_held c.op }) os os' es (queue_after c.op queue) tail s.frames ts refl
        (later (record o { waits = is_held c.op }) refl (queue_after c.op queue) s.frames s.chain)

pub stops_shown : (m : Ideal) (front : List Opened) (n : ℕ) (cs : List Call) (queue tail frames : List (List ℕ)) (ts : List Track)
    → n ≡ suc (length front) → Sub (queue ++ tail) frames
    → ((k : ℕ) (c : Core) → At (map core_of cs) k c → c.waits ≡ true → static_check m.class m.size c.op ≡ None)
    → Stopped m (front ++ map as_opened cs) (open_from n (map core_of cs)) queue tail frames ts (front ++ map as_opened (map stop_call cs))
stops_shown m front n [] queue tail frames ts e h checked = record
    { left = frames; chain = h; shown = λ more. refl; allowed = λ q w. refl; counted = λ ring held t x. x }
stops_shown m front n (c ∷ cs) queue tail frames ts e h checked = by_waits c.core.waits refl
    (λ o queue frames chain. stops_shown m (front ++ o ∷ []) (suc n) cs queue tail frames ts
    (ap suc (e ∙ omega (arith, length-append front (o ∷ [])))) chain (λ k d i. checked (suc k) d i))
  where
    by_waits : (w : Bool) → c.core.waits ≡ w
        → ((o : Opened) (queue frames : List (List ℕ)) → Sub (queue ++ tail) frames
        → Stopped m ((front ++ o ∷ []) ++ map as_opened cs) (open_from (suc n) (map core_of cs)) queue tail frames ts
        ((front ++ o ∷ []) ++ map as_opened (map stop_call cs)))
        → Stopped m (front ++ (as_opened c ∷ map as_opened cs)) (keep_waiting w (entry_of n c.core) (open_from (suc n) (map core_of cs))) queue tail frames ts
        (front ++ (as_opened (stop_call c) ∷ map as_opened (map stop_call cs)))
    by_waits true w later = subst
        (λ t. Stopped m (front ++ (as_opened c ∷ map as_opened cs)) (entry_of n c.core ∷ open_from (suc n) (map core_of cs)) queue tail frames ts
        (front ++ (record (as_opened c) { waits = t } ∷ map as_opened (map stop_call cs))))
        (ap (λ b. b && is_held c.core.op) (sym w))
        (one_stop m front n c.core (as_opened c) (map as_opened cs) (map as_opened (map stop_call cs)) (open_from (suc n) (map core_of cs)) queue tail frames ts
        e refl refl w (checked 0 c.core refl w) (shadow_answer c.core.op c.core.thread m.config m.holder stage.Stop queue) refl
        (shadow_says (closes n (with_opened m (front ++ (as_opened c ∷ map as_opened cs)) frames)) c.core.thread c.core.op stage.Stop queue tail h)
        (λ o x. later o) h)
    by_waits false w later = past_call m front (as_opened c) (as_opened (stop_call c)) (map as_opened cs) (map as_opened (map stop_call cs))
        (open_from (suc n) (map core_of cs)) queue tail frames ts
        (ap (λ t. record (as_opened c) { waits = t }) (w ∙ sym (ap (λ b. b && is_held c.core.op) w)))
        (later (as_opened (stop_call c)) queue frames h)

-- ---- Stop within the limit

pub stop_ok : (p : PartState) (b : Past) → Facts (view_of p) b → held_at (stage_of p.mode) b.rest ≡ length b.rest → is_driven p ≡ false → StepKeeps p b (stops p)
unfolding stops stopped_domain
stop_ok p b f held d = with_answers (stops_shown (ideal_of (view_of p) b) [] 1 b.calls p.queue (b.rest ++ (view_of p).dev.ring) b.frames (tracks_of b) refl
    f.chain (λ k c h. (f.calls.each k c h).checked))
  where
    calls : List Call
    calls = map stop_call b.calls

    same : map core_of (map stop_call b.calls) ≡ map stop_core (cores b)
    same = map_swap core_of stop_call stop_core core_of (λ c. refl) b.calls

    tracked : tracks_of b ≡ map as_track (map core_of (map stop_call b.calls))
    tracked = sym (ap (map as_track) same ∙ map_join as_track stop_core as_track (λ c. refl) (cores b))

    open_now : p.log.pending ≡ open_from 1 (cores b)
    open_now = f.pending

    with_answers : Stopped (ideal_of (view_of p) b) (map as_opened b.calls) (open_from 1 (cores b)) p.queue (b.rest ++ (view_of p).dev.ring) b.frames
        (tracks_of b) (map as_opened (map stop_call b.calls))
        → StepKeeps p b (stops p)
    with_answers s = record {
      counted = λ t x. subst (λ l. Balance (length (view_of p).dev.ring) (length (stop_queue l p.queue)) (length b.rest)
          (frame_counts (count_answers (stop_answers l p.log.config p.log.holder p.queue) t))) (sym open_now)
          (s.counted (length (view_of p).dev.ring) (length b.rest) t (subst (λ h. Balance (length (view_of p).dev.ring) (length p.queue) h (frame_counts t)) held x));
      after = record b { calls = calls; frames = s.left };
      facts = record {
        linked = f.linked;
        width = f.width;
        keys = f.keys;
        defaults = f.defaults;
        pending = ap stop_calls open_now ∙ open_stop 1 (cores b) ∙ ap (open_from 1) (sym same);
        count = f.count ∙ sym (length_map stop_call b.calls);
        calls = subst (λ cs. CallsFacts p.spec.class p.spec.blocks cs) (sym same)
            (calls_less p.spec.class p.spec.blocks (cores b) (map stop_core (cores b)) f.calls (all_stop_less (cores b)));
        disk = subst (λ cs. DiskFacts cs b.blocks (view_of p).dev.medium) (sym same)
            (disk_same (cores b) (map stop_core (cores b)) b.blocks (view_of p).dev.medium (stop_writes (cores b)) f.disk);
        holders = λ k c h i. absurd (none_inside (cores b) k c (subst (λ cs. At cs k c) same h) i);
        registers = λ key. tt;
        replay = tt;
        booting = tt;
        chain = subst (λ l. Sub (stop_queue l p.queue ++ (b.rest ++ (view_of p).dev.ring)) s.left) (sym open_now) s.chain;
        handed_up = λ m. absurd cc;
        insides = λ k c h i. absurd (none_inside (cores b) k c (subst (λ cs. At cs k c) same h) i);
        driving = λ t. absurd cc;
      };
      contexts = refl;
      seen = ap (λ cs. record (watch_of (view_of p) b) { calls = cs }) (map_swap leaves as_watched as_watched stop_call (λ c. refl) b.calls)
          ∙ ap (λ t. record (watch_of (view_of p) b) { calls = map as_watched (map stop_call b.calls); replay = replay_of t p.mode }) d;
      tracked = tracked;
      shown = λ more.
          ap (λ ts. ran (ideal_of (view_of p) b) (shown_answers (stop_answers p.log.pending p.log.config p.log.holder p.queue) ts ++ more)) (sym tracked)
          ∙ ap (λ l. ran (ideal_of (view_of p) b) (shown_answers (stop_answers l p.log.config p.log.holder p.queue) (tracks_of b) ++ more)) open_now
          ∙ s.shown more;
      licensed = ap (λ l. allows_each (Some stage.Stop) p.queue (watch_of (view_of (stops p).state) (record b { calls = map stop_call b.calls; frames = s.left })) (stop_answers l p.log.config p.log.holder p.queue)) open_now
          ∙ s.allowed p.queue (watch_of (view_of (stops p).state) (record b { calls = map stop_call b.calls; frames = s.left }));
    }
