use Rattle.std.proofs.Common.{◌≡◌, ◌<◌, ◌⊎◌, ℕ, ◌+◌, ◌&&◌, ◌||◌, eqb, Bool, true, false, None, List, [], ◌∷◌, ◌++◌, map, length, slice_set, slice_index, slice_index_or, sym, refl, ap, subst, ◌∙◌, inl, inr, arith, nat_lt, nat_le, ◌≤◌, length-set}
use Rattle.std.proofs.lemmas.Bool.{eqb-true, eq-eqb, and_parts, and_from, or_cases, or_left, or_right, cases_eq, lt-ltb, ltb-true, leb-true, cases_lt, cond-true, cond-false}
use Rattle.std.proofs.lemmas.List.{get_or-set_same, get_or-set_other, set_past}
use Rattle.nook_data.specs.declared.classes.Class.{Class}
use Rattle.nook_data.specs.declared.classes.Class.TheVariants.{Block, Net, Sound}
use Rattle.nook_data.specs.declared.steps.Mode.{Mode}
use Rattle.nook_data.specs.declared.steps.Mode.TheVariants as mode
use Rattle.nook_data.specs.declared.calls.Op.{Op}
use Rattle.nook_data.specs.declared.calls.Op.TheVariants.{Read, Write, Send, Recv, Open, Play, Close, Get, Set}
use Rattle.nook_data.specs.declared.steps.Stage.TheVariants as stage
use Rattle.promise_defs.specs.Blocks.{has_block, words_for}
use Rattle.nook_data.specs.Classes.{conflicts, covers, share_block, first_of_op, blocks_of_op, is_set, is_write}
use Rattle.nook_data.specs.Classes.{is_recv, static_check}
use Rattle.promise_defs.specs.Contract.{is_replay_of}
use Rattle.nook_data.specs.Frames.{is_empty}
use Rattle.part_laws.specs.ActsOn.{Dev}
use Rattle.part_laws.specs.Facts.{At, CallFacts, CallsFacts, IsStored, DiskFacts, KeyAt, KeyIn, Sub, may_be_inside, is_driving, Facts}
use Rattle.part_laws.specs.Moves.{store_core}
use Rattle.part_laws.specs.Views.{View, Past, Core, Call, core_of, cores, open_from, stage_of, replay_of}
use Rattle.part_laws.proofs.Keeping.{no_conflict, Less, AllLess}
use Rattle.part_laws.proofs.Indices.{split, same_at, get_map, from_map, map_join, length_map}

-- The facts after the acts of a burst, one field at a time.

-- ---- builders

abbrev pub with_dev : Dev → View → View
with_dev d v = record v { dev = d }

-- only the device changes
pub redev : (v : View) (b : Past) (d : Dev) → Facts v b → d.linked ≡ v.dev.linked → length d.registers ≡ length v.dev.registers → DiskFacts (cores b) b.blocks d.medium
    → ((key : ℕ) → KeyIn (cores b) v.config v.defaults v.driven v.mode key (slice_index d.registers key))
    → Sub (v.queue ++ (b.rest ++ d.ring)) b.frames → Facts (with_dev d v) b
redev v b d f linked width disk registers chain = record {
  linked = linked ∙ f.linked;
  width = width ∙ f.width;
  keys = f.keys;
  defaults = f.defaults;
  pending = f.pending;
  count = f.count;
  calls = f.calls;
  disk = disk;
  holders = f.holders;
  registers = registers;
  replay = f.replay;
  booting = f.booting;
  chain = chain;
  handed_up = f.handed_up;
  insides = f.insides;
  driving = f.driving;
}

-- the parts of a call that concern the facts
abbrev pub reported_of : Call → Core × Bool
reported_of c = (c.core, c.handed)

cores_reported : (calls calls' : List Call) → map reported_of calls' ≡ map reported_of calls → map core_of calls' ≡ map core_of calls
cores_reported calls calls' e =
    sym (map_join (λ (p : Core × Bool). p.0) reported_of core_of (λ c. refl) calls') ∙ ap (map (λ (p : Core × Bool). p.0)) e
    ∙ map_join (λ (p : Core × Bool). p.0) reported_of core_of (λ c. refl) calls

count_reported : (calls calls' : List Call) → map reported_of calls' ≡ map reported_of calls → length calls' ≡ length calls
count_reported calls calls' e = sym (length_map reported_of calls') ∙ ap length e ∙ length_map reported_of calls

-- the calls change only in what does not concern the facts
pub recalled : (v : View) (b : Past) (calls' : List Call) → map reported_of calls' ≡ map reported_of b.calls → Facts v b
    → Facts v (record b { calls = calls' })
recalled v b calls' e f = record {
  linked = f.linked;
  width = f.width;
  keys = f.keys;
  defaults = f.defaults;
  pending = f.pending ∙ ap (open_from 1) (sym same);
  count = f.count ∙ sym (count_reported b.calls calls' e);
  calls = subst (λ cs. CallsFacts v.class v.size cs) (sym same) f.calls;
  disk = subst (λ cs. DiskFacts cs b.blocks v.dev.medium) (sym same) f.disk;
  holders = λ k c h. f.holders k c (subst (λ cs. At cs k c) same h);
  registers = λ key. subst (λ cs. KeyIn cs v.config v.defaults v.driven v.mode key (slice_index v.dev.registers key)) (sym same) (f.registers key);
  replay = f.replay;
  booting = f.booting;
  chain = f.chain;
  handed_up = λ m k c h i r u. by_call m k c i r u (from_map reported_of b.calls k (reported_of c) (subst (λ l. At l k (reported_of c)) e (get_map reported_of calls' k c h)));
  insides = λ k c h. f.insides k c (subst (λ cs. At cs k c) same h);
  driving = f.driving;
}
  where
    same : map core_of calls' ≡ cores b
    same = cores_reported b.calls calls' e

    by_call : v.mode ≡ mode.Running → (k : ℕ) (c : Call) → c.core.inside ≡ true → is_recv c.core.op ≡ true → c.handed ≡ true
        → (d : Call) × At b.calls k d × (reported_of c ≡ reported_of d) → is_empty v.queue ≡ false
    by_call m k c i r u (d, h, s) = f.handed_up m k d h
        (ap (λ (p : Core × Bool). p.0.inside) (sym s) ∙ i) (ap (λ (p : Core × Bool). is_recv p.0.op) (sym s) ∙ r) (ap (λ (p : Core × Bool). p.1) (sym s) ∙ u)

-- ---- while something runs, calls are Inside only in Running

abbrev pub Active : View → Type 0
Active v = (v.mode ≡ mode.Running) ⊎ (v.driven ≡ true)

pub running_inside : (v : View) (b : Past) → Facts v b → Active v → (k : ℕ) (c : Core) → At (cores b) k c → c.inside ≡ true → v.mode ≡ mode.Running
running_inside v b f (inl r) k c h i = r
running_inside v b f (inr d) k c h i = by_mode v.mode refl (f.insides k c h i) (f.driving d)
  where
    by_mode : (m : Mode) → v.mode ≡ m → may_be_inside m ≡ true → is_driving (stage_of m) ≡ true → v.mode ≡ mode.Running
    by_mode (mode.Boot s) e x y = absurd cc
    by_mode mode.Running e x y = e
    by_mode (mode.Dead collected) e x y = absurd cc
    by_mode (mode.Recovering stage.Stop) e x y = absurd cc
    by_mode (mode.Recovering stage.Collect) e x y = absurd cc
    by_mode (mode.Recovering stage.Reset) e x y = absurd cc
    by_mode (mode.Recovering stage.Load) e x y = absurd cc
    by_mode (mode.Recovering stage.Init) e x y = absurd cc
    by_mode (mode.Recovering (stage.ReplaySet k v)) e x y = absurd cc
    by_mode (mode.Recovering stage.ReplayOpen) e x y = absurd cc
    by_mode (mode.Recovering stage.Resume) e x y = absurd cc

-- ---- conflicts

pub set_conflicts_left : (class : Class) (a b : Op) → is_set a ≡ true → conflicts class a b ≡ true
set_conflicts_left class (Set k v) b h = refl
set_conflicts_left class (Read first count) b h = absurd cc
set_conflicts_left class (Write first words) b h = absurd cc
set_conflicts_left class (Send frame) b h = absurd cc
set_conflicts_left class Recv b h = absurd cc
set_conflicts_left class Open b h = absurd cc
set_conflicts_left class (Play samples) b h = absurd cc
set_conflicts_left class Close b h = absurd cc
set_conflicts_left class (Get k) b h = absurd cc

pub set_conflicts_right : (class : Class) (a b : Op) → is_set b ≡ true → conflicts class a b ≡ true
set_conflicts_right class a b h = or_left (is_set a || is_set b) _ (or_right (is_set a) (is_set b) h)

-- two calls that were Inside, one of which is a Set, are the same
pub set_alone : (v : View) (b : Past) → Facts v b → (j k : ℕ) (c d : Core) → At (cores b) j c → At (cores b) k d
    → c.inside ≡ true → d.inside ≡ true → is_set c.op ≡ true → (j ≡ k → ⊥) → ⊥
set_alone v b f j k c d hc hd ic id s n = by_order
    (no_conflict v.class v.size (cores b) f.calls j k c d hc hd n (fc.opened ic) (fd.opened id) (fc.entered ic) (fd.entered id))
  where
    fc : CallFacts v.class v.size c
    fc = f.calls.each j c hc

    fd : CallFacts v.class v.size d
    fd = f.calls.each k d hd

    by_order : (conflicts v.class d.op c.op ≡ false) ⊎ (conflicts v.class c.op d.op ≡ false) → ⊥
    by_order (inl e) = absurd cc (set_conflicts_right v.class d.op c.op s, e)
    by_order (inr e) = absurd cc (set_conflicts_left v.class c.op d.op s, e)

-- an operation that passed the static check fits its class
pub write_class : (class : Class) (size : ℕ) (o : Op) → is_write o ≡ true → static_check class size o ≡ None → class ≡ Block
write_class Block size o w h = refl
write_class Net size (Write first words) w h = absurd cc
write_class Sound size (Write first words) w h = absurd cc
write_class Net size (Read first count) w h = absurd cc
write_class Sound size (Read first count) w h = absurd cc
write_class Net size (Send frame) w h = absurd cc
write_class Sound size (Send frame) w h = absurd cc
write_class Net size Recv w h = absurd cc
write_class Sound size Recv w h = absurd cc
write_class Net size Open w h = absurd cc
write_class Sound size Open w h = absurd cc
write_class Net size (Play samples) w h = absurd cc
write_class Sound size (Play samples) w h = absurd cc
write_class Net size Close w h = absurd cc
write_class Sound size Close w h = absurd cc
write_class Net size (Get k) w h = absurd cc
write_class Sound size (Get k) w h = absurd cc
write_class Net size (Set k v) w h = absurd cc
write_class Sound size (Set k v) w h = absurd cc

-- two operations that cover a block, one of which is a Write
pub overlapping : (a b : Op) (n : ℕ) → covers a n ≡ true → covers b n ≡ true → share_block a b ≡ true
overlapping a b n h i =
    and_from (nat_lt (first_of_op a) (first_of_op b + blocks_of_op b)) (nat_lt (first_of_op b) (first_of_op a + blocks_of_op a))
    (lt-ltb (first_of_op a) (first_of_op b + blocks_of_op b) (omega (arith, low a h, high b i)))
    (lt-ltb (first_of_op b) (first_of_op a + blocks_of_op a) (omega (arith, low b i, high a h)))
  where
    low : (o : Op) → covers o n ≡ true → first_of_op o ≤ n
    low o c = leb-true (first_of_op o) n (and_parts (nat_le (first_of_op o) n) (nat_lt n (first_of_op o + blocks_of_op o)) c).0

    high : (o : Op) → covers o n ≡ true → n < first_of_op o + blocks_of_op o
    high o c = ltb-true n (first_of_op o + blocks_of_op o) (and_parts (nat_le (first_of_op o) n) (nat_lt n (first_of_op o + blocks_of_op o)) c).1

pub write_conflicts : (class : Class) (a b : Op) (n : ℕ) → class ≡ Block → (is_write a || is_write b) ≡ true
    → covers a n ≡ true → covers b n ≡ true → conflicts class a b ≡ true
write_conflicts class a b n e w h i =
    ap (λ c. conflicts c a b) e
    ∙ or_right (is_set a || is_set b) ((is_write a || is_write b) && share_block a b)
    (and_from (is_write a || is_write b) (share_block a b) w (overlapping a b n h i))

-- two open calls that were Inside, one of which is a Write, do not cover the same block
pub write_alone : (class : Class) (size : ℕ) (cs : List Core) → CallsFacts class size cs → (j k : ℕ) (c d : Core) → At cs j c → At cs k d
    → c.waits ≡ true → d.waits ≡ true → 0 < c.attempts → 0 < d.attempts → is_write c.op ≡ true
    → (n : ℕ) → covers c.op n ≡ true → covers d.op n ≡ true → (j ≡ k → ⊥) → ⊥
write_alone class size cs f j k c d hc hd wc wd ac ad w n oc od ne =
    by_order (no_conflict class size cs f j k c d hc hd ne wc wd ac ad)
  where
    block : class ≡ Block
    block = write_class class size c.op w ((f.each j c hc).checked wc)

    by_order : (conflicts class d.op c.op ≡ false) ⊎ (conflicts class c.op d.op ≡ false) → ⊥
    by_order (inl e) = absurd cc (write_conflicts class d.op c.op n block (or_right (is_write d.op) (is_write c.op) w) od oc, e)
    by_order (inr e) = absurd cc (write_conflicts class c.op d.op n block (or_left (is_write c.op) (is_write d.op) w) oc od, e)

-- ---- a store

pub store_less : (n : ℕ) (cs : List Core) → ((k : ℕ) (c : Core) → At cs k c → c.inside ≡ true → c.waits ≡ true) → AllLess cs (map (store_core n) cs)
store_less n cs o k d h = by_call (from_map (store_core n) cs k d h)
  where
    by_call : (c : Core) × At cs k c × (d ≡ store_core n c) → (c : Core) × At cs k c × Less c d
    by_call (c, i, e) = (
      c,
      i,
      subst (λ x. Less c x) (sym e) (record
          { thread = refl; op = refl; waits = λ w. w; inside = λ j. j; opened = o k c i; attempts = λ w. refl; once = λ u w j. j }),
    )

-- what a call has stored after a store
store_other : (n m : ℕ) (c : Core) → has_block m c.stored ≡ true → has_block m (store_core n c).stored ≡ true
store_other n m c h = split (nat_lt 0 c.attempts && covers c.op n)
    (λ t. ap (has_block m) (cond-true (nat_lt 0 c.attempts && covers c.op n) (n ∷ c.stored) c.stored t) ∙ or_right (eqb n m) (has_block m c.stored) h)
    (λ t. ap (has_block m) (cond-false (nat_lt 0 c.attempts && covers c.op n) (n ∷ c.stored) c.stored t) ∙ h)

store_here : (n : ℕ) (c : Core) → 0 < c.attempts → covers c.op n ≡ true → has_block n (store_core n c).stored ≡ true
store_here n c a o =
    ap (has_block n) (cond-true (nat_lt 0 c.attempts && covers c.op n) (n ∷ c.stored) c.stored
    (and_from (nat_lt 0 c.attempts) (covers c.op n) (lt-ltb 0 c.attempts a) o))
    ∙ or_left (eqb n n) (has_block n c.stored) (eq-eqb n n refl)

store_from : (n m : ℕ) (c : Core) → has_block m (store_core n c).stored ≡ true
    → (has_block m c.stored ≡ true) ⊎ ((n ≡ m) × (0 < c.attempts) × (covers c.op n ≡ true))
store_from n m c h = split (nat_lt 0 c.attempts && covers c.op n)
    (λ t. new t (or_cases (eqb n m) (has_block m c.stored)
    (sym (ap (has_block m) (cond-true (nat_lt 0 c.attempts && covers c.op n) (n ∷ c.stored) c.stored t)) ∙ h)))
    (λ t. inl (sym (ap (has_block m) (cond-false (nat_lt 0 c.attempts && covers c.op n) (n ∷ c.stored) c.stored t)) ∙ h))
  where
    new : (nat_lt 0 c.attempts && covers c.op n) ≡ true → (eqb n m ≡ true) ⊎ (has_block m c.stored ≡ true)
        → (has_block m c.stored ≡ true) ⊎ ((n ≡ m) × (0 < c.attempts) × (covers c.op n ≡ true))
    new t (inl e) = inr (eqb-true n m e, ltb-true 0 c.attempts (and_parts (nat_lt 0 c.attempts) (covers c.op n) t).0, (and_parts (nat_lt 0 c.attempts) (covers c.op n) t).1)
    new t (inr e) = inl e

-- the medium after a store by a Write that is Inside, if all such Writes agree on its words
pub store_disk : (class : Class) (size : ℕ) (cs : List Core) (plain medium : List (List ℕ)) (n : ℕ) (words : List ℕ)
    → CallsFacts class size cs → DiskFacts cs plain medium → n < length medium
    → (p : ℕ) (c : Core) → At cs p c → c.inside ≡ true → is_write c.op ≡ true → covers c.op n ≡ true → words ≡ words_for c.op n
    → DiskFacts (map (store_core n) cs) plain (slice_set medium n words)
store_disk class size cs plain medium n words calls f l p c h i w o ws = record {
  size = length-set medium n words ∙ f.size;
  blocks = λ m. by_block m (cases_eq m n) (f.blocks m);
  named = λ k d m hd wd id b. by_call k d m wd id b (cases_eq m n) (from_map (store_core n) cs k d hd);
  covered = λ k d m hd wd id b. still k d m wd id b (from_map (store_core n) cs k d hd);
}
  where
    fc : CallFacts class size c
    fc = calls.each p c h

    new : (m : ℕ) → m ≡ n → slice_index_or (slice_set medium n words) m [] ≡ words
    new m e = ap (λ k. slice_index_or (slice_set medium n words) k []) e ∙ get_or-set_same medium n words [] l

    old : (m : ℕ) → (m ≡ n → ⊥) → slice_index_or (slice_set medium n words) m [] ≡ slice_index_or medium m []
    old m e = get_or-set_other medium n m words [] e

    by_block : (m : ℕ) → (m ≡ n) ⊎ (m ≡ n → ⊥) → (slice_index_or medium m [] ≡ slice_index_or plain m []) ⊎ IsStored cs m (slice_index_or medium m [])
        → (slice_index_or (slice_set medium n words) m [] ≡ slice_index_or plain m []) ⊎ IsStored (map (store_core n) cs) m (slice_index_or (slice_set medium n words) m [])
    by_block m (inl e) g = inr (record {
      index = p;
      call = store_core n c;
      at = get_map (store_core n) cs p c h;
      waits = fc.opened i;
      entered = fc.entered i;
      writes = w;
      covered = ap (covers c.op) e ∙ o;
      named = ap (λ k. has_block k (store_core n c).stored) e ∙ store_here n c (fc.entered i) o;
      words = new m e ∙ ws ∙ ap (words_for c.op) (sym e);
    })
    by_block m (inr e) (inl g) = inl (old m e ∙ g)
    by_block m (inr e) (inr g) = inr (record {
      index = g.index;
      call = store_core n g.call;
      at = get_map (store_core n) cs g.index g.call g.at;
      waits = g.waits;
      entered = g.entered;
      writes = g.writes;
      covered = g.covered;
      named = store_other n m g.call g.named;
      words = old m e ∙ g.words;
    })

    by_call : (k : ℕ) (d : Core) (m : ℕ) → d.waits ≡ true → is_write d.op ≡ true → has_block m d.stored ≡ true → (m ≡ n) ⊎ (m ≡ n → ⊥)
        → (x : Core) × At cs k x × (d ≡ store_core n x) → slice_index_or (slice_set medium n words) m [] ≡ words_for d.op m
    by_call k d m wd id b (inl e) (x, hx, ex) = new m e ∙ ws ∙ by_position (cases_eq p k) ∙ ap (words_for d.op) (sym e)
      where
        wx : x.waits ≡ true
        wx = ap (λ y. y.waits) (sym ex) ∙ wd

        ix : is_write x.op ≡ true
        ix = ap (λ y. is_write y.op) (sym ex) ∙ id

        sx : (has_block m x.stored ≡ true) ⊎ ((n ≡ m) × (0 < x.attempts) × (covers x.op n ≡ true))
        sx = store_from n m x (ap (λ y. has_block m y.stored) (sym ex) ∙ b)

        cx : (has_block m x.stored ≡ true) ⊎ ((n ≡ m) × (0 < x.attempts) × (covers x.op n ≡ true)) → (0 < x.attempts) × (covers x.op n ≡ true)
        cx (inl s) = ((f.covered k x m hx wx ix s).0, ap (covers x.op) (sym e) ∙ (f.covered k x m hx wx ix s).1)
        cx (inr s) = (s.1, s.2)

        by_position : (p ≡ k) ⊎ (p ≡ k → ⊥) → words_for c.op n ≡ words_for d.op n
        by_position (inl s) = ap (λ y. words_for y.op n) (same_at cs k c x (subst (λ q. At cs q c) s h) hx) ∙ ap (λ y. words_for y.op n) (sym ex)
        by_position (inr s) = absurd (write_alone class size cs calls p k c x h hx (fc.opened i) wx (fc.entered i) (cx sx).0 w n o (cx sx).1 s)
    by_call k d m wd id b (inr e) (x, hx, ex) = old m e ∙ by_store sx ∙ ap (λ y. words_for y.op m) (sym ex)
      where
        wx : x.waits ≡ true
        wx = ap (λ y. y.waits) (sym ex) ∙ wd

        ix : is_write x.op ≡ true
        ix = ap (λ y. is_write y.op) (sym ex) ∙ id

        sx : (has_block m x.stored ≡ true) ⊎ ((n ≡ m) × (0 < x.attempts) × (covers x.op n ≡ true))
        sx = store_from n m x (ap (λ y. has_block m y.stored) (sym ex) ∙ b)

        by_store : (has_block m x.stored ≡ true) ⊎ ((n ≡ m) × (0 < x.attempts) × (covers x.op n ≡ true)) → slice_index_or medium m [] ≡ words_for x.op m
        by_store (inl s) = f.named k x m hx wx ix s
        by_store (inr s) = absurd (e (sym s.0))

    still : (k : ℕ) (d : Core) (m : ℕ) → d.waits ≡ true → is_write d.op ≡ true → has_block m d.stored ≡ true
        → (x : Core) × At cs k x × (d ≡ store_core n x) → (0 < d.attempts) × (covers d.op m ≡ true)
    still k d m wd id b (x, hx, ex) = by_store (store_from n m x (ap (λ y. has_block m y.stored) (sym ex) ∙ b))
      where
        by_store : (has_block m x.stored ≡ true) ⊎ ((n ≡ m) × (0 < x.attempts) × (covers x.op n ≡ true)) → (0 < d.attempts) × (covers d.op m ≡ true)
        by_store (inl s) = subst (λ y. (0 < y.attempts) × (covers y.op m ≡ true)) (sym ex)
            (f.covered k x m hx (ap (λ y. y.waits) (sym ex) ∙ wd) (ap (λ y. is_write y.op) (sym ex) ∙ id) s)
        by_store (inr s) = subst (λ y. (0 < y.attempts) × (covers y.op m ≡ true)) (sym ex) (s.1, ap (covers x.op) (sym s.0) ∙ s.2)

-- ---- a register

replayed_key : (config defaults : List ℕ) (k v key value : ℕ) → (eqb k key && eqb v value) ≡ true
    → KeyAt config defaults true (stage.ReplaySet k v) key value
replayed_key config defaults k v key value h = (
  (λ l. absurd (omega (arith, l, same))),
  (λ l. absurd (omega (arith, l, same))),
  λ e. inr (refl, sym (eqb-true v value (and_parts (eqb k key) (eqb v value) h).1)),
)
  where
    same : k ≡ key
    same = eqb-true k key (and_parts (eqb k key) (eqb v value) h).0

pub word_set : (xs : List ℕ) (k j v : ℕ) → (slice_index (slice_set xs k v) j ≡ slice_index xs j) ⊎ ((j ≡ k) × (slice_index (slice_set xs k v) j ≡ v))
word_set xs k j v = by_position (cases_eq j k) (cases_lt k (length xs))
  where
    by_position : (j ≡ k) ⊎ (j ≡ k → ⊥) → (k < length xs) ⊎ (length xs ≤ k)
        → (slice_index (slice_set xs k v) j ≡ slice_index xs j) ⊎ ((j ≡ k) × (slice_index (slice_set xs k v) j ≡ v))
    by_position (inl e) (inl l) = inr (e, ap (slice_index (slice_set xs k v)) e ∙ get_or-set_same xs k v 0 l)
    by_position (inl e) (inr l) = inl (ap (λ ys. slice_index ys j) (set_past xs k v l))
    by_position (inr e) l = inl (get_or-set_other xs k j v 0 e)

-- a register takes the value of a ReplaySet that is Inside
pub replay_key : (cs : List Core) (config defaults : List ℕ) (driven : Bool) (m : Mode) (key value : ℕ)
    → is_replay_of key value (replay_of driven m) ≡ true → KeyIn cs config defaults driven m key value
replay_key cs config defaults false m key value h = absurd cc
replay_key cs config defaults true (mode.Boot stage.Stop) key value h = absurd cc
replay_key cs config defaults true (mode.Boot stage.Collect) key value h = absurd cc
replay_key cs config defaults true (mode.Boot stage.Reset) key value h = absurd cc
replay_key cs config defaults true (mode.Boot stage.Load) key value h = absurd cc
replay_key cs config defaults true (mode.Boot stage.Init) key value h = absurd cc
replay_key cs config defaults true (mode.Boot stage.ReplayOpen) key value h = absurd cc
replay_key cs config defaults true (mode.Boot stage.Resume) key value h = absurd cc
replay_key cs config defaults true mode.Running key value h = absurd cc
replay_key cs config defaults true (mode.Dead collected) key value h = absurd cc
replay_key cs config defaults true (mode.Recovering stage.Stop) key value h = absurd cc
replay_key cs config defaults true (mode.Recovering stage.Collect) key value h = absurd cc
replay_key cs config defaults true (mode.Recovering stage.Reset) key value h = absurd cc
replay_key cs config defaults true (mode.Recovering stage.Load) key value h = absurd cc
replay_key cs config defaults true (mode.Recovering stage.Init) key value h = absurd cc
replay_key cs config defaults true (mode.Recovering stage.ReplayOpen) key value h = absurd cc
replay_key cs config defaults true (mode.Recovering stage.Resume) key value h = absurd cc
replay_key cs config defaults true (mode.Boot (stage.ReplaySet k v)) key value h = replayed_key config defaults k v key value h
replay_key cs config defaults true (mode.Recovering (stage.ReplaySet k v)) key value h = replayed_key config defaults k v key value h
