use Rattle.std.proofs.Common.{◌≡◌, ◌<◌, ◌⊎◌, ℕ, suc, ◌+◌, ◌&&◌, ◌||◌, not, eqb, Bool, true, false, Option, Some, None, is_some, List, [], ◌∷◌, ◌++◌, length, set, slice_set, slice_index, sym, refl, ap, subst, ◌∙◌, inl, inr, arith, bytes_eq, nat_lt, nat_le, length-set}
use Rattle.std.proofs.lemmas.Bool.{eqb-true, and_parts, and_from, or_cases, or_right, cases_eq, lt-ltb, le-leb, leb-true, cases_Bool}
use Rattle.std.proofs.lemmas.List.{get_or-set_same}
use Rattle.nook_data.specs.declared.calls.Answer.{Answer}
use Rattle.nook_data.specs.declared.calls.Answer.TheVariants as answered
use Rattle.nook_data.specs.declared.classes.Class.{Class}
use Rattle.nook_data.specs.declared.classes.Class.TheVariants.{Net, Sound}
use Rattle.nook_data.specs.declared.steps.Mode.TheVariants as mode
use Rattle.nook_data.specs.declared.calls.Op.{Op}
use Rattle.nook_data.specs.declared.calls.Op.TheVariants.{Read, Write, Send, Recv, Open, Play, Close, Get, Set}
use Rattle.promise_defs.specs.Blocks.{get_blocks, has_block, holds_from, put_from, words_for}
use Rattle.nook_data.specs.Classes.{conflicts, covers, is_holder, is_of_stream, is_recv, is_set, is_write, static_check}
use Rattle.part_laws.specs.Watch.{Watch, owes}
use Rattle.part_laws.specs.Allowed.{allows, is_served_found, has_failed}
use Rattle.part_defs.specs.Log.{queue_after, frame_or_empty}
use Rattle.promise_defs.proofs.PromiseCases.{closes}
use Rattle.part_defs.proofs.PartCases.{config_after, holder_after}
use Rattle.nook_data.specs.Frames.{is_empty, tail_of}
use Rattle.nook_data.specs.Numbered.{at_number}
use Rattle.promise_defs.specs.Trace.{kept_blocks}
use Rattle.part_laws.specs.Facts.{At, CallFacts, DiskFacts, HolderFits, IsSetting, KeyIn, Sub, Facts}
use Rattle.part_laws.specs.Moves.{close_core, with_core}
use Rattle.part_laws.specs.Views.{View, Past, Core, Call, core_of, cores, as_watched, as_track, watch_of, ideal_of}
use Rattle.part_laws.proofs.Acting.{set_alone, word_set}
use Rattle.part_laws.proofs.Acts.{holder_is}
use Rattle.part_laws.proofs.Balances.{TakesFrame}
use Rattle.part_laws.proofs.Closing.{ClosedFacts, Comes, frame_comes}
use Rattle.part_laws.proofs.Disks.{held_words, same_blocks, disk_plain, disk_put, read_same}
use Rattle.part_laws.proofs.Keeping.{no_conflict}
use Rattle.part_laws.proofs.OfClass.{recv_class, stream_class}
use Rattle.part_laws.proofs.Indices.{same_at, get_map}
use Rattle.part_laws.proofs.Subs.{Taken, sub_front}
use Rattle.part_laws.proofs.Watching.{required_met}

-- A reply that is accepted, by operation: the never-failing device gives the same answer.

abbrev pub with_op : Op → Call → Call
with_op o c = record c { core = record c.core { op = o } }

abbrev pub closed_call : Call → Call
closed_call c = with_core close_core c

-- a call whose reply was accepted
pub record Replies (v : View) (b : Past) (k : ℕ) (c : Call) : Type 0 where
  pub facts : Facts v b
  pub running : v.mode ≡ mode.Running
  pub at : At b.calls k c
  pub inside : c.core.inside ≡ true

-- what must be shown of its answer
pub record Accepted (v : View) (b : Past) (k : ℕ) (c : Call) (a : Answer) : Type 0 where
  pub plain : List (List ℕ)
  pub frames : List (List ℕ)
  pub facts : ClosedFacts v b k (closed_call c) (config_after c.core.op v.config) (holder_after c.core.thread c.core.op v.holder)
      (queue_after c.core.op v.queue) plain frames
  pub comes : Comes (closes (suc k) (ideal_of v b)) c.core.thread c.core.op a (kept_blocks a (Some (as_track c.core)))
      (record (closes (suc k) (ideal_of v b))
      { blocks = plain; pending = frames; holder = holder_after c.core.thread c.core.op v.holder; config = config_after c.core.op v.config })
  pub allowed : (w : Watch) → at_number (suc k) w.calls ≡ Some (as_watched (closed_call c)) → w.ring ≡ v.dev.ring
      → allows None v.queue w (suc k) a ≡ true
  pub counted : TakesFrame a v.queue (queue_after c.core.op v.queue)

module _ (v : View) (b : Past) (k : ℕ) (c : Call) (r : Replies v b k c) where
  pub core_at : At (cores b) k c.core
  core_at = get_map core_of b.calls k c r.at

  pub call_facts : CallFacts v.class v.size c.core
  call_facts = r.facts.calls.each k c.core core_at

  pub checks : static_check v.class v.size c.core.op ≡ None
  checks = call_facts.checked (call_facts.opened r.inside)

  -- no other Set is Inside, and this call is no Set
  no_set : is_set c.core.op ≡ false → (key value : ℕ) → IsSetting (cores b) key value → ⊥
  no_set n key value s = set_alone v b r.facts s.index k s.call c.core s.at core_at s.inside r.inside (ap is_set s.sets)
      (λ e. absurd cc (n, ap (λ x. is_set x.op) (sym (same_at (cores b) k s.call c.core (subst (λ p. At (cores b) p s.call) e s.at) core_at)) ∙ ap is_set s.sets))

  -- the registers are the record
  register_is : is_set c.core.op ≡ false → (key : ℕ) → slice_index v.dev.registers key ≡ slice_index v.config key
  register_is n key = by_fact (subst (λ m. KeyIn (cores b) v.config v.defaults v.driven m key (slice_index v.dev.registers key)) r.running (r.facts.registers key))
    where
      by_fact : (slice_index v.dev.registers key ≡ slice_index v.config key) ⊎ IsSetting (cores b) key (slice_index v.dev.registers key)
          → slice_index v.dev.registers key ≡ slice_index v.config key
      by_fact (inl e) = e
      by_fact (inr s) = absurd (no_set n key (slice_index v.dev.registers key) s)

  -- no other call is Inside that conflicts with this one in both orders
  no_other : (j : ℕ) (d : Core) → At (cores b) j d → (j ≡ k → ⊥) → d.inside ≡ true → conflicts v.class d.op c.core.op ≡ true
      → conflicts v.class c.core.op d.op ≡ true → ⊥
  no_other j d h n i x y = by_order (no_conflict v.class v.size (cores b) r.facts.calls j k d c.core h core_at n
      (fd.opened i) (call_facts.opened r.inside) (fd.entered i) (call_facts.entered r.inside))
    where
      fd : CallFacts v.class v.size d
      fd = r.facts.calls.each j d h

      by_order : (conflicts v.class c.core.op d.op ≡ false) ⊎ (conflicts v.class d.op c.core.op ≡ false) → ⊥
      by_order (inl e) = absurd cc (e, y)
      by_order (inr e) = absurd cc (e, x)

  -- the facts after an answer that changes at most the medium
  plain_facts : is_set c.core.op ≡ false → (plain : List (List ℕ)) → DiskFacts (set (cores b) k (close_core c.core)) plain v.dev.medium
      → ClosedFacts v b k (closed_call c) v.config v.holder v.queue plain b.frames
  plain_facts n plain disk = record {
    keys = r.facts.keys;
    disk = disk;
    holders = λ j d h ne i. r.facts.holders j d h i;
    registers = λ key. inl (register_is n key);
    chain = r.facts.chain;
    handed_up = λ j d h ne i u t. r.facts.handed_up r.running j d h i u t;
  }

  -- the medium does not change
  disk_stays : is_write c.core.op ≡ false → DiskFacts (set (cores b) k (close_core c.core)) b.blocks v.dev.medium
  disk_stays n = disk_plain (cores b) b.blocks v.dev.medium k c.core (close_core c.core) core_at n refl r.facts.disk

-- ---- block

pub read_ok : (v : View) (b : Past) (k : ℕ) (c : Call) (first count : ℕ) (words : List ℕ) → Replies v b k (with_op (Read first count) c)
    → owes (as_watched (with_op (Read first count) c)) (Read first count) (answered.Blocks words) (watch_of v b) ≡ None
    → Accepted v b k (with_op (Read first count) c) (answered.Blocks words)
read_ok v b k c first count words r h = record {
  counted = omega arith;
  plain = b.blocks;
  frames = b.frames;
  facts = plain_facts v b k (with_op (Read first count) c) r refl b.blocks (disk_stays v b k (with_op (Read first count) c) r refl);
  comes = record {
    may = ap (λ l. bytes_eq words l) (sym same) ∙ (required_met (bytes_eq words (get_blocks v.dev.medium first count)) 4 None h).0;
    after = refl;
  };
  allowed = λ w e g. refl;
}
  where
    same : get_blocks v.dev.medium first count ≡ get_blocks b.blocks first count
    same = same_blocks v.dev.medium b.blocks count first (λ n l u.
        read_same v.class v.size (cores b) b.blocks v.dev.medium r.facts.calls r.facts.disk k (with_op (Read first count) c).core
        (core_at v b k (with_op (Read first count) c) r) r.inside refl n
        (and_from (nat_le first n) (nat_lt n (first + count)) (le-leb first n l) (lt-ltb n (first + count) u)))

pub read_error_ok : (v : View) (b : Past) (k : ℕ) (c : Call) (first count block : ℕ) → Replies v b k (with_op (Read first count) c)
    → covers (Read first count) block ≡ true
    → owes (as_watched (with_op (Read first count) c)) (Read first count) (answered.IoError block) (watch_of v b) ≡ None
    → Accepted v b k (with_op (Read first count) c) (answered.IoError block)
read_error_ok v b k c first count block r o h = record {
  counted = omega arith;
  plain = b.blocks;
  frames = b.frames;
  facts = plain_facts v b k (with_op (Read first count) c) r refl b.blocks (disk_stays v b k (with_op (Read first count) c) r refl);
  comes = record { may = o; after = refl };
  allowed = λ w e g. ap (has_failed block) e ∙ (required_met (has_block block c.failed) 15 None h).0;
}

pub write_ok : (v : View) (b : Past) (k : ℕ) (c : Call) (first : ℕ) (words : List ℕ) → Replies v b k (with_op (Write first words) c)
    → owes (as_watched (with_op (Write first words) c)) (Write first words) answered.Done (watch_of v b) ≡ None
    → Accepted v b k (with_op (Write first words) c) answered.Done
write_ok v b k c first words r h = record {
  counted = omega arith;
  plain = put_from (covers (Write first words)) (Write first words) 0 b.blocks;
  frames = b.frames;
  facts = plain_facts v b k (with_op (Write first words) c) r refl (put_from (covers (Write first words)) (Write first words) 0 b.blocks)
      (disk_put (cores b) b.blocks v.dev.medium k (with_op (Write first words) c).core (close_core (with_op (Write first words) c).core)
      (covers (Write first words)) (core_at v b k (with_op (Write first words) c) r) refl r.facts.disk
      (λ n o l. held_words 0 (Write first words) v.dev.medium n
      (required_met (holds_from 0 (Write first words) v.dev.medium) 3 None h).0 l (ap (covers (Write first words)) (omega arith) ∙ o)
      ∙ ap (words_for (Write first words)) (omega arith))
      (λ n o s. o));
  comes = record { may = refl; after = refl };
  allowed = λ w e g. ap is_served_found e;
}

pub write_error_ok : (v : View) (b : Past) (k : ℕ) (c : Call) (first : ℕ) (words : List ℕ) (block : ℕ) → Replies v b k (with_op (Write first words) c)
    → covers (Write first words) block ≡ true
    → owes (as_watched (with_op (Write first words) c)) (Write first words) (answered.IoError block) (watch_of v b) ≡ None
    → Accepted v b k (with_op (Write first words) c) (answered.IoError block)
write_error_ok v b k c first words block r o h = record {
  counted = omega arith;
  plain = put_from chosen (Write first words) 0 b.blocks;
  frames = b.frames;
  facts = plain_facts v b k (with_op (Write first words) c) r refl (put_from chosen (Write first words) 0 b.blocks)
      (disk_put (cores b) b.blocks v.dev.medium k (with_op (Write first words) c).core (close_core (with_op (Write first words) c).core)
      chosen at refl r.facts.disk
      (λ n t l. r.facts.disk.named k (with_op (Write first words) c).core n at
      ((r.facts.calls.each k (with_op (Write first words) c).core at).opened r.inside) refl
      (and_parts (covers (Write first words) n) (has_block n c.core.stored) t).1)
      (λ n u s. and_from (covers (Write first words) n) (has_block n c.core.stored) u s));
  comes = record { may = o; after = refl };
  allowed = λ w e g. ap (has_failed block) e ∙ (required_met (has_block block c.failed) 15 None h).0;
}
  where
    chosen : ℕ → Bool
    chosen n = covers (Write first words) n && has_block n c.core.stored

    at : At (cores b) k (with_op (Write first words) c).core
    at = core_at v b k (with_op (Write first words) c) r

-- ---- net

pub send_ok : (v : View) (b : Past) (k : ℕ) (c : Call) (frame : List ℕ) → Replies v b k (with_op (Send frame) c)
    → owes (as_watched (with_op (Send frame) c)) (Send frame) answered.Done (watch_of v b) ≡ None
    → Accepted v b k (with_op (Send frame) c) answered.Done
send_ok v b k c frame r h = record {
  counted = omega arith;
  plain = b.blocks;
  frames = b.frames;
  facts = plain_facts v b k (with_op (Send frame) c) r refl b.blocks (disk_stays v b k (with_op (Send frame) c) r refl);
  comes = record { may = refl; after = refl };
  allowed = λ w e g. ap is_served_found e ∙ (required_met (nat_lt 0 c.sent) 7 None h).0;
}

pub recvs_conflict : (class : Class) (x y : Op) → class ≡ Net → is_recv x ≡ true → is_recv y ≡ true → conflicts class x y ≡ true
recvs_conflict class x y e h i = ap (λ z. conflicts z x y) e
    ∙ or_right (is_set x || is_set y) (is_recv x && is_recv y) (and_from (is_recv x) (is_recv y) h i)

pub recv_ok : (v : View) (b : Past) (k : ℕ) (c : Call) (queue : List (List ℕ)) → v.queue ≡ queue → Replies v b k (with_op Recv c)
    → owes (as_watched (with_op Recv c)) Recv (frame_or_empty queue) (watch_of v b) ≡ None
    → Accepted v b k (with_op Recv c) (frame_or_empty queue)
recv_ok v b k c queue q r h = by_queue queue q
  where
    at : At (cores b) k (with_op Recv c).core
    at = core_at v b k (with_op Recv c) r

    net : v.class ≡ Net
    net = recv_class v.class v.size (checks v b k (with_op Recv c) r)

    facts : (frames : List (List ℕ)) → Sub (tail_of v.queue ++ (b.rest ++ v.dev.ring)) frames
        → ClosedFacts v b k (closed_call (with_op Recv c)) v.config v.holder (tail_of v.queue) b.blocks frames
    facts frames chain = record {
      keys = r.facts.keys;
      disk = disk_stays v b k (with_op Recv c) r refl;
      holders = λ j d h ne i. r.facts.holders j d h i;
      registers = λ key. inl (register_is v b k (with_op Recv c) r refl key);
      chain = chain;
      handed_up = λ j d h ne i u t. absurd (no_other v b k (with_op Recv c) r j d.core (get_map core_of b.calls j d h) ne i
          (recvs_conflict v.class d.core.op Recv net u refl) (recvs_conflict v.class Recv d.core.op net refl u));
    }

    met : (is_empty v.dev.ring || c.handed) ≡ true
    met = (required_met (is_empty v.dev.ring || c.handed) 9 None h).0

    by_queue : (queue : List (List ℕ)) → v.queue ≡ queue → Accepted v b k (with_op Recv c) (frame_or_empty queue)
    by_queue [] q = record {
      counted = ap (λ l. length (tail_of l) + 0) q ∙ sym (ap length q);
      plain = b.blocks;
      frames = b.frames;
      facts = facts b.frames (subst (λ l. Sub (l ++ (b.rest ++ v.dev.ring)) b.frames) (q ∙ sym (ap tail_of q)) r.facts.chain);
      comes = record { may = refl; after = refl };
      allowed = λ w e g. and_from (is_empty v.queue) (is_empty w.ring) (ap is_empty q) (ap is_empty g ∙ empty (or_cases (is_empty v.dev.ring) c.handed met));
    }
      where
        empty : (is_empty v.dev.ring ≡ true) ⊎ (c.handed ≡ true) → is_empty v.dev.ring ≡ true
        empty (inl e) = e
        empty (inr t) = absurd cc (ap is_empty q, r.facts.handed_up r.running k (with_op Recv c) r.at r.inside refl t)
    by_queue (frame ∷ more) q = taken (sub_front frame (more ++ (b.rest ++ v.dev.ring)) b.frames
        (subst (λ l. Sub (l ++ (b.rest ++ v.dev.ring)) b.frames) q r.facts.chain))
      where
        taken : Taken frame (more ++ (b.rest ++ v.dev.ring)) b.frames → Accepted v b k (with_op Recv c) (answered.Frame frame)
        taken t = record {
          counted = ap (λ l. length (tail_of l) + 1) q ∙ omega arith ∙ sym (ap length q);
          plain = b.blocks;
          frames = t.rest;
          facts = facts t.rest (subst (λ l. Sub (l ++ (b.rest ++ v.dev.ring)) t.rest) (sym (ap tail_of q)) t.chain);
          comes = frame_comes (closes (suc k) (ideal_of v b)) c.core.thread frame [] t.rest t.after;
          allowed = λ w e g. refl;
        }

-- ---- sound

streams_conflict : (class : Class) (x y : Op) → class ≡ Sound → is_of_stream x ≡ true → is_of_stream y ≡ true → conflicts class x y ≡ true
streams_conflict class x y e h i = ap (λ z. conflicts z x y) e
    ∙ or_right (is_set x || is_set y) (is_of_stream x && is_of_stream y) (and_from (is_of_stream x) (is_of_stream y) h i)

-- an operation that does not use the stream fits any holder
pub holder_any : (holder : Option ℕ) (t : ℕ) (o : Op) → is_of_stream o ≡ false → HolderFits holder t o
holder_any holder t (Read first count) h = tt
holder_any holder t (Write first words) h = tt
holder_any holder t (Send frame) h = tt
holder_any holder t Recv h = tt
holder_any holder t Open h = absurd cc
holder_any holder t (Play samples) h = absurd cc
holder_any holder t Close h = absurd cc
holder_any holder t (Get key) h = tt
holder_any holder t (Set key value) h = tt

-- an Open or Close was accepted: the holder changes
stream_facts : (v : View) (b : Past) (k : ℕ) (c : Call) (r : Replies v b k c) → is_set c.core.op ≡ false → is_write c.core.op ≡ false
    → is_of_stream c.core.op ≡ true → (holder : Option ℕ) → ClosedFacts v b k (closed_call c) v.config holder v.queue b.blocks b.frames
stream_facts v b k c r n w s holder = record {
  keys = r.facts.keys;
  disk = disk_stays v b k c r w;
  holders = λ j d h ne i. by_op j d h ne i (cases_Bool (is_of_stream d.op));
  registers = λ key. inl (register_is v b k c r n key);
  chain = r.facts.chain;
  handed_up = λ j d h ne i u t. r.facts.handed_up r.running j d h i u t;
}
  where
    sound : v.class ≡ Sound
    sound = stream_class v.class v.size c.core.op s (checks v b k c r)

    by_op : (j : ℕ) (d : Core) → At (cores b) j d → (j ≡ k → ⊥) → d.inside ≡ true → (is_of_stream d.op ≡ true) ⊎ (is_of_stream d.op ≡ false)
        → HolderFits holder d.thread d.op
    by_op j d h ne i (inl t) = absurd (no_other v b k c r j d h ne i
        (streams_conflict v.class d.op c.core.op sound t s) (streams_conflict v.class c.core.op d.op sound s t))
    by_op j d h ne i (inr t) = holder_any holder d.thread d.op t

pub open_ok : (v : View) (b : Past) (k : ℕ) (c : Call) → Replies v b k (with_op Open c) → Accepted v b k (with_op Open c) answered.Done
open_ok v b k c r = record {
  counted = omega arith;
  plain = b.blocks;
  frames = b.frames;
  facts = stream_facts v b k (with_op Open c) r refl refl refl (Some c.core.thread);
  comes = record {
    may = ap (λ h. not (is_some h)) (r.facts.holders k (with_op Open c).core (core_at v b k (with_op Open c) r) r.inside);
    after = refl;
  };
  allowed = λ w e g. ap is_served_found e;
}

pub play_ok : (v : View) (b : Past) (k : ℕ) (c : Call) (samples : List ℕ) → Replies v b k (with_op (Play samples) c)
    → owes (as_watched (with_op (Play samples) c)) (Play samples) answered.Done (watch_of v b) ≡ None
    → Accepted v b k (with_op (Play samples) c) answered.Done
play_ok v b k c samples r h = record {
  counted = omega arith;
  plain = b.blocks;
  frames = b.frames;
  facts = plain_facts v b k (with_op (Play samples) c) r refl b.blocks (disk_stays v b k (with_op (Play samples) c) r refl);
  comes = record {
    may = holder_is v.holder c.core.thread (r.facts.holders k (with_op (Play samples) c).core (core_at v b k (with_op (Play samples) c) r) r.inside);
    after = refl;
  };
  allowed = λ w e g. ap is_served_found e ∙ (required_met (eqb c.played (length samples)) 11 None h).0;
}

pub close_ok : (v : View) (b : Past) (k : ℕ) (c : Call) → Replies v b k (with_op Close c) → Accepted v b k (with_op Close c) answered.Done
close_ok v b k c r = record {
  counted = omega arith;
  plain = b.blocks;
  frames = b.frames;
  facts = stream_facts v b k (with_op Close c) r refl refl refl None;
  comes = record {
    may = holder_is v.holder c.core.thread (r.facts.holders k (with_op Close c).core (core_at v b k (with_op Close c) r) r.inside);
    after = refl;
  };
  allowed = λ w e g. ap is_served_found e;
}

-- ---- every class

pub get_ok : (v : View) (b : Past) (k : ℕ) (c : Call) (key word : ℕ) → Replies v b k (with_op (Get key) c)
    → owes (as_watched (with_op (Get key) c)) (Get key) (answered.Value word) (watch_of v b) ≡ None
    → Accepted v b k (with_op (Get key) c) (answered.Value word)
get_ok v b k c key word r h = record {
  counted = omega arith;
  plain = b.blocks;
  frames = b.frames;
  facts = plain_facts v b k (with_op (Get key) c) r refl b.blocks (disk_stays v b k (with_op (Get key) c) r refl);
  comes = record {
    may = ap (λ x. eqb x word) (sym (register_is v b k (with_op (Get key) c) r refl key))
        ∙ (required_met (eqb (slice_index v.dev.registers key) word) 14 None h).0;
    after = refl;
  };
  allowed = λ w e g. refl;
}

pub set_ok : (v : View) (b : Past) (k : ℕ) (c : Call) (key value : ℕ) → Replies v b k (with_op (Set key value) c)
    → owes (as_watched (with_op (Set key value) c)) (Set key value) answered.Done (watch_of v b) ≡ None
    → Accepted v b k (with_op (Set key value) c) answered.Done
set_ok v b k c key value r h = record {
  counted = omega arith;
  plain = b.blocks;
  frames = b.frames;
  facts = record {
    keys = length-set v.config key value ∙ r.facts.keys;
    disk = disk_stays v b k (with_op (Set key value) c) r refl;
    holders = λ j d h ne i. r.facts.holders j d h i;
    registers = λ j. inl (by_key j (cases_eq j key));
    chain = r.facts.chain;
    handed_up = λ j d h ne i u t. r.facts.handed_up r.running j d h i u t;
  };
  comes = record { may = refl; after = refl };
  allowed = λ w e g. ap is_served_found e;
}
  where
    at : At (cores b) k (with_op (Set key value) c).core
    at = core_at v b k (with_op (Set key value) c) r

    small : static_check v.class v.size (Set key value) ≡ None → key < 4
    small e = by_test (nat_le key 3) refl
      where
        by_test : (t : Bool) → nat_le key 3 ≡ t → key < 4
        by_test true t = omega (arith, leb-true key 3 t)
        by_test false t = absurd cc

    other : (j : ℕ) → (j ≡ key → ⊥) → (slice_index v.dev.registers j ≡ slice_index v.config j) ⊎ IsSetting (cores b) j (slice_index v.dev.registers j)
        → slice_index v.dev.registers j ≡ slice_index v.config j
    other j n (inl e) = e
    other j n (inr s) = by_position (cases_eq k s.index)
      where
        by_position : (k ≡ s.index) ⊎ (k ≡ s.index → ⊥) → slice_index v.dev.registers j ≡ slice_index v.config j
        by_position (inl e) = absurd (n (key_of j key (slice_index v.dev.registers j) value
            (sym s.sets ∙ ap (λ x. x.op) (same_at (cores b) k s.call (with_op (Set key value) c).core (subst (λ p. At (cores b) p s.call) (sym e) s.at) at))))
          where
            key_of : (j key w value : ℕ) → Set j w ≡ Set key value → j ≡ key
            key_of j key w value e = ap first_key e
              where
                first_key : Op → ℕ
                first_key (Set key value) = key
                first_key o = 0
        by_position (inr e) = absurd (set_alone v b r.facts k s.index (with_op (Set key value) c).core s.call at s.at r.inside s.inside refl e)

    by_key : (j : ℕ) → (j ≡ key) ⊎ (j ≡ key → ⊥) → slice_index v.dev.registers j ≡ slice_index (slice_set v.config key value) j
    by_key j (inl e) = ap (slice_index v.dev.registers) e
        ∙ eqb-true (slice_index v.dev.registers key) value (required_met (eqb (slice_index v.dev.registers key) value) 13 None h).0
        ∙ sym (ap (slice_index (slice_set v.config key value)) e
        ∙ get_or-set_same v.config key value 0 (subst (λ n. key < n) (sym r.facts.keys) (small (checks v b k (with_op (Set key value) c) r))))
    by_key j (inr n) = other j n (subst (λ m. KeyIn (cores b) v.config v.defaults v.driven m j (slice_index v.dev.registers j)) r.running (r.facts.registers j))
        ∙ by_set (word_set v.config key j value)
      where
        by_set : (slice_index (slice_set v.config key value) j ≡ slice_index v.config j)
            ⊎ ((j ≡ key) × (slice_index (slice_set v.config key value) j ≡ value))
            → slice_index v.config j ≡ slice_index (slice_set v.config key value) j
        by_set (inl e) = sym e
        by_set (inr e) = absurd (n e.0)
