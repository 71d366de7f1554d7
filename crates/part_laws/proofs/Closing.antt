use Rattle.std.proofs.Common.{◌≡◌, ◌⊎◌, ℕ, suc, ◌&&◌, not, true, false, Option, Some, None, is_some, unwrap_or, option_and_then, List, ◌∷◌, ◌++◌, map, filter, length, set, slice_index, sym, ap, subst, ◌∙◌, inl, inr, arith, length-set}
use Rattle.std.proofs.lemmas.Bool.{and_from}
use Rattle.nook_data.specs.declared.calls.Answer.{Answer}
use Rattle.nook_data.specs.declared.calls.Answer.TheVariants as answered
use Rattle.nook_data.specs.declared.steps.Mode.TheVariants as mode
use Rattle.nook_data.specs.declared.calls.Op.{Op}
use Rattle.nook_data.specs.declared.calls.Op.TheVariants.{Recv}
use Rattle.nook_data.specs.Classes.{is_recv, static_check}
use Rattle.promise_defs.specs.Ideal.{Ideal, Opened, ran, after_answer, after_frame, is_due, may_answer}
use Rattle.promise_defs.proofs.PromiseCases.{answers, closes}
use Rattle.part_defs.specs.Log.{is_call}
use Rattle.promise_defs.specs.Trace.{Visible, answer}
use Rattle.nook_data.specs.Frames.{is_empty}
use Rattle.part_laws.specs.Facts.{At, CallsFacts, DiskFacts, HolderFits, IsSetting, KeyIn, ReplayFits, BootFits, Sub, Facts}
use Rattle.part_laws.specs.Views.{View, Past, Core, Call, core_of, cores, open_from, stage_of}
use Rattle.part_laws.proofs.Acts.{ran_step, when_true}
use Rattle.part_laws.proofs.Keeping.{Less, AllLess, calls_less, all_less_set}
use Rattle.part_laws.proofs.OpenCalls.{open_close}
use Rattle.part_laws.proofs.Indices.{get_map, get_set, map_set}

-- A call is answered: it is no longer open.

-- ---- the never-failing device answers an open call

-- an answer that is due
pub due_shown : (m m' : Ideal) (k : ℕ) (o : Opened) (a : Answer) (stored : List ℕ) (more : List Visible) → At m.opened k o
    → o.waits ≡ true → is_due (closes (suc k) m) o a ≡ true → after_answer (closes (suc k) m) o.thread o.op a stored ≡ m'
    → ran m (answer (suc k) a stored ∷ more) ≡ ran m' more
due_shown m m' k o a stored more h w d e = ran_step m m' (answer (suc k) a stored) more
    (ap (option_and_then (answers (closes (suc k) m) a stored)) h
    ∙ when_true (o.waits && is_due (closes (suc k) m) o a) (after_answer (closes (suc k) m) o.thread o.op a stored)
    (and_from o.waits (is_due (closes (suc k) m) o a) w d)
    ∙ ap Some e)

-- an answer that a call may get, and the device after it
pub record Comes (m : Ideal) (thread : ℕ) (o : Op) (a : Answer) (stored : List ℕ) (m' : Ideal) : Type 0 where
  pub may : may_answer m thread o a ≡ true
  pub after : after_answer m thread o a stored ≡ m'

-- it is due if the static check gives no answer
pub comes_due : (m : Ideal) (o : Opened) (a : Answer) → static_check m.class m.size o.op ≡ None
    → may_answer m o.thread o.op a ≡ true → is_due m o a ≡ true
comes_due m o a c e = rw (c, is_due) e

pub answer_shown : (m m' : Ideal) (k : ℕ) (o : Opened) (a : Answer) (stored : List ℕ) (more : List Visible) → At m.opened k o
    → o.waits ≡ true → static_check m.class m.size o.op ≡ None → Comes (closes (suc k) m) o.thread o.op a stored m'
    → ran m (answer (suc k) a stored ∷ more) ≡ ran m' more
answer_shown m m' k o a stored more h w c e =
    due_shown m m' k o a stored more h w (comes_due (closes (suc k) m) o a c e.may) e.after

-- a Recv gets a pending frame
pub frame_comes : (m : Ideal) (thread : ℕ) (frame : List ℕ) (stored : List ℕ) (pending : List (List ℕ))
    → after_frame frame m.pending ≡ Some pending
    → Comes m thread Recv (answered.Frame frame) stored (record m { pending = pending })
frame_comes m thread frame stored pending e = record {
  may = ap is_some e;
  after = ap (λ p. record m { pending = unwrap_or p m.pending }) e;
}

-- ---- the facts

-- a closed core of the same call
pub record Closed (c d : Core) : Type 0 where
  pub thread : d.thread ≡ c.thread
  pub op : d.op ≡ c.op
  pub waits : d.waits ≡ false
  pub inside : d.inside ≡ false

pub closed_less : (c d : Core) → Closed c d → Less c d
closed_less c d x = record {
  thread = x.thread;
  op = x.op;
  waits = λ w. absurd cc (x.waits, w);
  inside = λ i. absurd cc (x.inside, i);
  opened = λ i. absurd cc (x.inside, i);
  attempts = λ w. absurd cc (x.waits, w);
  once = λ o w i. absurd cc (x.waits, w);
}

abbrev pub closed_view : ℕ → List ℕ → Option ℕ → List (List ℕ) → View → View
closed_view n config holder queue v =
    record v { pending = filter (λ c. not (is_call n c)) v.pending; config = config; holder = holder; queue = queue }

-- what must be shown for the facts after an answer
pub record ClosedFacts (v : View) (b : Past) (k : ℕ) (d : Call) (config : List ℕ) (holder : Option ℕ) (queue : List (List ℕ))
    (plain frames : List (List ℕ)) : Type 0 where
  pub keys : length config ≡ 4
  pub disk : DiskFacts (set (cores b) k d.core) plain v.dev.medium
  pub holders : (j : ℕ) (c : Core) → At (cores b) j c → (j ≡ k → ⊥) → c.inside ≡ true → HolderFits holder c.thread c.op
  pub registers : (key : ℕ) → (slice_index v.dev.registers key ≡ slice_index config key)
      ⊎ IsSetting (set (cores b) k d.core) key (slice_index v.dev.registers key)
  pub chain : Sub (queue ++ (b.rest ++ v.dev.ring)) frames
  pub handed_up : (j : ℕ) (c : Call) → At b.calls j c → (j ≡ k → ⊥) → c.core.inside ≡ true → is_recv c.core.op ≡ true → c.handed ≡ true
      → is_empty queue ≡ false

pub closed_facts : (v : View) (b : Past) (k : ℕ) (c d : Call) (config : List ℕ) (holder : Option ℕ) (queue : List (List ℕ))
    (plain frames : List (List ℕ)) → Facts v b → v.mode ≡ mode.Running → At b.calls k c → Closed c.core d.core
    → ClosedFacts v b k d config holder queue plain frames
    → Facts (closed_view (suc k) config holder queue v) (record b { calls = set b.calls k d; blocks = plain; frames = frames })
closed_facts v b k c d config holder queue plain frames f r h x g = record {
  linked = f.linked;
  width = f.width;
  keys = g.keys;
  defaults = f.defaults;
  pending = ap (filter (λ c. not (is_call (suc k) c))) f.pending
      ∙ ap (λ n. filter (λ c. not (is_call n c)) (open_from 1 (cores b))) (omega arith)
      ∙ open_close 1 (cores b) k c.core d.core at x.waits ∙ ap (open_from 1) (sym same);
  count = f.count ∙ sym (length-set b.calls k d);
  calls = subst (λ cs. CallsFacts v.class v.size cs) (sym same) (calls_less v.class v.size (cores b) (set (cores b) k d.core) f.calls less);
  disk = subst (λ cs. DiskFacts cs plain v.dev.medium) (sym same) g.disk;
  holders = λ j y i s. holders j y s (get_set (cores b) j k d.core y (subst (λ cs. At cs j y) same i));
  registers = λ key. subst (λ cs. KeyIn cs config v.defaults v.driven v.mode key (slice_index v.dev.registers key)) (sym same)
      (subst (λ m. KeyIn (set (cores b) k d.core) config v.defaults v.driven m key (slice_index v.dev.registers key)) (sym r) (g.registers key));
  replay = subst (λ m. ReplayFits config (stage_of m)) (sym r) tt;
  booting = subst (λ m. BootFits config v.defaults m) (sym r) tt;
  chain = g.chain;
  handed_up = λ m j y i s u t. handed j y s u t (get_set b.calls j k d y i);
  insides = λ j y i s. f.insides j (less j y (subst (λ cs. At cs j y) same i)).0 (less j y (subst (λ cs. At cs j y) same i)).1
      ((less j y (subst (λ cs. At cs j y) same i)).2.inside s);
  driving = f.driving;
}
  where
    at : At (cores b) k c.core
    at = get_map core_of b.calls k c h

    same : map core_of (set b.calls k d) ≡ set (cores b) k d.core
    same = map_set core_of b.calls k d

    less : AllLess (cores b) (set (cores b) k d.core)
    less = all_less_set v.class v.size (cores b) f.calls k c.core d.core at (closed_less c.core d.core x)

    holders : (j : ℕ) (y : Core) → y.inside ≡ true → ((j ≡ k) × (y ≡ d.core)) ⊎ ((j ≡ k → ⊥) × At (cores b) j y) → HolderFits holder y.thread y.op
    holders j y s (inl i) = absurd cc (x.inside, sym (ap (λ z. z.inside) i.1) ∙ s)
    holders j y s (inr i) = g.holders j y i.1 i.0 s

    handed : (j : ℕ) (y : Call) → y.core.inside ≡ true → is_recv y.core.op ≡ true → y.handed ≡ true
        → ((j ≡ k) × (y ≡ d)) ⊎ ((j ≡ k → ⊥) × At b.calls j y) → is_empty queue ≡ false
    handed j y s u t (inl i) = absurd cc (x.inside, sym (ap (λ z. z.core.inside) i.1) ∙ s)
    handed j y s u t (inr i) = g.handed_up j y i.1 i.0 s u t
