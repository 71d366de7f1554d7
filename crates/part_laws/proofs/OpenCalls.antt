use Rattle.std.proofs.Common.{◌≡◌, ◌<◌, ℕ, zero, suc, ◌+◌, ◌&&◌, ◌||◌, not, eqb, Bool, true, false, Some, None, List, [], ◌∷◌, ◌++◌, map, length, set, filter, find, sym, refl, ap, ap₂, ◌∙◌, arith, nat_lt}
use Rattle.std.specs.List.{list_any}
use Rattle.std.proofs.lemmas.Bool.{eqb-true, ne_eqb, eq-eqb, cond-true, cond-false, or_parts}
use Rattle.nook_data.specs.declared.calls.CallEntry.{CallEntry}
use Rattle.nook_data.specs.declared.classes.Class.{Class}
use Rattle.nook_data.specs.Classes.{conflicts}
use Rattle.promise_defs.proofs.PromiseChanges.{waits_for}
use Rattle.part_defs.specs.Log.{is_call, blocks_call, held_call, is_held}
use Rattle.part_defs.proofs.PartCases.{change_entry, is_of_thread, stop_calls}
use Rattle.part_laws.specs.Facts.{At}
use Rattle.part_laws.specs.Moves.{stop_core}
use Rattle.part_laws.specs.Views.{Core, Call, core_of, entry_of, keep_waiting, open_from, as_opened}
use Rattle.part_laws.proofs.Indices.{split, some_same}

-- The part's open calls are the open ones of all calls, numbered by their positions.

-- the open call that a search found
pub record Found (n : ℕ) (cs : List Core) (thread : ℕ) (e : CallEntry) : Type 0 where
  pub index : ℕ
  pub core : Core
  pub at : At cs index core
  pub waits : core.waits ≡ true
  pub mine : core.thread ≡ thread
  pub entry : e ≡ entry_of (n + index) core

further : (n : ℕ) (c : Core) (cs : List Core) (t : ℕ) (e : CallEntry) → Found (suc n) cs t e → Found n (c ∷ cs) t e
further n c cs t e f = record {
  index = suc f.index;
  core = f.core;
  at = f.at;
  waits = f.waits;
  mine = f.mine;
  entry = f.entry ∙ ap (λ m. entry_of m f.core) (omega arith);
}

-- the open call of a thread
pub open_find : (n : ℕ) (cs : List Core) (t : ℕ) (e : CallEntry) → find (is_of_thread t) (open_from n cs) ≡ Some e → Found n cs t e
open_find n [] t e h = absurd cc
open_find n (c ∷ cs) t e h = by_waits c.waits refl h (open_find (suc n) cs t e)
  where
    by_waits : (w : Bool) → c.waits ≡ w → find (is_of_thread t) (keep_waiting w (entry_of n c) (open_from (suc n) cs)) ≡ Some e
        → (find (is_of_thread t) (open_from (suc n) cs) ≡ Some e → Found (suc n) cs t e) → Found n (c ∷ cs) t e
    by_waits false w i later = further n c cs t e (later i)
    by_waits true w i later = split (eqb c.thread t)
        (λ m. record {
          index = 0;
          core = c;
          at = refl;
          waits = w;
          mine = eqb-true c.thread t m;
          entry = sym (some_same (entry_of n c) e
              (sym (cond-true (eqb c.thread t) (Some (entry_of n c)) (find (is_of_thread t) (open_from (suc n) cs)) m) ∙ i))
              ∙ ap (λ k. entry_of k c) (omega arith);
        })
        (λ m. further n c cs t e (later
        (sym (cond-false (eqb c.thread t) (Some (entry_of n c)) (find (is_of_thread t) (open_from (suc n) cs)) m) ∙ i)))

-- a thread with no open call
pub open_none : (n : ℕ) (cs : List Core) (t : ℕ) → find (is_of_thread t) (open_from n cs) ≡ None
    → (k : ℕ) (c : Core) → At cs k c → c.waits ≡ true → c.thread ≡ t → ⊥
open_none n [] t h k c i w m = absurd cc
open_none n (d ∷ cs) t h k c i w m = by_waits d.waits refl h k i (open_none (suc n) cs t)
  where
    by_waits : (v : Bool) → d.waits ≡ v → find (is_of_thread t) (keep_waiting v (entry_of n d) (open_from (suc n) cs)) ≡ None
        → (k : ℕ) → At (d ∷ cs) k c
        → (find (is_of_thread t) (open_from (suc n) cs) ≡ None → (k : ℕ) (c : Core) → At cs k c → c.waits ≡ true → c.thread ≡ t → ⊥) → ⊥
    by_waits false v h zero i later = absurd cc (v, ap (λ x. x.waits) (some_same d c i), w)
    by_waits false v h (suc k) i later = later h k c i w m
    by_waits true v h zero i later =
        absurd cc (sym (cond-true (eqb d.thread t) (Some (entry_of n d)) (find (is_of_thread t) (open_from (suc n) cs))
        (eq-eqb d.thread t (ap (λ x. x.thread) (some_same d c i) ∙ m))) ∙ h)
    by_waits true v h (suc k) i later = split (eqb d.thread t)
        (λ e. absurd cc (sym (cond-true (eqb d.thread t) (Some (entry_of n d)) (find (is_of_thread t) (open_from (suc n) cs)) e) ∙ h))
        (λ e. later (sym (cond-false (eqb d.thread t) (Some (entry_of n d)) (find (is_of_thread t) (open_from (suc n) cs)) e) ∙ h) k c i w m)

-- the same of the never-failing device
pub none_waits : (t : ℕ) (calls : List Call)
    → ((k : ℕ) (c : Core) → At (map core_of calls) k c → c.waits ≡ true → c.thread ≡ t → ⊥)
    → list_any (waits_for t) (map as_opened calls) ≡ false
none_waits t [] h = refl
none_waits t (c ∷ calls) h = ap₂ (λ x y. x || y) (by_waits c.core.waits refl (eqb c.core.thread t) refl)
    (none_waits t calls (λ k d i w m. h (suc k) d i w m))
  where
    by_waits : (w : Bool) → c.core.waits ≡ w → (m : Bool) → eqb c.core.thread t ≡ m → (w && m) ≡ false
    by_waits false w m e = refl
    by_waits true w false e = refl
    by_waits true w true e = absurd (h 0 c.core refl w (eqb-true c.core.thread t e))

-- ---- changes of the open calls

keep_map : (f : CallEntry → CallEntry) (w : Bool) (e : CallEntry) (es : List CallEntry)
    → map f (keep_waiting w e es) ≡ keep_waiting w (f e) (map f es)
keep_map f true e es = refl
keep_map f false e es = refl

keep_filter : (test : CallEntry → Bool) (w : Bool) (e : CallEntry) (es : List CallEntry) → test e ≡ true
    → filter test (keep_waiting w e es) ≡ keep_waiting w e (filter test es)
keep_filter test true e es h = cond-true (test e) (e ∷ filter test es) (filter test es) h
keep_filter test false e es h = refl

drop_filter : (test : CallEntry → Bool) (w : Bool) (e : CallEntry) (es : List CallEntry) → test e ≡ false
    → filter test (keep_waiting w e es) ≡ filter test es
drop_filter test true e es h = cond-false (test e) (e ∷ filter test es) (filter test es) h
drop_filter test false e es h = refl

-- calls after a number do not have it
past_map : (f : CallEntry → CallEntry) (m n : ℕ) (cs : List Core) → m < n → map (change_entry m f) (open_from n cs) ≡ open_from n cs
past_map f m n [] h = refl
past_map f m n (c ∷ cs) h =
    keep_map (change_entry m f) c.waits (entry_of n c) (open_from (suc n) cs)
    ∙ ap₂ (keep_waiting c.waits)
    (cond-false (eqb n m) (f (entry_of n c)) (entry_of n c) (ne_eqb n m (λ e. omega (arith, h, e))))
    (past_map f m (suc n) cs (omega (arith, h)))

past_filter : (m n : ℕ) (cs : List Core) → m < n → filter (λ c. not (is_call m c)) (open_from n cs) ≡ open_from n cs
past_filter m n [] h = refl
past_filter m n (c ∷ cs) h =
    keep_filter (λ c. not (is_call m c)) c.waits (entry_of n c) (open_from (suc n) cs)
    (ap not (ne_eqb n m (λ e. omega (arith, h, e))))
    ∙ ap (keep_waiting c.waits (entry_of n c)) (past_filter m (suc n) cs (omega (arith, h)))

-- an open call is changed at its index
pub open_change : (f : CallEntry → CallEntry) (g : Core → Core) → ((m : ℕ) (c : Core) → f (entry_of m c) ≡ entry_of m (g c))
    → (n : ℕ) (cs : List Core) (k : ℕ) (c : Core) → At cs k c → (g c).waits ≡ c.waits
    → map (change_entry (n + k) f) (open_from n cs) ≡ open_from n (set cs k (g c))
open_change f g e n [] k c h w = absurd cc
open_change f g e n (d ∷ cs) zero c h w =
    keep_map (change_entry (n + 0) f) d.waits (entry_of n d) (open_from (suc n) cs)
    ∙ ap₂ (keep_waiting d.waits)
    (cond-true (eqb n (n + 0)) (f (entry_of n d)) (entry_of n d) (eq-eqb n (n + 0) (omega arith))
    ∙ e n d ∙ ap (λ x. entry_of n (g x)) (some_same d c h))
    (past_map f (n + 0) (suc n) cs (omega arith))
    ∙ ap (λ v. keep_waiting v (entry_of n (g c)) (open_from (suc n) cs)) (ap (λ x. x.waits) (some_same d c h) ∙ sym w)
open_change f g e n (d ∷ cs) (suc k) c h w =
    keep_map (change_entry (n + suc k) f) d.waits (entry_of n d) (open_from (suc n) cs)
    ∙ ap₂ (keep_waiting d.waits)
    (cond-false (eqb n (n + suc k)) (f (entry_of n d)) (entry_of n d) (ne_eqb n (n + suc k) (λ e. omega (arith, e))))
    (ap (λ m. map (change_entry m f) (open_from (suc n) cs)) (omega arith) ∙ open_change f g e (suc n) cs k c h w)

-- an open call is closed at its index
pub open_close : (n : ℕ) (cs : List Core) (k : ℕ) (c d : Core) → At cs k c → d.waits ≡ false
    → filter (λ c. not (is_call (n + k) c)) (open_from n cs) ≡ open_from n (set cs k d)
open_close n [] k c d h w = absurd cc
open_close n (x ∷ cs) zero c d h w =
    drop_filter (λ c. not (is_call (n + 0) c)) x.waits (entry_of n x) (open_from (suc n) cs)
    (ap not (eq-eqb n (n + 0) (omega arith)))
    ∙ past_filter (n + 0) (suc n) cs (omega arith)
    ∙ sym (ap (λ v. keep_waiting v (entry_of n d) (open_from (suc n) cs)) w)
open_close n (x ∷ cs) (suc k) c d h w =
    keep_filter (λ c. not (is_call (n + suc k) c)) x.waits (entry_of n x) (open_from (suc n) cs)
    (ap not (ne_eqb n (n + suc k) (λ e. omega (arith, e))))
    ∙ ap (keep_waiting x.waits (entry_of n x))
    (ap (λ m. filter (λ c. not (is_call m c)) (open_from (suc n) cs)) (omega arith) ∙ open_close (suc n) cs k c d h w)

-- a call is made
pub open_push : (n : ℕ) (cs : List Core) (c : Core)
    → open_from n (cs ++ c ∷ []) ≡ open_from n cs ++ keep_waiting c.waits (entry_of (n + length cs) c) []
open_push n [] c = ap (λ m. keep_waiting c.waits (entry_of m c) []) (omega arith)
open_push n (d ∷ cs) c = by_waits d.waits
    (open_push (suc n) cs c ∙ ap (λ m. open_from (suc n) cs ++ keep_waiting c.waits (entry_of m c) []) (omega arith))
  where
    by_waits : (w : Bool)
        → open_from (suc n) (cs ++ c ∷ []) ≡ open_from (suc n) cs ++ keep_waiting c.waits (entry_of (n + suc (length cs)) c) []
        → keep_waiting w (entry_of n d) (open_from (suc n) (cs ++ c ∷ []))
        ≡ keep_waiting w (entry_of n d) (open_from (suc n) cs) ++ keep_waiting c.waits (entry_of (n + suc (length cs)) c) []
    by_waits true e = ap (λ l. entry_of n d ∷ l) e
    by_waits false e = e

-- at Stop
pub open_stop : (n : ℕ) (cs : List Core) → stop_calls (open_from n cs) ≡ open_from n (map stop_core cs)
open_stop n [] = refl
open_stop n (c ∷ cs) = by_waits c.waits (is_held c.op) refl (open_stop (suc n) cs)
  where
    by_waits : (w t : Bool) → is_held c.op ≡ t → stop_calls (open_from (suc n) cs) ≡ open_from (suc n) (map stop_core cs)
        → stop_calls (keep_waiting w (entry_of n c) (open_from (suc n) cs))
        ≡ keep_waiting (w && t) (entry_of n (stop_core c)) (open_from (suc n) (map stop_core cs))
    by_waits false t k e = e
    by_waits true true k e =
        ap (map held_call) (cond-true (is_held c.op) (entry_of n c ∷ filter (λ c. is_held c.op) (open_from (suc n) cs))
        (filter (λ c. is_held c.op) (open_from (suc n) cs)) k)
        ∙ ap (λ l. entry_of n (stop_core c) ∷ l) e
    by_waits true false k e =
        ap (map held_call) (cond-false (is_held c.op) (entry_of n c ∷ filter (λ c. is_held c.op) (open_from (suc n) cs))
        (filter (λ c. is_held c.op) (open_from (suc n) cs)) k)
        ∙ e

-- a call that is not blocked does not conflict with an earlier open call
pub open_apart : (class : Class) (e : CallEntry) (n : ℕ) (cs : List Core) → list_any (blocks_call class e) (open_from n cs) ≡ false
    → (k : ℕ) (c : Core) → At cs k c → c.waits ≡ true → nat_lt (n + k) e.call ≡ true → conflicts class e.op c.op ≡ false
open_apart class e n [] h k c i w l = absurd cc
open_apart class e n (d ∷ cs) h k c i w l = by_waits d.waits refl h k i l (open_apart class e (suc n) cs)
  where
    by_waits : (v : Bool) → d.waits ≡ v → list_any (blocks_call class e) (keep_waiting v (entry_of n d) (open_from (suc n) cs)) ≡ false
        → (k : ℕ) → At (d ∷ cs) k c → nat_lt (n + k) e.call ≡ true
        → (list_any (blocks_call class e) (open_from (suc n) cs) ≡ false → (k : ℕ) (c : Core) → At cs k c → c.waits ≡ true
        → nat_lt (suc n + k) e.call ≡ true → conflicts class e.op c.op ≡ false)
        → conflicts class e.op c.op ≡ false
    by_waits false v h zero i l later = absurd cc (v, ap (λ x. x.waits) (some_same d c i), w)
    by_waits false v h (suc k) i l later = later h k c i w (ap (λ m. nat_lt m e.call) (omega arith) ∙ l)
    by_waits true v h zero i l later = first (nat_lt n e.call) (conflicts class e.op d.op)
        (ap (λ m. nat_lt m e.call) (omega arith) ∙ l)
        (or_parts (nat_lt n e.call && conflicts class e.op d.op) (list_any (blocks_call class e) (open_from (suc n) cs)) h).0
        (ap (λ x. conflicts class e.op x.op) (some_same d c i))
      where
        first : (a b : Bool) → a ≡ true → (a && b) ≡ false → b ≡ conflicts class e.op c.op → conflicts class e.op c.op ≡ false
        first true b t f s = sym s ∙ f
        first false b t f s = absurd cc
    by_waits true v h (suc k) i l later =
        later (or_parts (nat_lt n e.call && conflicts class e.op d.op) (list_any (blocks_call class e) (open_from (suc n) cs)) h).1
        k c i w (ap (λ m. nat_lt m e.call) (omega arith) ∙ l)
