use Rattle.std.proofs.Common.{◌≡◌, ◌<◌, ◌⊎◌, ℕ, zero, suc, Bool, true, false, Option, None, List, [], ◌∷◌, ◌++◌, length, set, slice_index_or, sym, refl, ap, subst, ◌∙◌, inl, inr, arith}
use Rattle.std.proofs.lemmas.Bool.{cases_eq, cases_order}
use Rattle.nook_data.specs.declared.classes.Class.{Class}
use Rattle.nook_data.specs.declared.calls.Op.{Op}
use Rattle.promise_defs.specs.Blocks.{has_block, words_for}
use Rattle.nook_data.specs.Classes.{conflicts, covers, is_write, static_check}
use Rattle.part_laws.specs.Facts.{At, CallFacts, CallsFacts, IsStored, DiskFacts, HolderFits, is_once}
use Rattle.part_laws.specs.Moves.{new_core, enter_core}
use Rattle.part_laws.specs.Views.{Core}
use Rattle.part_laws.proofs.Indices.{same_at, get_set_same, get_set_other, get_set, get_push, get_keep}

-- The facts on calls and on the medium, after a step changes the calls.

-- ---- two open calls that were Inside do not conflict

pub no_conflict : (class : Class) (size : ℕ) (cs : List Core) → CallsFacts class size cs
    → (j k : ℕ) (c d : Core) → At cs j c → At cs k d → (j ≡ k → ⊥) → c.waits ≡ true → d.waits ≡ true → 0 < c.attempts → 0 < d.attempts
    → (conflicts class d.op c.op ≡ false) ⊎ (conflicts class c.op d.op ≡ false)
no_conflict class size cs f j k c d hc hd n wc wd ac ad = by_order (cases_order j k)
  where
    by_order : (j ≡ k) ⊎ ((j < k) ⊎ (k < j)) → (conflicts class d.op c.op ≡ false) ⊎ (conflicts class c.op d.op ≡ false)
    by_order (inl e) = absurd (n e)
    by_order (inr (inl l)) = inl (f.apart j k c d hc hd l wc wd ad)
    by_order (inr (inr l)) = inr (f.apart k j d c hd hc l wd wc ac)

-- ---- a call that is open only if it was open before

pub record Less (c d : Core) : Type 0 where
  pub thread : d.thread ≡ c.thread
  pub op : d.op ≡ c.op
  pub waits : d.waits ≡ true → c.waits ≡ true
  pub inside : d.inside ≡ true → c.inside ≡ true
  pub opened : d.inside ≡ true → d.waits ≡ true
  pub attempts : d.waits ≡ true → d.attempts ≡ c.attempts
  pub once : is_once d.op ≡ true → d.waits ≡ true → c.inside ≡ true → d.inside ≡ true

abbrev pub AllLess : List Core → List Core → Type 0
AllLess cs ds = (k : ℕ) (d : Core) → At ds k d → (c : Core) × At cs k c × Less c d

pub call_less : (class : Class) (size : ℕ) (c d : Core) → CallFacts class size c → Less c d → CallFacts class size d
call_less class size c d f l = record {
  thread = subst (λ t. t < 16) (sym l.thread) f.thread;
  checked = λ w. ap (static_check class size) l.op ∙ f.checked (l.waits w);
  entered = λ i. subst (λ n. 0 < n) (sym (l.attempts (l.opened i))) (f.entered (l.inside i));
  opened = l.opened;
  once = λ o w a. l.once o w (f.once (ap is_once (sym l.op) ∙ o) (l.waits w) (subst (λ n. 0 < n) (l.attempts w) a));
}

pub calls_less : (class : Class) (size : ℕ) (cs ds : List Core) → CallsFacts class size cs → AllLess cs ds → CallsFacts class size ds
calls_less class size cs ds f back = record {
  each = λ k d h. call_less class size (back k d h).0 d (f.each k (back k d h).0 (back k d h).1) (back k d h).2;
  alone = λ j k d e hd he wd we t. f.alone j k (back j d hd).0 (back k e he).0 (back j d hd).1 (back k e he).1
      ((back j d hd).2.waits wd) ((back k e he).2.waits we) (sym (back j d hd).2.thread ∙ t ∙ (back k e he).2.thread);
  apart = λ j k d e hd he l wd we a.
      ap (λ o. conflicts class o d.op) (back k e he).2.op ∙ ap (conflicts class (back k e he).0.op) (back j d hd).2.op
      ∙ f.apart j k (back j d hd).0 (back k e he).0 (back j d hd).1 (back k e he).1 l
      ((back j d hd).2.waits wd) ((back k e he).2.waits we) (subst (λ n. 0 < n) ((back k e he).2.attempts we) a);
}

pub less_same : (c : Core) → (c.inside ≡ true → c.waits ≡ true) → Less c c
less_same c o = record
    { thread = refl; op = refl; waits = λ w. w; inside = λ i. i; opened = o; attempts = λ w. refl; once = λ o w i. i }

-- one call is changed
pub all_less_set : (class : Class) (size : ℕ) (cs : List Core) → CallsFacts class size cs
    → (k : ℕ) (c d : Core) → At cs k c → Less c d → AllLess cs (set cs k d)
all_less_set class size cs f k c d h l j e i = by_position (get_set cs j k d e i)
  where
    by_position : ((j ≡ k) × (e ≡ d)) ⊎ ((j ≡ k → ⊥) × At cs j e) → (c : Core) × At cs j c × Less c e
    by_position (inl s) = (c, subst (λ p. At cs p c) (sym s.0) h, subst (λ x. Less c x) (sym s.1) l)
    by_position (inr s) = (e, s.1, less_same e (f.each j e s.1).opened)

-- the holder and the calls that are Inside
pub holders_less : (holder : Option ℕ) (cs ds : List Core) → AllLess cs ds
    → ((k : ℕ) (c : Core) → At cs k c → c.inside ≡ true → HolderFits holder c.thread c.op)
    → (k : ℕ) (d : Core) → At ds k d → d.inside ≡ true → HolderFits holder d.thread d.op
holders_less holder cs ds back f k d h i =
    subst (λ t. HolderFits holder t d.op) (sym (back k d h).2.thread)
    (subst (λ o. HolderFits holder (back k d h).0.thread o) (sym (back k d h).2.op)
    (f k (back k d h).0 (back k d h).1 ((back k d h).2.inside i)))

-- ---- a call is made

pub calls_push : (class : Class) (size : ℕ) (cs : List Core) → CallsFacts class size cs → (t : ℕ) (o : Op) (w : Bool)
    → t < 16 → (w ≡ true → static_check class size o ≡ None)
    → ((k : ℕ) (c : Core) → At cs k c → c.waits ≡ true → c.thread ≡ t → ⊥)
    → CallsFacts class size (cs ++ new_core t o w ∷ [])
calls_push class size cs f t o w small checked alone = record {
  each = λ k c h. each k c (get_push cs k (new_core t o w) c h);
  alone = λ j k c d hc hd wc wd s. both j k c d wc wd s (get_push cs j (new_core t o w) c hc) (get_push cs k (new_core t o w) d hd);
  apart = λ j k c d hc hd l wc wd a. apart j k c d hc l wc wd a (get_push cs j (new_core t o w) c hc) (get_push cs k (new_core t o w) d hd);
}
  where
    new : CallFacts class size (new_core t o w)
    new = record { thread = small; checked = checked; entered = λ i. absurd cc; opened = λ i. absurd cc; once = λ u v a. absurd (omega (arith, a)) }

    each : (k : ℕ) (c : Core) → At cs k c ⊎ ((k ≡ length cs) × (c ≡ new_core t o w)) → CallFacts class size c
    each k c (inl h) = f.each k c h
    each k c (inr h) = subst (λ x. CallFacts class size x) (sym h.1) new

    both : (j k : ℕ) (c d : Core) → c.waits ≡ true → d.waits ≡ true → c.thread ≡ d.thread
        → At cs j c ⊎ ((j ≡ length cs) × (c ≡ new_core t o w)) → At cs k d ⊎ ((k ≡ length cs) × (d ≡ new_core t o w)) → j ≡ k
    both j k c d wc wd s (inl h) (inl i) = f.alone j k c d h i wc wd s
    both j k c d wc wd s (inl h) (inr i) = absurd (alone j c h wc (s ∙ ap (λ x. x.thread) i.1))
    both j k c d wc wd s (inr h) (inl i) = absurd (alone k d i wd (sym s ∙ ap (λ x. x.thread) h.1))
    both j k c d wc wd s (inr h) (inr i) = h.0 ∙ sym i.0

    apart : (j k : ℕ) (c d : Core) → At (cs ++ new_core t o w ∷ []) j c → j < k → c.waits ≡ true → d.waits ≡ true → 0 < d.attempts
        → At cs j c ⊎ ((j ≡ length cs) × (c ≡ new_core t o w)) → At cs k d ⊎ ((k ≡ length cs) × (d ≡ new_core t o w))
        → conflicts class d.op c.op ≡ false
    apart j k c d hc l wc wd a (inl h) (inl i) = f.apart j k c d h i l wc wd a
    apart j k c d hc l wc wd a (inr h) (inl i) = absurd (omega (arith, l, h.0, within cs k d i))
      where
        within : (cs : List Core) (k : ℕ) (d : Core) → At cs k d → k < length cs
        within [] k d h = absurd cc
        within (c ∷ cs) zero d h = omega arith
        within (c ∷ cs) (suc k) d h = omega (arith, within cs k d h)
    apart j k c d hc l wc wd a h (inr i) = absurd (omega (arith, subst (λ x. 0 < x.attempts) i.1 a))

-- ---- a held call goes Inside

pub calls_enter : (class : Class) (size : ℕ) (cs : List Core) → CallsFacts class size cs → (k : ℕ) (c : Core) → At cs k c → c.waits ≡ true
    → ((j : ℕ) (d : Core) → At cs j d → d.waits ≡ true → j < k → conflicts class c.op d.op ≡ false)
    → CallsFacts class size (set cs k (enter_core true c))
calls_enter class size cs f k c h w free = record {
  each = λ j d i. each j d (get_set cs j k (enter_core true c) d i);
  alone = λ i j d e hd he wd we t. alone i j d e wd we t (get_set cs i k (enter_core true c) d hd) (get_set cs j k (enter_core true c) e he);
  apart = λ i j d e hd he l wd we a. apart i j d e l wd we a (get_set cs i k (enter_core true c) d hd) (get_set cs j k (enter_core true c) e he);
}
  where
    old : CallFacts class size c
    old = f.each k c h

    new : CallFacts class size (enter_core true c)
    new = record { thread = old.thread; checked = λ v. old.checked w; entered = λ i. omega arith; opened = λ i. refl; once = λ o v a. refl }

    each : (j : ℕ) (d : Core) → ((j ≡ k) × (d ≡ enter_core true c)) ⊎ ((j ≡ k → ⊥) × At cs j d) → CallFacts class size d
    each j d (inl s) = subst (λ x. CallFacts class size x) (sym s.1) new
    each j d (inr s) = f.each j d s.1

    alone : (i j : ℕ) (d e : Core) → d.waits ≡ true → e.waits ≡ true → d.thread ≡ e.thread
        → ((i ≡ k) × (d ≡ enter_core true c)) ⊎ ((i ≡ k → ⊥) × At cs i d) → ((j ≡ k) × (e ≡ enter_core true c)) ⊎ ((j ≡ k → ⊥) × At cs j e) → i ≡ j
    alone i j d e wd we t (inl s) (inl u) = s.0 ∙ sym u.0
    alone i j d e wd we t (inl s) (inr u) = s.0 ∙ f.alone k j c e h u.1 w we (sym (ap (λ x. x.thread) s.1) ∙ t)
    alone i j d e wd we t (inr s) (inl u) = f.alone i k d c s.1 h wd w (t ∙ ap (λ x. x.thread) u.1) ∙ sym u.0
    alone i j d e wd we t (inr s) (inr u) = f.alone i j d e s.1 u.1 wd we t

    apart : (i j : ℕ) (d e : Core) → i < j → d.waits ≡ true → e.waits ≡ true → 0 < e.attempts
        → ((i ≡ k) × (d ≡ enter_core true c)) ⊎ ((i ≡ k → ⊥) × At cs i d) → ((j ≡ k) × (e ≡ enter_core true c)) ⊎ ((j ≡ k → ⊥) × At cs j e)
        → conflicts class e.op d.op ≡ false
    apart i j d e l wd we a (inl s) (inl u) = absurd (omega (arith, l, s.0, u.0))
    apart i j d e l wd we a (inl s) (inr u) =
        ap (λ x. conflicts class e.op x.op) s.1 ∙ f.apart k j c e h u.1 (omega (arith, l, s.0)) w we a
    apart i j d e l wd we a (inr s) (inl u) =
        ap (λ x. conflicts class x.op d.op) u.1 ∙ free i d s.1 wd (omega (arith, l, u.0))
    apart i j d e l wd we a (inr s) (inr u) = f.apart i j d e s.1 u.1 l wd we a

-- ---- the medium, if the open Writes keep what they stored

pub record SameWrite (c d : Core) : Type 0 where
  pub waits : d.waits ≡ true
  pub op : d.op ≡ c.op
  pub entered : 0 < c.attempts → 0 < d.attempts
  pub stored : d.stored ≡ c.stored

pub record SameWrites (cs ds : List Core) : Type 0 where
  pub forward : (k : ℕ) (c : Core) → At cs k c → c.waits ≡ true → is_write c.op ≡ true → (d : Core) × At ds k d × SameWrite c d
  pub back : (k : ℕ) (d : Core) (n : ℕ) → At ds k d → d.waits ≡ true → is_write d.op ≡ true → has_block n d.stored ≡ true
      → (c : Core) × At cs k c × (c.waits ≡ true) × SameWrite c d

pub stored_same : (cs ds : List Core) → SameWrites cs ds → (n : ℕ) (words : List ℕ) → IsStored cs n words → IsStored ds n words
stored_same cs ds s n words i = moved (s.forward i.index i.call i.at i.waits i.writes)
  where
    moved : (d : Core) × At ds i.index d × SameWrite i.call d → IsStored ds n words
    moved (d, h, t) = record {
      index = i.index;
      call = d;
      at = h;
      waits = t.waits;
      entered = t.entered i.entered;
      writes = ap is_write t.op ∙ i.writes;
      covered = ap (λ o. covers o n) t.op ∙ i.covered;
      named = ap (has_block n) t.stored ∙ i.named;
      words = i.words ∙ ap (λ o. words_for o n) (sym t.op);
    }

pub disk_same : (cs ds : List Core) (plain medium : List (List ℕ)) → SameWrites cs ds → DiskFacts cs plain medium → DiskFacts ds plain medium
disk_same cs ds plain medium s f = record {
  size = f.size;
  blocks = λ n. by_block n (f.blocks n);
  named = λ k d n h w o b. by_call k d n o b (s.back k d n h w o b);
  covered = λ k d n h w o b. still k d n o b (s.back k d n h w o b);
}
  where
    by_block : (n : ℕ) → (slice_index_or medium n [] ≡ slice_index_or plain n []) ⊎ IsStored cs n (slice_index_or medium n [])
        → (slice_index_or medium n [] ≡ slice_index_or plain n []) ⊎ IsStored ds n (slice_index_or medium n [])
    by_block n (inl e) = inl e
    by_block n (inr i) = inr (stored_same cs ds s n (slice_index_or medium n []) i)

    by_call : (k : ℕ) (d : Core) (n : ℕ) → is_write d.op ≡ true → has_block n d.stored ≡ true
        → (c : Core) × At cs k c × (c.waits ≡ true) × SameWrite c d
        → slice_index_or medium n [] ≡ words_for d.op n
    by_call k d n o b (c, h, w, t) =
        f.named k c n h w (ap is_write (sym t.op) ∙ o) (ap (has_block n) (sym t.stored) ∙ b) ∙ ap (λ o. words_for o n) (sym t.op)

    still : (k : ℕ) (d : Core) (n : ℕ) → is_write d.op ≡ true → has_block n d.stored ≡ true
        → (c : Core) × At cs k c × (c.waits ≡ true) × SameWrite c d → (0 < d.attempts) × (covers d.op n ≡ true)
    still k d n o b (c, h, w, t) = (t.entered old.0, ap (λ o. covers o n) t.op ∙ old.1)
      where
        old : (0 < c.attempts) × (covers c.op n ≡ true)
        old = f.covered k c n h w (ap is_write (sym t.op) ∙ o) (ap (has_block n) (sym t.stored) ∙ b)

-- a new call has stored nothing
pub writes_push : (cs : List Core) (t : ℕ) (o : Op) (w : Bool) → SameWrites cs (cs ++ new_core t o w ∷ [])
writes_push cs t o w = record {
  forward = λ k c h wc i. (c, get_keep cs (new_core t o w ∷ []) k c h, record { waits = wc; op = refl; entered = λ a. a; stored = refl });
  back = λ k d n h wd i b. old k d n wd b (get_push cs k (new_core t o w) d h);
}
  where
    old : (k : ℕ) (d : Core) (n : ℕ) → d.waits ≡ true → has_block n d.stored ≡ true
        → At cs k d ⊎ ((k ≡ length cs) × (d ≡ new_core t o w))
        → (c : Core) × At cs k c × (c.waits ≡ true) × SameWrite c d
    old k d n wd b (inl h) = (d, h, wd, record { waits = wd; op = refl; entered = λ a. a; stored = refl })
    old k d n wd b (inr h) = absurd (false_true (sym (ap (λ x. has_block n x.stored) h.1) ∙ b))
      where
        false_true : false ≡ true → ⊥
        false_true e = absurd cc

-- one call is changed, but stays as it is if it is an open Write
pub writes_set : (cs : List Core) (k : ℕ) (c d : Core) → At cs k c
    → (c.waits ≡ true → is_write c.op ≡ true → SameWrite c d) → (d.waits ≡ true → is_write d.op ≡ true → (c.waits ≡ true) × SameWrite c d)
    → SameWrites cs (set cs k d)
writes_set cs k c d h there here = record {
  forward = λ j e i we w. by_position j e i we w (cases_eq j k);
  back = λ j e n i we w b. old j e we w (get_set cs j k d e i);
}
  where
    by_position : (j : ℕ) (e : Core) → At cs j e → e.waits ≡ true → is_write e.op ≡ true → (j ≡ k) ⊎ (j ≡ k → ⊥)
        → (x : Core) × At (set cs k d) j x × SameWrite e x
    by_position j e i we w (inl s) = (
      d,
      subst (λ p. At (set cs k d) p d) (sym s) (get_set_same cs k c d h),
      subst (λ x. SameWrite x d) (sym same)
          (there (ap (λ x. x.waits) (sym same) ∙ we) (ap (λ x. is_write x.op) (sym same) ∙ w)),
    )
      where
        same : e ≡ c
        same = same_at cs k e c (subst (λ p. At cs p e) s i) h
    by_position j e i we w (inr n) =
        (e, get_set_other cs j k d n ∙ i, record { waits = we; op = refl; entered = λ a. a; stored = refl })

    old : (j : ℕ) (e : Core) → e.waits ≡ true → is_write e.op ≡ true → ((j ≡ k) × (e ≡ d)) ⊎ ((j ≡ k → ⊥) × At cs j e)
        → (x : Core) × At cs j x × (x.waits ≡ true) × SameWrite x e
    old j e we w (inl s) =
        (c, subst (λ p. At cs p c) (sym s.0) h, found.0, subst (λ x. SameWrite c x) (sym s.1) found.1)
      where
        found : (c.waits ≡ true) × SameWrite c d
        found = here (ap (λ x. x.waits) (sym s.1) ∙ we) (ap (λ x. is_write x.op) (sym s.1) ∙ w)
    old j e we w (inr s) = (e, s.1, we, record { waits = we; op = refl; entered = λ a. a; stored = refl })
