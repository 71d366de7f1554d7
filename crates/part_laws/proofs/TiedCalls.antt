use Rattle.std.proofs.Common.{◌≡◌, ◌≢◌, ℕ, zero, suc, ◌+◌, ◌-◌, ◌*◌, ◌<◌, ◌≤◌, ◌==◌, not, Bool, true, false, Option, Some, None, List, [], ◌∷◌, ◌++◌, length, map, replicate, slice_set, is_none, refl, sym, ap, ◌∙◌, arith, subst, true≢false, eqb-true}
use Rattle.std.specs.List.{find, filter, AllByRecursion}
use Rattle.std.proofs.lemmas.Bool.{eqb-false, eq-eqb, ne_eqb}
use Rattle.nook_data.specs.declared.calls.CallEntry.{CallEntry}
use Rattle.nook_data.specs.declared.calls.Op.{Op}
use Rattle.nook_data.specs.declared.machine.Context.{Context}
use Rattle.part_defs.specs.Domain.{context_of}
use Rattle.part_defs.specs.Log.{is_call, call_of_thread, held_call}
use Rattle.part_defs.proofs.PartCases.{bursts_of, change_entry, is_of_thread, new_entry, no_context}
use Rattle.machine_defs.proofs.BurstKeeps.{split}
use Rattle.part_laws.specs.Tied.{IsRising, AreApart}

-- Open calls and contexts: what remains of the others when one of them changes.

-- contexts

pub context_set_same : (contexts : List (Option Context)) (i : ℕ) (o : Option Context) → i < length contexts
    → context_of i (slice_set contexts i o) ≡ o
context_set_same [] i o h = absurd (none' i h)
  where
    none' : (i : ℕ) → i < 0 → ⊥
    none' i h = omega arith
context_set_same (x ∷ contexts) zero o h = refl
context_set_same (x ∷ contexts) (suc i) o h = context_set_same contexts i o (omega arith)

pub context_set_other : (contexts : List (Option Context)) (i j : ℕ) (o : Option Context) → j ≢ i
    → context_of j (slice_set contexts i o) ≡ context_of j contexts
context_set_other [] i j o h = refl
context_set_other (x ∷ contexts) zero zero o h = absurd (h refl)
context_set_other (x ∷ contexts) zero (suc j) o h = refl
context_set_other (x ∷ contexts) (suc i) zero o h = refl
context_set_other (x ∷ contexts) (suc i) (suc j) o h = context_set_other contexts i j o (λ e. h (ap suc e))

pub no_contexts : (n i : ℕ) → context_of i (replicate n no_context) ≡ None
no_contexts zero i = refl
no_contexts (suc n) zero = refl
no_contexts (suc n) (suc i) = no_contexts n i

-- the contexts of all threads but one do not change
abbrev pub SameBut : ℕ → List (Option Context) → List (Option Context) → Type 0
SameBut t before after = (j : ℕ) → j < 16 → (j == t) ≡ false → context_of j after ≡ context_of j before

pub set_same_but : (t : ℕ) (contexts : List (Option Context)) (o : Option Context) → SameBut t contexts (slice_set contexts t o)
set_same_but t contexts o j h e = context_set_other contexts t j o (eqb-false j t e)

pub set_sixteen : (t : ℕ) (contexts : List (Option Context)) (o : Option Context) → SameBut t contexts (slice_set contexts 16 o)
set_sixteen t contexts o j h e = context_set_other contexts 16 j o (not_sixteen j h)
  where
    not_sixteen : (j : ℕ) → j < 16 → j ≡ 16 → ⊥
    not_sixteen j h e = omega arith

pub same_but_both : (t : ℕ) (a b c : List (Option Context)) → SameBut t a b → SameBut t b c → SameBut t a c
same_but_both t a b c f g j h e = g j h e ∙ f j h e

-- the numbers

pub rising_lower : (low lower count : ℕ) (pending : List CallEntry) → lower ≤ low → IsRising low count pending → IsRising lower count pending
rising_lower low lower count [] h r = tt
rising_lower low lower count (c ∷ pending) h r = (omega arith, r.1, r.2)

pub rising_filter : (test : CallEntry → Bool) (low count : ℕ) (pending : List CallEntry) → IsRising low count pending
    → IsRising low count (filter test pending)
rising_filter test low count [] r = tt
rising_filter test low count (c ∷ pending) r =
    let more : IsRising c.call count (filter test pending) = rising_filter test c.call count pending r.2 in
    split (test c)
    (λ kept. rw (kept, filter) (r.0, r.1, more))
    (λ gone. rw (gone, filter) (rising_lower c.call low count (filter test pending) (omega arith) more))

pub rising_map : (f : CallEntry → CallEntry) (low count : ℕ) (pending : List CallEntry) → ((c : CallEntry) → (f c).call ≡ c.call)
    → IsRising low count pending → IsRising low count (map f pending)
rising_map f low count [] same r = tt
rising_map f low count (c ∷ pending) same r =
    let e : (f c).call ≡ c.call = same c in
    let more : IsRising c.call count (map f pending) = rising_map f c.call count pending same r.2 in
    (omega arith, omega arith, rw e more)

pub rising_push : (low count thread : ℕ) (o : Op) (pending : List CallEntry) → low ≤ count → IsRising low count pending
    → IsRising low (count + 1) (pending ++ new_entry (count + 1) thread o ∷ [])
rising_push low count thread o [] h r = (omega arith, omega arith, tt)
rising_push low count thread o (c ∷ pending) h r = (r.0, omega arith, rising_push c.call count thread o pending r.1 r.2)

pub rising_more : (low count : ℕ) (pending : List CallEntry) → IsRising low count pending → IsRising low (count + 1) pending
rising_more low count [] r = tt
rising_more low count (c ∷ pending) r = (r.0, omega arith, rising_more c.call count pending r.2)

pub found_above : (thread low count : ℕ) (pending : List CallEntry) (c : CallEntry) → IsRising low count pending
    → call_of_thread thread pending ≡ Some c → low < c.call
found_above thread low count [] c r h = cc
found_above thread low count (d ∷ pending) c r h = split (is_of_thread thread d)
    (λ here. at_head (rw (here, find) at h))
    (λ later. let more : d.call < c.call = found_above thread d.call count pending c r.2 (rw (later, find) at h) in omega arith)
  where
    at_head : Some d ≡ Some c → low < c.call
    at_head e = let s : d ≡ c = cc in rw (← s) r.0

-- the threads

pub apart_filter : (test : CallEntry → Bool) (pending : List CallEntry) → AreApart pending → AreApart (filter test pending)
apart_filter test [] a = tt
apart_filter test (c ∷ pending) a =
    let more : AreApart (filter test pending) = apart_filter test pending a.1 in
    let others = all_filter (λ d. (d.thread == c.thread) ≡ false) test pending a.0 in
    split (test c)
    (λ kept. rw (kept, filter) (others, more))
    (λ gone. rw (gone, filter) more)
  where
    all_filter : (P : CallEntry → Type 0) (t : CallEntry → Bool) (xs : List CallEntry) → AllByRecursion P xs → AllByRecursion P (filter t xs)
    all_filter P t [] all = tt
    all_filter P t (x ∷ xs) all =
        let m : AllByRecursion P (filter t xs) = all_filter P t xs all.1 in
        split (t x) (λ kept. rw (kept, filter) (all.0, m)) (λ gone. rw (gone, filter) m)

pub apart_map : (f : CallEntry → CallEntry) (pending : List CallEntry) → ((c : CallEntry) → (f c).thread ≡ c.thread)
    → AreApart pending → AreApart (map f pending)
apart_map f [] same a = tt
apart_map f (c ∷ pending) same a = (others pending a.0, apart_map f pending same a.1)
  where
    others : (xs : List CallEntry) → AllByRecursion (λ d. (d.thread == c.thread) ≡ false) xs
        → AllByRecursion (λ d. (d.thread == (f c).thread) ≡ false) (map f xs)
    others [] all = tt
    others (d ∷ xs) all = (rw (same d, same c) all.0, others xs all.1)

no_call_apart : (thread : ℕ) (pending : List CallEntry) → is_none (call_of_thread thread pending) ≡ true
    → AllByRecursion (λ d. is_of_thread thread d ≡ false) pending
no_call_apart thread [] h = tt
no_call_apart thread (d ∷ pending) h = split (is_of_thread thread d)
    (λ here. absurd (true≢false (sym (rw (here, find) at h))))
    (λ other. (other, no_call_apart thread pending (rw (other, find) at h)))

pub apart_push : (thread call : ℕ) (o : Op) (pending : List CallEntry) → is_none (call_of_thread thread pending) ≡ true → AreApart pending
    → AreApart (pending ++ new_entry call thread o ∷ [])
apart_push thread call o pending h a = go pending (no_call_apart thread pending h) a
  where
    flip : (a b : ℕ) → (a == b) ≡ false → (b == a) ≡ false
    flip a b e = ne_eqb b a (λ same. eqb-false a b e (sym same))

    others : (t : ℕ) (xs : List CallEntry) → (t == thread) ≡ false → AllByRecursion (λ d. (d.thread == t) ≡ false) xs
        → AllByRecursion (λ d. (d.thread == t) ≡ false) (xs ++ new_entry call thread o ∷ [])
    others t [] e all = (flip t thread e, tt)
    others t (x ∷ xs) e all = (all.0, others t xs e all.1)

    go : (xs : List CallEntry) → AllByRecursion (λ d. is_of_thread thread d ≡ false) xs → AreApart xs → AreApart (xs ++ new_entry call thread o ∷ [])
    go [] all a' = (tt, tt)
    go (x ∷ xs) all a' = (others x.thread xs all.0 a'.0, go xs all.1 a'.1)

-- a thread's call never belongs to another thread, and no other has its number

above_not_call : (call low count : ℕ) (pending : List CallEntry) → call ≤ low → IsRising low count pending
    → AllByRecursion (λ d. is_call call d ≡ false) pending
above_not_call call low count [] h r = tt
above_not_call call low count (d ∷ pending) h r =
    (ne_eqb d.call call (λ e. less (e)), above_not_call call d.call count pending (omega arith) r.2)
  where
    less : d.call ≡ call → ⊥
    less e = let a : low < d.call = r.0 in omega arith

rest_entered : (P Q : CallEntry → Type 0) (f : CallEntry → CallEntry) (thread call : ℕ) (pending : List CallEntry)
    → ((d : CallEntry) → (d.thread == thread) ≡ false → P d → Q d)
    → AllByRecursion (λ d. (d.thread == thread) ≡ false) pending → AllByRecursion (λ d. is_call call d ≡ false) pending
    → AllByRecursion P pending → AllByRecursion Q (map (change_entry call f) pending)
rest_entered P Q f thread call [] others t n all = tt
rest_entered P Q f thread call (d ∷ pending) others t n all =
    (rw n.0 (others d t.0 all.0), rest_entered P Q f thread call pending others t.1 n.1 all.1)

of_thread : (thread : ℕ) (d : CallEntry) (pending : List CallEntry) → is_of_thread thread d ≡ true
    → AllByRecursion (λ x. (x.thread == d.thread) ≡ false) pending → AllByRecursion (λ x. (x.thread == thread) ≡ false) pending
of_thread thread d pending h all = let e : d.thread ≡ thread = eqb-true d.thread thread h in rw (← e) all

-- what one call becomes and what all others become
pub one_entered : (P Q : CallEntry → Type 0) (f : CallEntry → CallEntry) (thread low count : ℕ) (pending : List CallEntry) (c : CallEntry)
    → ((d : CallEntry) → (d.thread == thread) ≡ false → P d → Q d) → (P c → Q (f c))
    → IsRising low count pending → AreApart pending → call_of_thread thread pending ≡ Some c → AllByRecursion P pending
    → AllByRecursion Q (map (change_entry c.call f) pending)
one_entered P Q f thread low count [] c others one r a h all = cc
one_entered P Q f thread low count (d ∷ pending) c others one r a h all = split (is_of_thread thread d)
    (λ here. at_head here (rw (here, find) at h))
    (λ later.
    let found : call_of_thread thread pending ≡ Some c = rw (later, find) at h in
    let below : d.call < c.call = found_above thread d.call count pending c r.2 found in
    let other : is_call c.call d ≡ false = ne_eqb d.call c.call (λ e. no_order d.call c.call below e) in
    (rw other (others d later all.0), one_entered P Q f thread d.call count pending c others one r.2 a.1 found all.1))
  where
    no_order : (m n : ℕ) → m < n → m ≡ n → ⊥
    no_order m n h e = omega arith

    at_d : (P d → Q (f d)) → is_of_thread thread d ≡ true → AllByRecursion Q (map (change_entry d.call f) (d ∷ pending))
    at_d one' here = (
      rw (eq-eqb d.call d.call refl) (one' all.0),
      rest_entered P Q f thread d.call pending others (of_thread thread d pending here a.0) (above_not_call d.call d.call count pending (omega arith) r.2) all.1,
    )

    at_head : is_of_thread thread d ≡ true → Some d ≡ Some c → AllByRecursion Q (map (change_entry c.call f) (d ∷ pending))
    at_head here e =
        let s : d ≡ c = cc in
        subst (λ x. AllByRecursion Q (map (change_entry x.call f) (d ∷ pending))) s (at_d (subst (λ x. P x → Q (f x)) (sym s) one) here)

abbrev pub without_call : ℕ → List CallEntry → List CallEntry
without_call call pending = filter (λ c. not (is_call call c)) pending

rest_removed : (P Q : CallEntry → Type 0) (test : CallEntry → Bool) (thread : ℕ) (pending : List CallEntry)
    → ((d : CallEntry) → (d.thread == thread) ≡ false → P d → Q d)
    → AllByRecursion (λ d. (d.thread == thread) ≡ false) pending → AllByRecursion P pending → AllByRecursion Q (filter test pending)
rest_removed P Q test thread [] others t all = tt
rest_removed P Q test thread (d ∷ pending) others t all =
    let more : AllByRecursion Q (filter test pending) = rest_removed P Q test thread pending others t.1 all.1 in
    split (test d)
    (λ kept. rw (kept, filter) (others d t.0 all.0, more))
    (λ gone. rw (gone, filter) more)

-- what all calls but one become when that one is removed
pub one_removed : (P Q : CallEntry → Type 0) (thread : ℕ) (pending : List CallEntry) (c : CallEntry)
    → ((d : CallEntry) → (d.thread == thread) ≡ false → P d → Q d)
    → AreApart pending → call_of_thread thread pending ≡ Some c → AllByRecursion P pending
    → AllByRecursion Q (without_call c.call pending)
one_removed P Q thread [] c others a h all = cc
one_removed P Q thread (d ∷ pending) c others a h all = split (is_of_thread thread d)
    (λ here. at_head here (rw (here, find) at h))
    (λ later.
    let more : AllByRecursion Q (without_call c.call pending) =
    one_removed P Q thread pending c others a.1 (rw (later, find) at h) all.1 in
    split (not (is_call c.call d))
    (λ kept. rw (kept, filter) (others d later all.0, more))
    (λ gone. rw (gone, filter) more))
  where
    at_head : is_of_thread thread d ≡ true → Some d ≡ Some c → AllByRecursion Q (without_call c.call (d ∷ pending))
    at_head here e =
        let s : d ≡ c = cc in
        subst (λ x. AllByRecursion Q (without_call x.call (d ∷ pending))) s
        (rw (eq-eqb d.call d.call refl, filter)
        (rest_removed P Q (λ x. not (is_call d.call x)) thread pending others (of_thread thread d pending here a.0) all.1))

-- How many events an open call may still need

abbrev pub inside_left : Bool → Option Context → ℕ
inside_left false o = 33
inside_left true o = 32 - bursts_of o

abbrev pub call_left : List (Option Context) → CallEntry → ℕ
call_left contexts c = inside_left c.inside (context_of c.thread contexts)

abbrev pub calls_left : List (Option Context) → List CallEntry → ℕ
calls_left contexts [] = 0
calls_left contexts (c ∷ pending) = call_left contexts c + calls_left contexts pending

abbrev pub AreThreads : List CallEntry → Type 0
AreThreads pending = AllByRecursion (λ c. c.thread < 16) pending

same_left : (t : ℕ) (before after : List (Option Context)) (d : CallEntry) → SameBut t before after → d.thread < 16
    → (d.thread == t) ≡ false → call_left after d ≡ call_left before d
same_left t before after d s h e = ap (inside_left d.inside) (s d.thread h e)

pub same_calls_left : (t : ℕ) (before after : List (Option Context)) (pending : List CallEntry) → SameBut t before after → AreThreads pending
    → AllByRecursion (λ d. (d.thread == t) ≡ false) pending → calls_left after pending ≡ calls_left before pending
same_calls_left t before after [] s th e = refl
same_calls_left t before after (d ∷ pending) s th e =
    let a : call_left after d ≡ call_left before d = same_left t before after d s th.0 e.0 in
    let b : calls_left after pending ≡ calls_left before pending = same_calls_left t before after pending s th.1 e.1 in
    omega arith

pub one_less : (t k : ℕ) (before after : List (Option Context)) (pending : List CallEntry) (c : CallEntry) → SameBut t before after
    → AreThreads pending → AreApart pending → call_of_thread t pending ≡ Some c → call_left after c + k ≤ call_left before c
    → calls_left after pending + k ≤ calls_left before pending
one_less t k before after [] c s th a h l = cc
one_less t k before after (d ∷ pending) c s th a h l = split (is_of_thread t d)
    (λ here.
    let same : d ≡ c = some_same (rw (here, find) at h) in
    let b : calls_left after pending ≡ calls_left before pending =
    same_calls_left t before after pending s th.1 (of_thread t d pending here a.0) in
    let l' : call_left after d + k ≤ call_left before d = rw same l in
    omega arith)
    (λ later.
    let b : call_left after d ≡ call_left before d = same_left t before after d s th.0 later in
    let more : calls_left after pending + k ≤ calls_left before pending =
    one_less t k before after pending c s th.1 a.1 (rw (later, find) at h) l in
    omega arith)
  where
    some_same : Some d ≡ Some c → d ≡ c
    some_same e = cc

filtered_left : (t : ℕ) (before after : List (Option Context)) (test : CallEntry → Bool) (pending : List CallEntry) → SameBut t before after
    → AreThreads pending → AllByRecursion (λ d. (d.thread == t) ≡ false) pending
    → calls_left after (filter test pending) ≤ calls_left before pending
filtered_left t before after test [] s th e = omega arith
filtered_left t before after test (d ∷ pending) s th e =
    let a : call_left after d ≡ call_left before d = same_left t before after d s th.0 e.0 in
    let b : calls_left after (filter test pending) ≤ calls_left before pending = filtered_left t before after test pending s th.1 e.1 in
    split (test d)
    (λ kept. rw (kept, filter) (omega arith))
    (λ gone. rw (gone, filter) (omega arith))

pub removed_left : (t : ℕ) (before after : List (Option Context)) (pending : List CallEntry) (c : CallEntry) → SameBut t before after
    → AreThreads pending → AreApart pending → call_of_thread t pending ≡ Some c
    → calls_left after (without_call c.call pending) + call_left before c ≤ calls_left before pending
removed_left t before after [] c s th a h = cc
removed_left t before after (d ∷ pending) c s th a h = split (is_of_thread t d)
    (λ here. at_head here (rw (here, find) at h))
    (λ later.
    let b : call_left after d ≡ call_left before d = same_left t before after d s th.0 later in
    let more : calls_left after (without_call c.call pending) + call_left before c ≤ calls_left before pending =
    removed_left t before after pending c s th.1 a.1 (rw (later, find) at h) in
    split (not (is_call c.call d))
    (λ kept. rw (kept, filter) (omega arith))
    (λ gone. rw (gone, filter) (omega arith)))
  where
    at_head : is_of_thread t d ≡ true → Some d ≡ Some c
        → calls_left after (without_call c.call (d ∷ pending)) + call_left before c ≤ calls_left before (d ∷ pending)
    at_head here e =
        let same : d ≡ c = cc in
        let b : calls_left after (without_call d.call pending) ≤ calls_left before pending =
        filtered_left t before after (λ x. not (is_call d.call x)) pending s th.1 (of_thread t d pending here a.0) in
        subst (λ x. calls_left after (without_call x.call (d ∷ pending)) + call_left before x ≤ calls_left before (d ∷ pending)) same
        (rw (eq-eqb d.call d.call refl, filter) (omega arith))

rest_entered_left : (t call : ℕ) (before after : List (Option Context)) (f : CallEntry → CallEntry) (pending : List CallEntry) → SameBut t before after
    → AreThreads pending → AllByRecursion (λ d. (d.thread == t) ≡ false) pending → AllByRecursion (λ d. is_call call d ≡ false) pending
    → calls_left after (map (change_entry call f) pending) ≡ calls_left before pending
rest_entered_left t call before after f [] s th e n = refl
rest_entered_left t call before after f (d ∷ pending) s th e n =
    let a : call_left after d ≡ call_left before d = same_left t before after d s th.0 e.0 in
    let b : calls_left after (map (change_entry call f) pending) ≡ calls_left before pending =
    rest_entered_left t call before after f pending s th.1 e.1 n.1 in
    rw n.0 (omega arith)

pub entered_left : (t k low count : ℕ) (before after : List (Option Context)) (f : CallEntry → CallEntry) (pending : List CallEntry) (c : CallEntry)
    → SameBut t before after → AreThreads pending → AreApart pending → IsRising low count pending → call_of_thread t pending ≡ Some c
    → call_left after (f c) + k ≤ call_left before c
    → calls_left after (map (change_entry c.call f) pending) + k ≤ calls_left before pending
entered_left t k low count before after f [] c s th a r h l = cc
entered_left t k low count before after f (d ∷ pending) c s th a r h l = split (is_of_thread t d)
    (λ here. at_head here (rw (here, find) at h))
    (λ later.
    let found : call_of_thread t pending ≡ Some c = rw (later, find) at h in
    let below : d.call < c.call = found_above t d.call count pending c r.2 found in
    let other : is_call c.call d ≡ false = ne_eqb d.call c.call (λ e. no_order d.call c.call below e) in
    let b : call_left after d ≡ call_left before d = same_left t before after d s th.0 later in
    let more : calls_left after (map (change_entry c.call f) pending) + k ≤ calls_left before pending =
    entered_left t k d.call count before after f pending c s th.1 a.1 r.2 found l in
    rw other (omega arith))
  where
    no_order : (m n : ℕ) → m < n → m ≡ n → ⊥
    no_order m n h e = omega arith

    at_head : is_of_thread t d ≡ true → Some d ≡ Some c
        → calls_left after (map (change_entry c.call f) (d ∷ pending)) + k ≤ calls_left before (d ∷ pending)
    at_head here e =
        let same : d ≡ c = cc in
        let b : calls_left after (map (change_entry d.call f) pending) ≡ calls_left before pending =
        rest_entered_left t d.call before after f pending s th.1 (of_thread t d pending here a.0)
        (above_not_call d.call d.call count pending (omega arith) r.2) in
        let l' : call_left after (f d) + k ≤ call_left before d = subst (λ x. call_left after (f x) + k ≤ call_left before x) (sym same) l in
        subst (λ x. calls_left after (map (change_entry x.call f) (d ∷ pending)) + k ≤ calls_left before (d ∷ pending)) same
        (rw (eq-eqb d.call d.call refl) (omega arith))

pub pushed_left : (contexts : List (Option Context)) (pending : List CallEntry) (c : CallEntry)
    → calls_left contexts (pending ++ c ∷ []) ≡ calls_left contexts pending + call_left contexts c
pushed_left contexts [] c = omega arith
pushed_left contexts (d ∷ pending) c =
    let more : calls_left contexts (pending ++ c ∷ []) ≡ calls_left contexts pending + call_left contexts c = pushed_left contexts pending c in
    omega arith

pub held_left : (contexts : List (Option Context)) (test : CallEntry → Bool) (pending : List CallEntry)
    → calls_left contexts (map held_call (filter test pending)) ≤ 33 * length pending
held_left contexts test [] = omega arith
held_left contexts test (d ∷ pending) =
    let more : calls_left contexts (map held_call (filter test pending)) ≤ 33 * length pending = held_left contexts test pending in
    split (test d)
    (λ kept. rw (kept, filter) (omega arith))
    (λ gone. rw (gone, filter) (omega arith))
