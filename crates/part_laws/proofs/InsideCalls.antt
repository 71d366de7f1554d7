use Rattle.std.proofs.Common.{◌≡◌, ℕ, ◌<◌, ◌==◌, not, Bool, true, false, Option, Some, None, List, [], ◌∷◌, ◌++◌, map, filter, refl, sym, ap, ◌∙◌, arith, true≢false, eqb-true}
use Rattle.std.specs.List.{find}
use Rattle.std.proofs.lemmas.Bool.{eqb-false, eq-eqb, ne_eqb}
use Rattle.nook_data.specs.declared.calls.CallEntry.{CallEntry}
use Rattle.part_defs.specs.Log.{is_call, call_of_thread}
use Rattle.part_defs.proofs.PartCases.{change_entry, entered_call, is_of_thread}
use Rattle.part_defs.specs.Steps.{is_inside}
use Rattle.machine_defs.proofs.BurstKeeps.{split}
use Rattle.part_laws.proofs.TiedCalls.{found_above, without_call}
use Rattle.part_laws.specs.Tied.{IsRising}

-- Which calls remain Inside after a change of the open calls.

-- the first element that passes

find_push : {X : Type 0} (test : X → Bool) (xs : List X) (x y : X) → find test xs ≡ Some y → find test (xs ++ x ∷ []) ≡ Some y
find_push test [] x y h = cc
find_push test (z ∷ xs) x y h = split (test z)
    (λ here. rw (here, find) (rw (here, find) at h))
    (λ later. rw (later, find) (find_push test xs x y (rw (later, find) at h)))

find_filter : {X : Type 0} (test keeps : X → Bool) (xs : List X) (y : X) → find test xs ≡ Some y → keeps y ≡ true
    → find test (filter keeps xs) ≡ Some y
find_filter test keeps [] y h k = cc
find_filter test keeps (x ∷ xs) y h k = split (test x)
    (λ here. at_head here (rw (here, find) at h))
    (λ later.
    let more : find test (filter keeps xs) ≡ Some y = find_filter test keeps xs y (rw (later, find) at h) k in
    split (keeps x)
    (λ kept. rw (kept, filter) (rw (later, find) more))
    (λ gone. rw (gone, filter) more))
  where
    at_head : test x ≡ true → Some x ≡ Some y → find test (filter keeps (x ∷ xs)) ≡ Some y
    at_head here e =
        let s : x ≡ y = cc in
        let kept : keeps x ≡ true = ap keeps s ∙ k in
        rw (kept, filter) (rw (here, find) e)

find_map : (f : CallEntry → CallEntry) (thread : ℕ) (pending : List CallEntry) (c : CallEntry) → ((d : CallEntry) → (f d).thread ≡ d.thread)
    → call_of_thread thread pending ≡ Some c → call_of_thread thread (map f pending) ≡ Some (f c)
find_map f thread [] c same h = cc
find_map f thread (d ∷ pending) c same h =
    let as_was : is_of_thread thread (f d) ≡ is_of_thread thread d = ap (λ (k : ℕ). k == thread) (same d) in
    split (is_of_thread thread d)
    (λ here.
    let there : is_of_thread thread (f d) ≡ true = as_was ∙ here in
    rw (there, find) (at_head (rw (here, find) at h)))
    (λ later.
    let other : is_of_thread thread (f d) ≡ false = as_was ∙ later in
    rw (other, find) (find_map f thread pending c same (rw (later, find) at h)))
  where
    at_head : Some d ≡ Some c → Some (f d) ≡ Some (f c)
    at_head e = let s : d ≡ c = cc in ap (λ (x : CallEntry). Some (f x)) s

-- open calls with the same number belong to the same thread
same_number : (k t low count : ℕ) (pending : List CallEntry) (d c : CallEntry) → IsRising low count pending
    → call_of_thread k pending ≡ Some d → call_of_thread t pending ≡ Some c → d.call ≡ c.call → k ≡ t
same_number k t low count [] d c r a b e = cc
same_number k t low count (x ∷ pending) d c r a b e = split (is_of_thread k x)
    (λ mine. split (is_of_thread t x)
    (λ both. sym (eqb-true x.thread k mine) ∙ eqb-true x.thread t both)
    (λ other. absurd (no_order d c (first d (rw (mine, find) at a)) (found_above t x.call count pending c r.2 (rw (other, find) at b)) e)))
    (λ later. split (is_of_thread t x)
    (λ yours. absurd (no_order c d (first c (rw (yours, find) at b)) (found_above k x.call count pending d r.2 (rw (later, find) at a)) (sym e)))
    (λ other. same_number k t x.call count pending d c r.2 (rw (later, find) at a) (rw (other, find) at b) e))
  where
    first : (y : CallEntry) → Some x ≡ Some y → x.call ≡ y.call
    first y h = let s : x ≡ y = cc in ap (λ (z : CallEntry). z.call) s

    no_order : (y z : CallEntry) → x.call ≡ y.call → x.call < z.call → y.call ≡ z.call → ⊥
    no_order y z a b e = omega arith

-- calls that are Inside

abbrev pub StaysInside : List CallEntry → List CallEntry → Type 0
StaysInside before after = (thread : ℕ) → is_inside (call_of_thread thread before) ≡ true → is_inside (call_of_thread thread after) ≡ true

inside_call : (o : Option CallEntry) → is_inside o ≡ true → (c : CallEntry) × (o ≡ Some c) × (c.inside ≡ true)
inside_call None h = absurd (true≢false (sym h))
inside_call (Some c) h = (c, refl, h)

pub push_stays : (pending : List CallEntry) (c : CallEntry) → StaysInside pending (pending ++ c ∷ [])
push_stays pending c thread h =
    let i : (d : CallEntry) × (call_of_thread thread pending ≡ Some d) × (d.inside ≡ true) = inside_call (call_of_thread thread pending) h in
    ap is_inside (find_push (is_of_thread thread) pending c i.0 i.1) ∙ i.2

-- when a call is answered, those of other threads stay Inside
pub removed_stays : (thread low count : ℕ) (pending : List CallEntry) (c : CallEntry) (k : ℕ) → IsRising low count pending
    → call_of_thread thread pending ≡ Some c → (k == thread) ≡ false → is_inside (call_of_thread k pending) ≡ true
    → is_inside (call_of_thread k (without_call c.call pending)) ≡ true
removed_stays thread low count pending c k r found other h =
    let i : (d : CallEntry) × (call_of_thread k pending ≡ Some d) × (d.inside ≡ true) = inside_call (call_of_thread k pending) h in
    let apart : is_call c.call i.0 ≡ false =
    ne_eqb i.0.call c.call (λ e. eqb-false k thread other (same_number k thread low count pending i.0 c r i.1 found e)) in
    ap is_inside (find_filter (is_of_thread k) (λ z. not (is_call c.call z)) pending i.0 i.1 (ap not apart)) ∙ i.2

same_thread : (call : ℕ) (d : CallEntry) → (change_entry call entered_call d).thread ≡ d.thread
same_thread call d = split (is_call call d) (λ e. rw e refl) (λ e. rw e refl)

still_inside : (call : ℕ) (d : CallEntry) → d.inside ≡ true → (change_entry call entered_call d).inside ≡ true
still_inside call d h = split (is_call call d) (λ e. rw e refl) (λ e. rw e h)

pub entered_stays : (call : ℕ) (pending : List CallEntry) → StaysInside pending (map (change_entry call entered_call) pending)
entered_stays call pending thread h =
    let i : (d : CallEntry) × (call_of_thread thread pending ≡ Some d) × (d.inside ≡ true) = inside_call (call_of_thread thread pending) h in
    ap is_inside (find_map (change_entry call entered_call) thread pending i.0 (same_thread call) i.1) ∙ still_inside call i.0 i.2

-- the call that enters is Inside
pub entered_inside : (thread : ℕ) (pending : List CallEntry) (c : CallEntry) → call_of_thread thread pending ≡ Some c
    → is_inside (call_of_thread thread (map (change_entry c.call entered_call) pending)) ≡ true
entered_inside thread pending c found =
    ap is_inside (find_map (change_entry c.call entered_call) thread pending c (same_thread c.call) found) ∙ own
  where
    own : (change_entry c.call entered_call c).inside ≡ true
    own = rw (eq-eqb c.call c.call refl) refl
