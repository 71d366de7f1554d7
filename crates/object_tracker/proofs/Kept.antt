-- The bounds that every tracker keeps: how each change preserves them.
use Rattle.std.proofs.Common.{◌≡◌, inl, inr, ℕ, zero, suc, ◌+◌, ◌-◌, ◌<◌, ◌≤◌, if◌then◌else◌, Bool, true, false, cond, not, nat_lt, nat_le, ◌==◌, ◌||◌, Some, List, [], ◌∷◌, length, filter, count_by, arith, refl, subst, ◌∙◌}
use Rattle.std.specs.List.{list_any}
use Rattle.std.proofs.lemmas.Bool.{cases_eq}
use Rattle.nook_data.specs.declared.entries.Entry.{Entry}
use Rattle.nook_data.specs.declared.entries.Entry.TheVariants as entry
use Rattle.machine_defs.specs.Entries.{is_heap_use, is_borrow_of, is_buffer_of, is_registration, with_entry, with_live}
use Rattle.machine_defs.specs.Entries.{registered, free_start, borrow_start}
use Rattle.object_tracker.specs.declared.query.Query.{Query}
use Rattle.object_tracker.specs.declared.query.Query.TheVariants as query
use Rattle.object_tracker.specs.Tracked.{is_stray, fits, IsKept, IsTracked}
use Rattle.std.proofs.lemmas.Option.{same_Some}
use Rattle.object_tracker.proofs.Steps.{run_some, run_within}
use Rattle.object_tracker.proofs.Counts.{one_more, count_one, count_other, count_filter, count_filter_all, count_registered, count_none, length_with}

-- the number of entries

-- a buffer of one of the first n contexts
abbrev pub below : ℕ → Entry → Bool
below n (entry.Heap start len) = false
below n (entry.Borrow object start) = false
below n (entry.Buffer context writable) = nat_lt context n
below n (entry.Registration live) = false

below_one : (n : ℕ) (e : Entry) → cond {A = ℕ} (below (suc n) e) 1 0 ≡ cond {A = ℕ} (below n e) 1 0 + cond {A = ℕ} (is_buffer_of n e) 1 0
below_one n (entry.Heap start len) = refl
below_one n (entry.Borrow object start) = refl
below_one n (entry.Buffer context writable) = grind arith
below_one n (entry.Registration live) = refl

below_more : (n : ℕ) (es : List Entry) → count_by (below (suc n)) es ≡ count_by (below n) es + count_by (is_buffer_of n) es
below_more n [] = refl
below_more n (e ∷ es) =
    omega (arith, one_more (below (suc n)) e es, one_more (below n) e es, one_more (is_buffer_of n) e es, below_one n e, below_more n es)

below_zero : (e : Entry) → cond {A = ℕ} (below 0 e) 1 0 ≡ 0
below_zero (entry.Heap start len) = refl
below_zero (entry.Borrow object start) = refl
below_zero (entry.Buffer context writable) = grind arith
below_zero (entry.Registration live) = refl

below_none : (es : List Entry) → count_by (below 0) es ≡ 0
below_none [] = refl
below_none (e ∷ es) = omega (arith, one_more (below 0) e es, below_zero e, below_none es)

below_most : (n : ℕ) (es : List Entry) → ((context : ℕ) → count_by (is_buffer_of context) es ≤ 1) → count_by (below n) es ≤ n
below_most zero es single = omega (arith, below_none es)
below_most (suc n) es single = omega (arith, below_more n es, below_most n es single, single n)

one_kind : (e : Entry) → 1 ≤ cond {A = ℕ} (is_heap_use e) 1 0 + cond {A = ℕ} (below 17 e) 1 0 + cond {A = ℕ} (is_stray e) 1 0 + cond {A = ℕ} (is_registration e) 1 0
one_kind (entry.Heap start len) = omega arith
one_kind (entry.Borrow object start) = omega arith
one_kind (entry.Buffer context writable) = grind arith
one_kind (entry.Registration live) = omega arith

all_kinds : (es : List Entry) → length es ≤ count_by is_heap_use es + count_by (below 17) es + count_by is_stray es + count_by is_registration es
all_kinds [] = omega arith
all_kinds (e ∷ es) =
    omega (arith, one_more is_heap_use e es, one_more (below 17) e es, one_more is_stray e es, one_more is_registration e es, one_kind e, all_kinds es)

-- there is room for every entry
pub few_entries : (es : List Entry) → IsKept es → length es ≤ 82
few_entries es k = omega (arith, all_kinds es, below_most 17 es k.buffers, k.heap, k.contexts, k.registration)

pub few_heap : (es : List Entry) → IsKept es → count_by is_heap_use es < 64 → length es < 82
few_heap es k room = omega (arith, all_kinds es, below_most 17 es k.buffers, room, k.contexts, k.registration)

-- one more entry

pub room_left : (heap_start n : ℕ) (es : List Entry) (start : ℕ) → Some start ≡ free_start heap_start n es → count_by is_heap_use es < 64
room_left heap_start n es start found = grind arith

pub kept_heap : (start len : ℕ) (es : List Entry) → IsKept es → count_by is_heap_use es < 64 → IsKept (with_entry (entry.Heap start len) es)
kept_heap start len es k room =
    let e = entry.Heap start len in record {
      heap = omega (arith, count_one is_heap_use e es refl, room);
      buffers = λ c. omega (arith, count_other (is_buffer_of c) e es refl, k.buffers c);
      contexts = count_other is_stray e es refl ∙ k.contexts;
      registration = count_other is_registration e es refl ∙ k.registration;
    }

near : (object start : ℕ) → object ≤ 12 → start + 64 ≤ 4096 → (nat_lt 12 object || nat_lt 4032 start) ≡ false
near object start known within = grind arith

pub kept_borrow : (object start : ℕ) (es : List Entry) → IsKept es → object ≤ 12 → start + 64 ≤ 4096 → count_by is_heap_use es < 64 → IsKept (with_entry (entry.Borrow object start) es)
kept_borrow object start es k known within room =
    let e = entry.Borrow object start in record {
      heap = omega (arith, count_one is_heap_use e es refl, room);
      buffers = λ c. omega (arith, count_other (is_buffer_of c) e es refl, k.buffers c);
      contexts = count_other is_stray e es (near object start known within) ∙ k.contexts;
      registration = count_other is_registration e es refl ∙ k.registration;
    }

eq_same : (a b : ℕ) → a ≡ b → (a == b) ≡ true
eq_same a b same = grind arith

eq_other : (a b : ℕ) → (a ≡ b → ⊥) → (a == b) ≡ false
eq_other a b differs = grind arith

in_range : (context : ℕ) → context < 17 → nat_le 17 context ≡ false
in_range context within = grind arith

pub kept_buffer : (context : ℕ) (writable : Bool) (es : List Entry) → IsKept es → context < 17 → list_any (is_buffer_of context) es ≡ false → IsKept (with_entry (entry.Buffer context writable) es)
kept_buffer context writable es k within none =
    let e = entry.Buffer context writable in record {
      heap = omega (arith, count_other is_heap_use e es refl, k.heap);
      buffers = λ c. elim (cases_eq context c) [
        | inl same ↦
            let first = count_none (is_buffer_of c) es (subst (λ x. list_any (is_buffer_of x) es ≡ false) same none) in
            omega (arith, count_one (is_buffer_of c) e es (eq_same context c same), first)
        | inr other ↦ omega (arith, count_other (is_buffer_of c) e es (eq_other context c other), k.buffers c)
      ];
      contexts = count_other is_stray e es (in_range context within) ∙ k.contexts;
      registration = count_other is_registration e es refl ∙ k.registration;
    }

pub few_buffers : (context : ℕ) (es : List Entry) → IsKept es → context < 17 → list_any (is_buffer_of context) es ≡ false → length es < 82
few_buffers context es k within none =
    let more = kept_buffer context true es k within none in
    omega (arith, few_entries _ more, length_with (entry.Buffer context true) es)

-- fewer entries

kept_filter : (q : Entry → Bool) (es : List Entry) → IsKept es → ((e : Entry) → is_registration e ≡ true → q e ≡ true) → IsKept (filter q es)
kept_filter q es k all = record {
  heap = omega (arith, count_filter is_heap_use q es, k.heap);
  buffers = λ c. omega (arith, count_filter (is_buffer_of c) q es, k.buffers c);
  contexts = omega (arith, count_filter is_stray q es, k.contexts);
  registration = count_filter_all is_registration q es all ∙ k.registration;
}

-- what may end does not include the registration
abbrev pub spares : Query → Type 0
spares w = (e : Entry) → is_registration e ≡ true → not (fits w e) ≡ true

pub spares_heap : (start : ℕ) → spares (query.Heap start)
spares_heap start (entry.Heap s len) r = grind arith
spares_heap start (entry.Borrow object s) r = refl
spares_heap start (entry.Buffer context writable) r = refl
spares_heap start (entry.Registration live) r = refl

pub spares_borrow : (object : ℕ) → spares (query.Borrow object)
spares_borrow object (entry.Heap s len) r = refl
spares_borrow object (entry.Borrow o s) r = grind arith
spares_borrow object (entry.Buffer context writable) r = refl
spares_borrow object (entry.Registration live) r = refl

pub spares_buffer : (context : ℕ) → spares (query.Buffer context)
spares_buffer context (entry.Heap s len) r = refl
spares_buffer context (entry.Borrow o s) r = refl
spares_buffer context (entry.Buffer c writable) r = grind arith
spares_buffer context (entry.Registration live) r = refl

pub spares_held : spares query.Held
spares_held e r = rw r refl

pub kept_ended : (heap_start : ℕ) (w : Query) (es : List Entry) → IsTracked heap_start es → spares w → IsTracked heap_start (filter (λ e. not (fits w e)) es)
kept_ended heap_start w es t spared =
    record { start = t.start; kept = kept_filter (λ e. not (fits w e)) es t.kept spared }

-- the registration becomes live or not

same_heap : (live : Bool) (e : Entry) → is_heap_use (with_live live e) ≡ is_heap_use e
same_heap live (entry.Heap start len) = refl
same_heap live (entry.Borrow object start) = refl
same_heap live (entry.Buffer context writable) = refl
same_heap live (entry.Registration was) = refl

same_buffer : (c : ℕ) (live : Bool) (e : Entry) → is_buffer_of c (with_live live e) ≡ is_buffer_of c e
same_buffer c live (entry.Heap start len) = refl
same_buffer c live (entry.Borrow object start) = refl
same_buffer c live (entry.Buffer context writable) = refl
same_buffer c live (entry.Registration was) = refl

same_stray : (live : Bool) (e : Entry) → is_stray (with_live live e) ≡ is_stray e
same_stray live (entry.Heap start len) = refl
same_stray live (entry.Borrow object start) = refl
same_stray live (entry.Buffer context writable) = refl
same_stray live (entry.Registration was) = refl

same_registration : (live : Bool) (e : Entry) → is_registration (with_live live e) ≡ is_registration e
same_registration live (entry.Heap start len) = refl
same_registration live (entry.Borrow object start) = refl
same_registration live (entry.Buffer context writable) = refl
same_registration live (entry.Registration was) = refl

pub kept_live : (heap_start : ℕ) (live : Bool) (es : List Entry) → IsTracked heap_start es → IsTracked heap_start (registered live es)
kept_live heap_start live es t = record {
  start = t.start;
  kept = record {
    heap = rw (count_registered is_heap_use live es (same_heap live)) t.kept.heap;
    buffers = λ c. rw (count_registered (is_buffer_of c) live es (same_buffer c live)) (t.kept.buffers c);
    contexts = count_registered is_stray live es (same_stray live) ∙ t.kept.contexts;
    registration = count_registered is_registration live es (same_registration live) ∙ t.kept.registration;
  };
}

-- what is known of a copy

not_stray : (object start : ℕ) → (nat_lt 12 object || nat_lt 4032 start) ≡ false → (object ≤ 12) × (start + 64 ≤ 4096)
not_stray object start near = (grind arith, grind arith)

tail_near : (e : Entry) (es : List Entry) → count_by is_stray (e ∷ es) ≡ 0 → (is_stray e ≡ false) × (count_by is_stray es ≡ 0)
tail_near e es none = (by_case (is_stray e) refl, omega (arith, one_more is_stray e es, none))
  where
    by_case : (b : Bool) → is_stray e ≡ b → is_stray e ≡ false
    by_case true far = let z : cond {A = ℕ} (is_stray e) 1 0 ≡ 1 = rw far refl in absurd (omega (arith, z, one_more is_stray e es, none))
    by_case false near = near

known_case : (object o s : ℕ) (es : List Entry) (b : Bool) → (o == object) ≡ b → (nat_lt 12 o || nat_lt 4032 s) ≡ false → (list_any (is_borrow_of object) es ≡ true → object ≤ 12) → (o == object || list_any (is_borrow_of object) es) ≡ true → object ≤ 12
known_case object o s es true same near later found = grind (arith, not_stray o s near)
known_case object o s es false other near later found = later (rw other at found)

copy_case : (object o s : ℕ) (es : List Entry) (start : ℕ) (b : Bool) → (o == object) ≡ b → (nat_lt 12 o || nat_lt 4032 s) ≡ false → (Some start ≡ borrow_start object es → start + 64 ≤ 4096) → Some start ≡ (if o == object then Some s else borrow_start object es) → start + 64 ≤ 4096
copy_case object o s es start true same near later found = let e = same_Some start s (rw same at found) in omega (arith, e, (not_stray o s near).1)
copy_case object o s es start false other near later found = later (rw other at found)

-- an object that is borrowed is one of the twelve
pub borrowed_known : (object : ℕ) (es : List Entry) → count_by is_stray es ≡ 0 → list_any (is_borrow_of object) es ≡ true → object ≤ 12
borrowed_known object [] none found = grind arith
borrowed_known object (entry.Heap s len ∷ es) none found = borrowed_known object es (tail_near (entry.Heap s len) es none).1 found
borrowed_known object (entry.Borrow o s ∷ es) none found = known_case object o s es (o == object) refl (tail_near (entry.Borrow o s) es none).0 (borrowed_known object es (tail_near (entry.Borrow o s) es none).1) found
borrowed_known object (entry.Buffer c w ∷ es) none found = borrowed_known object es (tail_near (entry.Buffer c w) es none).1 found
borrowed_known object (entry.Registration live ∷ es) none found = borrowed_known object es (tail_near (entry.Registration live) es none).1 found

-- its copy lies in the heap
pub copy_within : (object : ℕ) (es : List Entry) (start : ℕ) → count_by is_stray es ≡ 0 → Some start ≡ borrow_start object es → start + 64 ≤ 4096
copy_within object [] start none found = grind arith
copy_within object (entry.Heap s len ∷ es) start none found = copy_within object es start (tail_near (entry.Heap s len) es none).1 found
copy_within object (entry.Borrow o s ∷ es) start none found = copy_case object o s es start (o == object) refl (tail_near (entry.Borrow o s) es none).0 (copy_within object es start (tail_near (entry.Borrow o s) es none).1) found
copy_within object (entry.Buffer c w ∷ es) start none found = copy_within object es start (tail_near (entry.Buffer c w) es none).1 found
copy_within object (entry.Registration live ∷ es) start none found = copy_within object es start (tail_near (entry.Registration live) es none).1 found

-- a run that is found lies in the heap
pub start_within : (heap_start n : ℕ) (es : List Entry) (start : ℕ) → Some start ≡ free_start heap_start n es → start + n ≤ 4096
start_within heap_start n es start found = by_room (nat_lt (count_by is_heap_use es) 64) refl
  where
    by_room : (b : Bool) → nat_lt (count_by is_heap_use es) 64 ≡ b → start + n ≤ 4096
    by_room true room =
        let run = rw room at found in
        let left = 4097 - (heap_start + n) in
        omega (arith, run_within left es heap_start n start run, run_some left es heap_start n start run)
    by_room false full = grind (arith, found, full)
