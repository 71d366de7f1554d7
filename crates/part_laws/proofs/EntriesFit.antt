use Rattle.std.proofs.Common.{◌≡◌, ◌⊎◌, inl, inr, ℕ, zero, suc, ◌+◌, ◌-◌, ◌<◌, ◌≤◌, ◌==◌, ◌&&◌, nat_lt, not, Bool, true, false, Some, None, List, [], ◌∷◌, ◌++◌, refl, sym, ap, ◌∙◌, arith, true≢false, count_by, filter}
use Rattle.std.specs.List.{list_any, AllByRecursion}
use Rattle.std.proofs.lemmas.Bool.{and_parts, or_parts, or_cases, and_left, and_right, or_from, or_right, or_left, ltb-true, le-ltb, ltb-false, eqb-true, both_ways, and_cases, eq-eqb, ne_eqb, cases_order}
use Rattle.nook_data.specs.declared.entries.Entry.{Entry}
use Rattle.nook_data.specs.declared.entries.Entry.TheVariants as entry
use Rattle.machine_defs.specs.Entries.{rank, key_of, comes_before, with_entry, is_registration, is_borrow_of}
use Rattle.machine_defs.specs.Entries.{is_heap_at, is_buffer_of, is_heap_use, lowest_run, free_start, is_free_run}
use Rattle.machine_defs.specs.Entries.{borrow_start, with_live, registered, collected, released, without_heap}
use Rattle.machine_defs.specs.Entries.{without_borrow, without_buffer}
use Rattle.machine_defs.proofs.MachineCases.{start_of_borrow}
use Rattle.machine_defs.proofs.BurstKeeps.{split}
use Rattle.part_laws.specs.Fit.{IsFitEntry, IsOrdered}

-- What the entry list keeps.

-- each entry fits

pub with_entry_fits : (heap : ℕ) (e : Entry) (entries : List Entry) → IsFitEntry heap e → AllByRecursion (IsFitEntry heap) entries
    → AllByRecursion (IsFitEntry heap) (with_entry e entries)
with_entry_fits heap e [] f all = (f, tt)
with_entry_fits heap e (x ∷ entries) f all =
    let more : AllByRecursion (IsFitEntry heap) (with_entry e entries) = with_entry_fits heap e entries f all.1 in
    split (comes_before e x)
    (λ first. rw (first, with_entry) (f, all))
    (λ later. rw (later, with_entry) (all.0, more))

pub filter_fits : {X : Type 0} (P : X → Type 0) (test : X → Bool) (xs : List X) → AllByRecursion P xs → AllByRecursion P (filter test xs)
filter_fits P test [] all = tt
filter_fits P test (x ∷ xs) all =
    let more : AllByRecursion P (filter test xs) = filter_fits P test xs all.1 in
    split (test x)
    (λ kept. rw (kept, filter) (all.0, more))
    (λ gone. rw (gone, filter) more)

with_live_fits : (heap : ℕ) (live : Bool) (e : Entry) → IsFitEntry heap e → IsFitEntry heap (with_live live e)
with_live_fits heap live (entry.Heap start len) f = f
with_live_fits heap live (entry.Borrow object start) f = f
with_live_fits heap live (entry.Buffer context writable) f = f
with_live_fits heap live (entry.Registration was) f = tt

pub registered_fits : (heap : ℕ) (live : Bool) (entries : List Entry) → AllByRecursion (IsFitEntry heap) entries
    → AllByRecursion (IsFitEntry heap) (registered live entries)
registered_fits heap live [] all = tt
registered_fits heap live (e ∷ entries) all = (with_live_fits heap live e all.0, registered_fits heap live entries all.1)

-- a free run of heap words lies in the heap

lowest_run_within : (left : ℕ) (entries : List Entry) (start n found : ℕ) → lowest_run left entries start n ≡ Some found
    → (start ≤ found) × (found < start + left)
unfolding lowest_run
lowest_run_within zero entries start n found h = cc
lowest_run_within (suc left) entries start n found h = split (is_free_run entries start n)
    (λ free. let e : start ≡ found = some_same (rw (free, lowest_run) at h) in (omega arith, omega arith))
    (λ taken. let r : (start + 1 ≤ found) × (found < start + 1 + left) = lowest_run_within left entries (start + 1) n found (rw (taken, lowest_run) at h) in
    (omega arith, omega arith))
  where
    some_same : {a b : ℕ} → Some a ≡ Some b → a ≡ b
    some_same h = cc

pub free_start_within : (heap n : ℕ) (entries : List Entry) (found : ℕ) → free_start heap n entries ≡ Some found
    → (heap ≤ found) × (found + n ≤ 4096)
free_start_within heap n entries found h = split (nat_lt (count_by is_heap_use entries) 64)
    (λ room. let r : (heap ≤ found) × (found < heap + (4097 - (heap + n))) =
    lowest_run_within (4097 - (heap + n)) entries heap n found (rw room at h) in (omega arith, omega arith))
    (λ full. none_some (rw full at h))
  where
    none_some : {G : Type 0} → None ≡ Some found → G
    none_some h = cc

-- the copy of a borrowed object

borrow_fits : (heap object : ℕ) (e : Entry) → IsFitEntry heap e → is_borrow_of object e ≡ true
    → (1 ≤ object) × (object ≤ 12) × (heap ≤ start_of_borrow e) × (start_of_borrow e + 64 ≤ 4096)
borrow_fits heap object (entry.Borrow o start) f h = let e : o ≡ object = eqb-true o object h in (omega arith, omega arith, omega arith, omega arith)
borrow_fits heap object (entry.Heap start len) f h = cc
borrow_fits heap object (entry.Buffer context writable) f h = cc
borrow_fits heap object (entry.Registration live) f h = cc

pub record IsBorrowedAt (heap object start : ℕ) : Type 0 where
  pub one : 1 ≤ object
  pub twelve : object ≤ 12
  pub low : heap ≤ start
  pub high : start + 64 ≤ 4096

pub borrowed_at : (heap object : ℕ) (entries : List Entry) (start : ℕ) → AllByRecursion (IsFitEntry heap) entries
    → borrow_start object entries ≡ Some start → IsBorrowedAt heap object start × (list_any (is_borrow_of object) entries ≡ true)
borrowed_at heap object [] start all h = cc
borrowed_at heap object (e ∷ entries) start all h = split (is_borrow_of object e)
    (λ here.
    let b : (1 ≤ object) × (object ≤ 12) × (heap ≤ start_of_borrow e) × (start_of_borrow e + 64 ≤ 4096) = borrow_fits heap object e all.0 here in
    let s : start_of_borrow e ≡ start = some_same (rw (here, borrow_start) at h) in
    (record { one = b.0; twelve = b.1; low = omega arith; high = omega arith }, or_left (is_borrow_of object e) (list_any (is_borrow_of object) entries) here))
    (λ other.
    let r : IsBorrowedAt heap object start × (list_any (is_borrow_of object) entries ≡ true) = borrowed_at heap object entries start all.1 (rw (other, borrow_start) at h) in
    (r.0, or_right (is_borrow_of object e) (list_any (is_borrow_of object) entries) r.1))
  where
    some_same : {a b : ℕ} → Some a ≡ Some b → a ≡ b
    some_same h = cc

-- the order

-- an entry other than the registration comes before it
before_registration : (e x : Entry) → is_registration e ≡ false → is_registration x ≡ true → comes_before e x ≡ true
before_registration (entry.Heap start len) (entry.Registration live) a b = refl
before_registration (entry.Borrow object start) (entry.Registration live) a b = refl
before_registration (entry.Buffer context writable) (entry.Registration live) a b = refl
before_registration (entry.Registration was) x a b = absurd (true≢false a)
before_registration (entry.Heap start len) (entry.Heap s n) a b = cc
before_registration (entry.Heap start len) (entry.Borrow o s) a b = cc
before_registration (entry.Heap start len) (entry.Buffer c w) a b = cc
before_registration (entry.Borrow object start) (entry.Heap s n) a b = cc
before_registration (entry.Borrow object start) (entry.Borrow o s) a b = cc
before_registration (entry.Borrow object start) (entry.Buffer c w) a b = cc
before_registration (entry.Buffer context writable) (entry.Heap s n) a b = cc
before_registration (entry.Buffer context writable) (entry.Borrow o s) a b = cc
before_registration (entry.Buffer context writable) (entry.Buffer c w) a b = cc

-- of two entries at most one comes before the other
not_both : (e x : Entry) → comes_before e x ≡ true → comes_before x e ≡ false
not_both e x h = elim (or_cases (nat_lt (rank e) (rank x)) (rank e == rank x && nat_lt (key_of e) (key_of x)) h) [
  | inl less ↦ let l : rank e < rank x = ltb-true (rank e) (rank x) less in
      or_from (nat_lt (rank x) (rank e)) (rank x == rank e && nat_lt (key_of x) (key_of e))
      (le-ltb (rank x) (rank e) (omega arith))
      (and_left (rank x == rank e) (nat_lt (key_of x) (key_of e)) (unequal l))
  | inr same ↦
      let parts : ((rank e == rank x) ≡ true) × (nat_lt (key_of e) (key_of x) ≡ true) = and_parts (rank e == rank x) (nat_lt (key_of e) (key_of x)) same in
      let r : rank e ≡ rank x = eqb-true (rank e) (rank x) parts.0 in
      let k : key_of e < key_of x = ltb-true (key_of e) (key_of x) parts.1 in
      or_from (nat_lt (rank x) (rank e)) (rank x == rank e && nat_lt (key_of x) (key_of e))
      (le-ltb (rank x) (rank e) (omega arith))
      (and_right (rank x == rank e) (nat_lt (key_of x) (key_of e)) (le-ltb (key_of x) (key_of e) (omega arith)))
]
  where
    unequal : rank e < rank x → (rank x == rank e) ≡ false
    unequal l = split (rank x == rank e)
        (λ same. let s : rank x ≡ rank e = eqb-true (rank x) (rank e) same in absurd (omega arith))
        (λ other. other)

-- an entry does not come before another, by their ranks and keys
NotBefore : Entry → Entry → Type 0
NotBefore y x = (rank x < rank y) ⊎ ((rank x ≡ rank y) × (key_of x ≤ key_of y))

not_before : (y x : Entry) → comes_before y x ≡ false → NotBefore y x
unfolding NotBefore
not_before y x h =
    let parts : (nat_lt (rank y) (rank x) ≡ false) × ((rank y == rank x && nat_lt (key_of y) (key_of x)) ≡ false) =
    or_parts (nat_lt (rank y) (rank x)) (rank y == rank x && nat_lt (key_of y) (key_of x)) h in
    let low : rank x ≤ rank y = ltb-false (rank y) (rank x) parts.0 in
    elim (cases_order (rank x) (rank y)) [
      | inl same ↦ elim (and_cases (rank y == rank x) (nat_lt (key_of y) (key_of x)) parts.1) [
        | inl other ↦ absurd (both_ways (rank y == rank x) other (eq-eqb (rank y) (rank x) (sym same)))
        | inr keys ↦ let k : key_of x ≤ key_of y = ltb-false (key_of y) (key_of x) keys in inr (same, k)
      ]
      | inr (inl less) ↦ inl less
      | inr (inr more) ↦ absurd (no_order (rank x) (rank y) low more)
    ]
  where
    no_order : (a b : ℕ) → a ≤ b → b < a → ⊥
    no_order a b h k = omega arith

from_not_before : (y x : Entry) → NotBefore y x → comes_before y x ≡ false
unfolding NotBefore
from_not_before y x (inl less) =
    or_from (nat_lt (rank y) (rank x)) (rank y == rank x && nat_lt (key_of y) (key_of x))
    (le-ltb (rank y) (rank x) (omega arith))
    (and_left (rank y == rank x) (nat_lt (key_of y) (key_of x)) (ne_eqb (rank y) (rank x) (λ same. no_order (rank x) (rank y) less same)))
  where
    no_order : (a b : ℕ) → a < b → b ≡ a → ⊥
    no_order a b h k = omega arith
from_not_before y x (inr same) =
    or_from (nat_lt (rank y) (rank x)) (rank y == rank x && nat_lt (key_of y) (key_of x))
    (le-ltb (rank y) (rank x) (omega arith))
    (and_right (rank y == rank x) (nat_lt (key_of y) (key_of x)) (le-ltb (key_of y) (key_of x) same.1))

not_before_more : (z y x : Entry) → NotBefore z y → NotBefore y x → NotBefore z x
unfolding NotBefore
not_before_more z y x (inl a) (inl b) = inl (omega arith)
not_before_more z y x (inl a) (inr b) = inl (omega arith)
not_before_more z y x (inr a) (inl b) = inl (omega arith)
not_before_more z y x (inr a) (inr b) = inr (omega arith, omega arith)

before_more : (z y x : Entry) → comes_before z y ≡ false → comes_before y x ≡ false → comes_before z x ≡ false
before_more z y x a b = from_not_before z x (not_before_more z y x (not_before z y a) (not_before y x b))

pub with_entry_ordered : (e : Entry) (entries : List Entry) → is_registration e ≡ false → IsOrdered entries → IsOrdered (with_entry e entries)
with_entry_ordered e [] plain ordered = absurd ordered
with_entry_ordered e (x ∷ []) plain ordered =
    let first : comes_before e x ≡ true = before_registration e x plain ordered in
    rw first (plain, not_both e x first, ordered)
with_entry_ordered e (x ∷ y ∷ entries) plain ordered =
    let more : IsOrdered (with_entry e (y ∷ entries)) = with_entry_ordered e (y ∷ entries) plain ordered.2 in
    split (comes_before e x)
    (λ first. rw (first, with_entry) (plain, not_both e x first, ordered))
    (λ later. split (comes_before e y)
    (λ next. rw (later, with_entry, next) (ordered.0, later, rw (next, with_entry) at more))
    (λ rest_after. rw (later, with_entry, rest_after) (ordered.0, ordered.1, rw (rest_after, with_entry) at more)))

abbrev IsHeadOk : Entry → List Entry → Type 0
IsHeadOk x [] = Unit {0}
IsHeadOk x (y ∷ entries) = comes_before y x ≡ false

cons_ordered : (x : Entry) (entries : List Entry) → is_registration x ≡ false → IsHeadOk x entries → IsOrdered entries → IsOrdered (x ∷ entries)
cons_ordered x [] plain h ordered = absurd ordered
cons_ordered x (y ∷ entries) plain h ordered = (plain, h, ordered)

head_filtered : (test : Entry → Bool) (x y : Entry) (entries : List Entry) → comes_before y x ≡ false → IsOrdered (y ∷ entries)
    → IsHeadOk x (filter test (y ∷ entries))
head_filtered test x y [] h ordered = split (test y)
    (λ kept. rw kept h)
    (λ gone. rw gone tt)
head_filtered test x y (z ∷ entries) h ordered =
    let more : IsHeadOk x (filter test (z ∷ entries)) = head_filtered test x z entries (before_more z y x ordered.1 h) ordered.2 in
    split (test y)
    (λ kept. rw (kept, filter) h)
    (λ gone. rw (gone, filter) more)

pub filter_ordered : (test : Entry → Bool) (entries : List Entry) → ((e : Entry) → is_registration e ≡ true → test e ≡ true)
    → IsOrdered entries → IsOrdered (filter test entries)
filter_ordered test [] keeps ordered = absurd ordered
filter_ordered test (x ∷ []) keeps ordered = rw (keeps x ordered) ordered
filter_ordered test (x ∷ y ∷ entries) keeps ordered =
    let more : IsOrdered (filter test (y ∷ entries)) = filter_ordered test (y ∷ entries) keeps ordered.2 in
    let head : IsHeadOk x (filter test (y ∷ entries)) = head_filtered test x y entries ordered.1 ordered.2 in
    split (test x)
    (λ kept. rw (kept, filter) (cons_ordered x (filter test (y ∷ entries)) ordered.0 head more))
    (λ gone. rw (gone, filter) more)

live_before : (live : Bool) (y x : Entry) → comes_before (with_live live y) (with_live live x) ≡ comes_before y x
live_before live (entry.Heap a1 a2) (entry.Heap b1 b2) = refl
live_before live (entry.Heap a1 a2) (entry.Borrow b1 b2) = refl
live_before live (entry.Heap a1 a2) (entry.Buffer b1 b2) = refl
live_before live (entry.Heap a1 a2) (entry.Registration b1) = refl
live_before live (entry.Borrow a1 a2) (entry.Heap b1 b2) = refl
live_before live (entry.Borrow a1 a2) (entry.Borrow b1 b2) = refl
live_before live (entry.Borrow a1 a2) (entry.Buffer b1 b2) = refl
live_before live (entry.Borrow a1 a2) (entry.Registration b1) = refl
live_before live (entry.Buffer a1 a2) (entry.Heap b1 b2) = refl
live_before live (entry.Buffer a1 a2) (entry.Borrow b1 b2) = refl
live_before live (entry.Buffer a1 a2) (entry.Buffer b1 b2) = refl
live_before live (entry.Buffer a1 a2) (entry.Registration b1) = refl
live_before live (entry.Registration a1) (entry.Heap b1 b2) = refl
live_before live (entry.Registration a1) (entry.Borrow b1 b2) = refl
live_before live (entry.Registration a1) (entry.Buffer b1 b2) = refl
live_before live (entry.Registration a1) (entry.Registration b1) = refl

live_registration : (live : Bool) (e : Entry) → is_registration (with_live live e) ≡ is_registration e
live_registration live (entry.Heap start len) = refl
live_registration live (entry.Borrow object start) = refl
live_registration live (entry.Buffer context writable) = refl
live_registration live (entry.Registration was) = refl

pub registered_ordered : (live : Bool) (entries : List Entry) → IsOrdered entries → IsOrdered (registered live entries)
registered_ordered live [] ordered = ordered
registered_ordered live (x ∷ []) ordered = live_registration live x ∙ ordered
registered_ordered live (x ∷ y ∷ entries) ordered =
    (live_registration live x ∙ ordered.0, live_before live y x ∙ ordered.1, registered_ordered live (y ∷ entries) ordered.2)

keeps_heap : (address : ℕ) (e : Entry) → is_registration e ≡ true → not (is_heap_at address e) ≡ true
keeps_heap address (entry.Registration live) h = refl
keeps_heap address (entry.Heap start len) h = cc
keeps_heap address (entry.Borrow object start) h = refl
keeps_heap address (entry.Buffer context writable) h = refl

keeps_borrow : (object : ℕ) (e : Entry) → is_registration e ≡ true → not (is_borrow_of object e) ≡ true
keeps_borrow object (entry.Registration live) h = refl
keeps_borrow object (entry.Heap start len) h = refl
keeps_borrow object (entry.Borrow o start) h = cc
keeps_borrow object (entry.Buffer context writable) h = refl

keeps_buffer : (context : ℕ) (e : Entry) → is_registration e ≡ true → not (is_buffer_of context e) ≡ true
keeps_buffer context (entry.Registration live) h = refl
keeps_buffer context (entry.Heap start len) h = refl
keeps_buffer context (entry.Borrow object start) h = refl
keeps_buffer context (entry.Buffer c writable) h = cc

pub without_heap_ordered : (address : ℕ) (entries : List Entry) → IsOrdered entries → IsOrdered (without_heap address entries)
without_heap_ordered address entries ordered = filter_ordered (λ e. not (is_heap_at address e)) entries (keeps_heap address) ordered

pub without_borrow_ordered : (object : ℕ) (entries : List Entry) → IsOrdered entries → IsOrdered (without_borrow object entries)
without_borrow_ordered object entries ordered = filter_ordered (λ e. not (is_borrow_of object e)) entries (keeps_borrow object) ordered

pub without_buffer_ordered : (context : ℕ) (entries : List Entry) → IsOrdered entries → IsOrdered (without_buffer context entries)
without_buffer_ordered context entries ordered = filter_ordered (λ e. not (is_buffer_of context e)) entries (keeps_buffer context) ordered

-- what Collect keeps and releases

abbrev pub IsCollected : List Entry → Type 0
IsCollected entries = (live : Bool) × (entries ≡ released entries ++ entry.Registration live ∷ []) × (collected entries ≡ entry.Registration live ∷ [])

pub collect_leaves : (entries : List Entry) → IsOrdered entries → IsCollected entries
collect_leaves [] ordered = absurd ordered
collect_leaves (entry.Registration live ∷ []) ordered = (live, refl, refl)
collect_leaves (entry.Heap start len ∷ []) ordered = cc
collect_leaves (entry.Borrow object start ∷ []) ordered = cc
collect_leaves (entry.Buffer context writable ∷ []) ordered = cc
collect_leaves (x ∷ y ∷ entries) ordered =
    let r : IsCollected (y ∷ entries) = collect_leaves (y ∷ entries) ordered.2 in
    (r.0, first_released r.0 r.1, first_dropped ∙ r.2)
  where
    first_released : (live : Bool) → (y ∷ entries ≡ released (y ∷ entries) ++ entry.Registration live ∷ [])
        → x ∷ y ∷ entries ≡ released (x ∷ y ∷ entries) ++ entry.Registration live ∷ []
    first_released live e = rw ordered.0 (ap {B = List Entry} (λ r. x ∷ r) e)

    first_dropped : collected (x ∷ y ∷ entries) ≡ collected (y ∷ entries)
    first_dropped = rw ordered.0

pub collected_ordered : (entries : List Entry) → IsOrdered entries → IsOrdered (collected entries)
collected_ordered entries ordered = filter_ordered is_registration entries (λ e h. h) ordered
