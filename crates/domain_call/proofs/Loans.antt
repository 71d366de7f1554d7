-- Which buffers are lent for writing after a change of the entries.
use Rattle.std.proofs.Common.{◌≡◌, ◌≢◌, ◌∙◌, ℕ, zero, suc, ◌+◌, ◌<◌, ◌≤◌, ◌==◌, ◌||◌, ◌&&◌, Bool, true, false, not, if◌then◌else◌, Option, Some, None, List, [], ◌∷◌, ◌++◌, drop, filter, length, map, replicate, slice_set, slice_range, arith, refl, sym, ap}
use Rattle.std.specs.List.{list_any, range_with_len}
use Rattle.std.proofs.lemmas.Bool.{or_parts}
use Rattle.std.proofs.lemmas.List.{drop_all}
use Rattle.nook_data.specs.declared.entries.Entry.{Entry}
use Rattle.nook_data.specs.declared.entries.Entry.TheVariants as entry
use Rattle.nook_data.specs.declared.machine.Service.{Service}
use Rattle.nook_data.specs.declared.machine.Service.TheVariants as service
use Rattle.part_defs.specs.Domain.{Lent, lent_entries}
use Rattle.machine_defs.specs.Entries.{comes_before, with_entry, with_live, registered, collected, without_heap}
use Rattle.machine_defs.specs.Entries.{without_borrow, without_buffer, is_buffer_of, is_borrow_of, is_heap_at}
use Rattle.machine_defs.specs.Entries.{is_registration, free_start, borrow_start}
use Rattle.machine_defs.specs.Views.PageMap.{lent_contexts, none_lent}
use Rattle.machine_defs.specs.Pages.{is_lent}
use Rattle.machine_defs.proofs.MachineCases.{lends}
use Rattle.machine_defs.specs.Services.{served, alloc_served, borrow_served, give_back_served}
use Rattle.param_wrappers.specs.Crossing.{with_loan}

-- a test of each of n numbers from a on, when one test changes

each_same : (f g : ℕ → Bool) (n a : ℕ) → ((c : ℕ) → a ≤ c → f c ≡ g c) → map f (range_with_len a n) ≡ map g (range_with_len a n)
each_same f g zero a same = refl
each_same f g (suc n) a same = rw (same a (omega arith), each_same f g n (a + 1) (λ c later. same c (omega (arith, later)))) refl

one_set : (f g : ℕ → Bool) (b : Bool) (n a k j : ℕ) → a + k ≡ j → g j ≡ b → ((c : ℕ) → a ≤ c → c ≢ j → f c ≡ g c) → slice_set (map f (range_with_len a n)) k b ≡ map g (range_with_len a n)
one_set f g b zero a k j at here others = refl
one_set f g b (suc n) a zero j at here others =
    let now : g a ≡ b = ap g (omega (arith, at)) ∙ here in
    rw (now, each_same f g n (a + 1) (λ c later. others c (omega (arith, later)) (λ same. absurd (omega (arith, later, same, at))))) refl
one_set f g b (suc n) a (suc k) j at here others =
    rw (others a (omega arith) (λ same. absurd (omega (arith, same, at))), one_set f g b n (a + 1) k j (omega (arith, at)) here (λ c later. others c (omega (arith, later)))) refl

-- whether some entry of a changed list passes a test

with_case : (p : Entry → Bool) (e x : Entry) (es : List Entry) (before : Bool) → list_any p (with_entry e es) ≡ (p e || list_any p es) → list_any p (if before then e ∷ x ∷ es else x ∷ with_entry e es) ≡ (p e || list_any p (x ∷ es))
with_case p e x es true ih = refl
with_case p e x es false ih = rw ih (swap (p x) (p e) (list_any p es))
  where
    swap : (a b c : Bool) → (a || (b || c)) ≡ (b || (a || c))
    swap true true c = refl
    swap true false c = refl
    swap false b c = refl

any_with : (p : Entry → Bool) (e : Entry) (es : List Entry) → list_any p (with_entry e es) ≡ (p e || list_any p es)
any_with p e [] = refl
any_with p e (x ∷ es) = with_case p e x es (comes_before e x) (any_with p e es)

live_same : (context : ℕ) (live : Bool) (e : Entry) → lends context (with_live live e) ≡ lends context e
live_same context live (entry.Heap start len) = refl
live_same context live (entry.Borrow object start) = refl
live_same context live (entry.Buffer c writable) = refl
live_same context live (entry.Registration was) = refl

lent_registered_at : (live : Bool) (es : List Entry) (context : ℕ) → is_lent (registered live es) context ≡ is_lent es context
lent_registered_at live [] context = refl
lent_registered_at live (e ∷ es) context = rw (live_same context live e, lent_registered_at live es context) refl

kept_case : (p q : Entry → Bool) (e : Entry) (es : List Entry) (b : Bool) → q e ≡ b → (q e ≡ false → p e ≡ false) → list_any p (filter q es) ≡ list_any p es → list_any p (filter q (e ∷ es)) ≡ list_any p (e ∷ es)
kept_case p q e es true test none ih = rw (test, ih) refl
kept_case p q e es false test none ih = rw (test, ih, none test) refl

-- if no entry that passes is left out
any_kept : (p q : Entry → Bool) (es : List Entry) → ((e : Entry) → q e ≡ false → p e ≡ false) → list_any p (filter q es) ≡ list_any p es
any_kept p q [] none = refl
any_kept p q (e ∷ es) none = kept_case p q e es (q e) refl (none e) (any_kept p q es none)

ended_case : (p q : Entry → Bool) (e : Entry) (es : List Entry) (b : Bool) → q e ≡ b → (q e ≡ true → p e ≡ false) → list_any p (filter q es) ≡ false → list_any p (filter q (e ∷ es)) ≡ false
ended_case p q e es true test none ih = rw (test, none test, ih) refl
ended_case p q e es false test none ih = rw (test, ih) refl

-- if all entries that pass are left out
any_ended : (p q : Entry → Bool) (es : List Entry) → ((e : Entry) → q e ≡ true → p e ≡ false) → list_any p (filter q es) ≡ false
any_ended p q [] none = refl
any_ended p q (e ∷ es) none = ended_case p q e es (q e) refl (none e) (any_ended p q es none)

heap_lends_none : (context address : ℕ) (e : Entry) → not (is_heap_at address e) ≡ false → lends context e ≡ false
heap_lends_none context address (entry.Heap start len) out = refl
heap_lends_none context address (entry.Borrow object start) out = refl
heap_lends_none context address (entry.Buffer c writable) out = grind arith
heap_lends_none context address (entry.Registration live) out = refl

borrow_lends_none : (context object : ℕ) (e : Entry) → not (is_borrow_of object e) ≡ false → lends context e ≡ false
borrow_lends_none context object (entry.Heap start len) out = refl
borrow_lends_none context object (entry.Borrow o start) out = refl
borrow_lends_none context object (entry.Buffer c writable) out = grind arith
borrow_lends_none context object (entry.Registration live) out = refl

registration_lends_none : (context : ℕ) (e : Entry) → is_registration e ≡ true → lends context e ≡ false
registration_lends_none context (entry.Heap start len) held = refl
registration_lends_none context (entry.Borrow object start) held = refl
registration_lends_none context (entry.Buffer c writable) held = grind arith
registration_lends_none context (entry.Registration live) held = refl

other_lends_none : (context k : ℕ) (e : Entry) → context ≢ k → not (is_buffer_of k e) ≡ false → lends context e ≡ false
other_lends_none context k (entry.Heap start len) other out = refl
other_lends_none context k (entry.Borrow object start) other out = refl
other_lends_none context k (entry.Buffer c writable) other out = grind arith
other_lends_none context k (entry.Registration live) other out = refl

own_lends_none : (context : ℕ) (e : Entry) → not (is_buffer_of context e) ≡ true → lends context e ≡ false
own_lends_none context (entry.Heap start len) out = refl
own_lends_none context (entry.Borrow object start) out = refl
own_lends_none context (entry.Buffer c writable) out = grind arith
own_lends_none context (entry.Registration live) out = refl

bufferless : (context : ℕ) (e : Entry) → is_buffer_of context e ≡ false → lends context e ≡ false
bufferless context (entry.Heap start len) none = refl
bufferless context (entry.Borrow object start) none = refl
bufferless context (entry.Buffer c writable) none = grind arith
bufferless context (entry.Registration live) none = refl

-- a context without a buffer has none that is lent for writing
not_lent : (context : ℕ) (es : List Entry) → list_any (is_buffer_of context) es ≡ false → is_lent es context ≡ false
not_lent context [] none = refl
not_lent context (e ∷ es) none =
    let parts = or_parts (is_buffer_of context e) (list_any (is_buffer_of context) es) none in
    rw (bufferless context e parts.0, not_lent context es parts.1) refl

-- the contexts whose buffers are lent for writing

pub lent_registered : (live : Bool) (es : List Entry) → lent_contexts (registered live es) ≡ lent_contexts es
lent_registered live es = each_same (is_lent (registered live es)) (is_lent es) 17 0 (λ c from. lent_registered_at live es c)

pub lent_left : (k : ℕ) (es : List Entry) → slice_set (lent_contexts es) k false ≡ lent_contexts (without_buffer k es)
lent_left k es =
    one_set (is_lent es) (is_lent (without_buffer k es)) false 17 0 k k (omega arith)
    (any_ended (lends k) (λ e. not (is_buffer_of k e)) es (own_lends_none k))
    (λ c from other. sym (any_kept (lends c) (λ e. not (is_buffer_of k e)) es (λ e out. other_lends_none c k e other out)))

pub lent_collected : (es : List Entry) → none_lent ≡ lent_contexts (collected es)
unfolding none_lent
lent_collected es =
    each_same (λ c. false) (is_lent (collected es)) 17 0
    (λ c from. sym (any_ended (lends c) is_registration es (registration_lends_none c)))

entered_here : (k : ℕ) (es : List Entry) → is_lent (with_entry (entry.Buffer k true) es) k ≡ true
entered_here k es = any_with (lends k) (entry.Buffer k true) es ∙ grind arith

entered_else : (c k : ℕ) (writable : Bool) (es : List Entry) → c ≢ k → is_lent es c ≡ is_lent (with_entry (entry.Buffer k writable) es) c
entered_else c k writable es other = sym (any_with (lends c) (entry.Buffer k writable) es ∙ grind arith)

read_only : (c k : ℕ) (es : List Entry) → is_lent es c ≡ is_lent (with_entry (entry.Buffer k false) es) c
read_only c k es = sym (any_with (lends c) (entry.Buffer k false) es ∙ grind arith)

loan_by : (k : ℕ) (writable : Bool) (words : List ℕ) (es : List Entry) → with_loan k (Some (record { writable = writable; words = words })) (lent_contexts es) ≡ lent_contexts (with_entry (entry.Buffer k writable) es)
loan_by k true words es =
    one_set (is_lent es) (is_lent (with_entry (entry.Buffer k true) es)) true 17 0 k k (omega arith) (entered_here k es)
    (λ c from other. entered_else c k true es other)
loan_by k false words es = each_same (is_lent es) (is_lent (with_entry (entry.Buffer k false) es)) 17 0 (λ c from. read_only c k es)

pub lent_entered : (k : ℕ) (l : Option Lent) (es : List Entry) → with_loan k l (lent_contexts es) ≡ lent_contexts (lent_entries k l es)
lent_entered k None es = refl
lent_entered k (Some l) es = loan_by k l.writable l.words es

-- a service neither lends a buffer nor ends a loan

more_same : (e : Entry) (es : List Entry) → ((c : ℕ) → lends c e ≡ false) → lent_contexts es ≡ lent_contexts (with_entry e es)
more_same e es none = each_same (is_lent es) (is_lent (with_entry e es)) 17 0 (λ c from. sym (any_with (lends c) e es ∙ rw (none c) refl))

alloc_same : (n : ℕ) (start : Option ℕ) (memory : List ℕ) (es : List Entry) (queue : List (List ℕ)) → lent_contexts es ≡ lent_contexts (alloc_served n start memory es queue).entries
alloc_same n None memory es queue = refl
alloc_same n (Some start) memory es queue = more_same (entry.Heap start n) es (λ c. refl)

borrow_same : (object : ℕ) (start : Option ℕ) (memory : List ℕ) (es : List Entry) (queue : List (List ℕ)) → lent_contexts es ≡ lent_contexts (borrow_served object start memory es queue).entries
borrow_same object None memory es queue = refl
borrow_same object (Some start) memory es queue = more_same (entry.Borrow object start) es (λ c. refl)

back_same : (object : ℕ) (start : Option ℕ) (memory : List ℕ) (es : List Entry) (queue : List (List ℕ)) → lent_contexts es ≡ lent_contexts (give_back_served object start memory es queue).entries
back_same object None memory es queue = refl
back_same object (Some start) memory es queue =
    each_same (is_lent es) (is_lent (without_borrow object es)) 17 0
    (λ c from. sym (any_kept (lends c) (λ e. not (is_borrow_of object e)) es (borrow_lends_none c object)))

pub lent_served : (heap : ℕ) (s : Service) (memory : List ℕ) (es : List Entry) (queue : List (List ℕ)) → lent_contexts es ≡ lent_contexts (served heap s memory es queue).entries
unfolding served
lent_served heap (service.Alloc n) memory es queue = alloc_same n (free_start heap n es) memory es queue
lent_served heap (service.Free address) memory es queue =
    each_same (is_lent es) (is_lent (without_heap address es)) 17 0
    (λ c from. sym (any_kept (lends c) (λ e. not (is_heap_at address e)) es (heap_lends_none c address)))
lent_served heap service.Register memory es queue = sym (lent_registered true es)
lent_served heap (service.Borrow object) memory es queue = borrow_same object (free_start heap 64 es) memory es queue
lent_served heap (service.GiveBack object) memory es queue = back_same object (borrow_start object es) memory es queue
lent_served heap (service.NetRx start len) memory es queue = refl
lent_served heap service.Log memory es queue = refl
lent_served heap service.Yield memory es queue = refl

-- the loans of the first k contexts are ended
ended_next : (k : ℕ) (xs : List Bool) → k < length xs → slice_set (replicate k false ++ drop k xs) k false ≡ replicate (suc k) false ++ drop (suc k) xs
ended_next k [] within = absurd (omega (arith, within))
ended_next zero (x ∷ xs) within = refl
ended_next (suc k) (x ∷ xs) within = ap (λ ys. false ∷ ys) (ended_next k xs (omega (arith, within)))

pub ended_more : (k next : ℕ) (xs : List Bool) → k < length xs → next ≡ suc k → slice_set (replicate k false ++ drop k xs) k false ≡ replicate next false ++ drop next xs
ended_more k next xs within is = rw is (ended_next k xs within)

pub all_ended : (k : ℕ) (xs : List Bool) → length xs ≡ 17 → k ≡ 17 → replicate k false ++ drop k xs ≡ none_lent
unfolding none_lent
all_ended k xs whole all = rw (all, drop_all 17 xs (omega (arith, whole))) refl
