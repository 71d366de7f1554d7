use Rattle.std.proofs.Common.{◌≡◌, ◌⊎◌, inl, inr, ℕ, ◌==◌, ◌||◌, not, Bool, true, false, Option, Some, None, List, [], ◌∷◌, filter, refl, sym, ap, ◌∙◌, true≢false, eqb-true}
use Rattle.std.specs.List.{list_any}
use Rattle.std.proofs.lemmas.Bool.{or_cases, or_left, or_right}
use Rattle.std.proofs.lemmas.Map.Views.{any-filter_same}
use Rattle.part_laws.specs.Loans.{IsWithoutLoans}
use Rattle.nook_data.specs.declared.entries.Entry.{Entry}
use Rattle.nook_data.specs.declared.entries.Entry.TheVariants as entry
use Rattle.nook_data.specs.declared.machine.Service.{Service}
use Rattle.nook_data.specs.declared.machine.Service.TheVariants as service
use Rattle.machine_defs.specs.Entries.{comes_before, with_entry, is_buffer_of, is_registration, with_live, registered}
use Rattle.machine_defs.specs.Entries.{collected, free_start, borrow_start, without_buffer}
use Rattle.machine_defs.specs.Services.{served, alloc_served, borrow_served, give_back_served}
use Rattle.machine_defs.proofs.BurstKeeps.{split}

-- Which loans remain after a change of the entry list.

-- a buffer is lent only if it was lent before
abbrev pub NoMore : List Entry → List Entry → Type 0
NoMore before after = (context : ℕ) → list_any (is_buffer_of context) after ≡ true → list_any (is_buffer_of context) before ≡ true

pub without_more : (before after : List Entry) → NoMore before after → IsWithoutLoans before → IsWithoutLoans after
without_more before after more none context = split (list_any (is_buffer_of context) after)
    (λ lent. absurd (true≢false (sym (more context lent) ∙ none context)))
    (λ free. free)

-- fewer entries

any_of_filter : {X : Type 0} (p test : X → Bool) (xs : List X) → list_any p (filter test xs) ≡ true → list_any p xs ≡ true
any_of_filter p test [] h = h
any_of_filter p test (x ∷ xs) h = split (test x)
    (λ kept. elim (or_cases (p x) (list_any p (filter test xs)) (rw (kept, filter) at h)) [
      | inl here ↦ or_left (p x) (list_any p xs) here
      | inr later ↦ or_right (p x) (list_any p xs) (any_of_filter p test xs later)
    ])
    (λ gone. or_right (p x) (list_any p xs) (any_of_filter p test xs (rw (gone, filter) at h)))

pub filter_no_more : (test : Entry → Bool) (entries : List Entry) → NoMore entries (filter test entries)
filter_no_more test entries context h = any_of_filter (is_buffer_of context) test entries h

-- the context that becomes free has no buffer
left_free : (context : ℕ) (entries : List Entry) → list_any (is_buffer_of context) (without_buffer context entries) ≡ false
left_free context entries =
    any-filter_same (is_buffer_of context) (λ e. not (is_buffer_of context e)) false (λ e h. ap not h) entries

pub left_other : (left context : ℕ) (entries : List Entry) → list_any (is_buffer_of context) (without_buffer left entries) ≡ true
    → (context == left) ≡ false
left_other left context entries h = split (context == left)
    (λ same.
    let e : context ≡ left = eqb-true context left same in
    absurd (true≢false (sym h ∙ ap (λ (k : ℕ). list_any (is_buffer_of k) (without_buffer left entries)) e ∙ left_free left entries)))
    (λ other. other)

-- Collect ends every loan

not_registration : (context : ℕ) (e : Entry) → is_buffer_of context e ≡ true → is_registration e ≡ false
not_registration context (entry.Heap start len) h = refl
not_registration context (entry.Borrow object start) h = refl
not_registration context (entry.Buffer c writable) h = refl
not_registration context (entry.Registration live) h = absurd (true≢false (sym h))

pub collected_none : (entries : List Entry) → IsWithoutLoans (collected entries)
collected_none entries context =
    any-filter_same (is_buffer_of context) is_registration false (not_registration context) entries

-- one more entry

pub any_with_entry : (context : ℕ) (e : Entry) (entries : List Entry) → list_any (is_buffer_of context) (with_entry e entries) ≡ true
    → (is_buffer_of context e ≡ true) ⊎ (list_any (is_buffer_of context) entries ≡ true)
any_with_entry context e [] h = or_cases (is_buffer_of context e) false h
any_with_entry context e (x ∷ entries) h = split (comes_before e x)
    (λ first. or_cases (is_buffer_of context e) (list_any (is_buffer_of context) (x ∷ entries)) (rw (first, with_entry) at h))
    (λ later. elim (or_cases (is_buffer_of context x) (list_any (is_buffer_of context) (with_entry e entries)) (rw (later, with_entry) at h)) [
      | inl here ↦ inr (or_left (is_buffer_of context x) (list_any (is_buffer_of context) entries) here)
      | inr more ↦ elim (any_with_entry context e entries more) [
        | inl own ↦ inl own
        | inr other ↦ inr (or_right (is_buffer_of context x) (list_any (is_buffer_of context) entries) other)
      ]
    ])

entry_no_more : (e : Entry) (entries : List Entry) → ((context : ℕ) → is_buffer_of context e ≡ false) → NoMore entries (with_entry e entries)
entry_no_more e entries no_buffer context h = elim (any_with_entry context e entries h) [
  | inl own ↦ absurd (true≢false (sym own ∙ no_buffer context))
  | inr other ↦ other
]

-- the registration

live_same : (live : Bool) (context : ℕ) (e : Entry) → is_buffer_of context (with_live live e) ≡ is_buffer_of context e
live_same live context (entry.Heap start len) = refl
live_same live context (entry.Borrow object start) = refl
live_same live context (entry.Buffer c writable) = refl
live_same live context (entry.Registration was) = refl

registered_same : (live : Bool) (context : ℕ) (entries : List Entry)
    → list_any (is_buffer_of context) (registered live entries) ≡ list_any (is_buffer_of context) entries
registered_same live context [] = refl
registered_same live context (e ∷ entries) =
    ap (λ (b : Bool). b || list_any (is_buffer_of context) (registered live entries)) (live_same live context e)
    ∙ ap (λ (b : Bool). is_buffer_of context e || b) (registered_same live context entries)

-- the services

alloc_no_more : (n : ℕ) (o : Option ℕ) (memory : List ℕ) (entries : List Entry) (queue : List (List ℕ))
    → NoMore entries (alloc_served n o memory entries queue).entries
alloc_no_more n None memory entries queue context h = h
alloc_no_more n (Some start) memory entries queue context h = entry_no_more (entry.Heap start n) entries (λ k. refl) context h

borrow_no_more : (object : ℕ) (o : Option ℕ) (memory : List ℕ) (entries : List Entry) (queue : List (List ℕ))
    → NoMore entries (borrow_served object o memory entries queue).entries
borrow_no_more object None memory entries queue context h = h
borrow_no_more object (Some start) memory entries queue context h = entry_no_more (entry.Borrow object start) entries (λ k. refl) context h

give_back_no_more : (object : ℕ) (o : Option ℕ) (memory : List ℕ) (entries : List Entry) (queue : List (List ℕ))
    → NoMore entries (give_back_served object o memory entries queue).entries
give_back_no_more object None memory entries queue context h = h
give_back_no_more object (Some start) memory entries queue context h = filter_no_more _ entries context h

-- no service lends a buffer
pub served_no_more : (heap_start : ℕ) (s : Service) (memory : List ℕ) (entries : List Entry) (queue : List (List ℕ))
    → NoMore entries (served heap_start s memory entries queue).entries
unfolding served
served_no_more heap_start (service.Alloc n) memory entries queue context h =
    alloc_no_more n (free_start heap_start n entries) memory entries queue context h
served_no_more heap_start (service.Free address) memory entries queue context h = filter_no_more _ entries context h
served_no_more heap_start service.Register memory entries queue context h = sym (registered_same true context entries) ∙ h
served_no_more heap_start (service.Borrow object) memory entries queue context h =
    borrow_no_more object (free_start heap_start 64 entries) memory entries queue context h
served_no_more heap_start (service.GiveBack object) memory entries queue context h =
    give_back_no_more object (borrow_start object entries) memory entries queue context h
served_no_more heap_start (service.NetRx start len) memory entries queue context h = h
served_no_more heap_start service.Log memory entries queue context h = h
served_no_more heap_start service.Yield memory entries queue context h = h
