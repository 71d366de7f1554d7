use Rattle.std.specs.Prelude.{ℕ, zero, suc, ◌+◌, ◌-◌, ◌==◌, ◌&&◌, ◌||◌, nat_lt, not, if◌then◌else◌, Bool, true, false}
use Rattle.std.specs.Prelude.{Option, Some, None, List, [], ◌∷◌, count_by, filter, map}
use Rattle.std.specs.List.{list_any}
use Rattle.nook_data.specs.Types.{Entry}
use Rattle.nook_data.specs.declared.entries.Entry.TheVariants as entry
use Rattle.nook_data.specs.declared.limits.TheConstants.{MOST_HEAP_ENTRIES}
use Rattle.nook_data.specs.declared.memory_map.TheConstants.{DATA_END, OBJECT_WORDS}

-- The entry list is kept in Collect's order: heap by start, borrow by object, buffer by context, the registration.

-- the position of the entry's kind in that order
abbrev pub rank : Entry → ℕ
rank e = elim e [ (entry.Heap s n) ↦ 0 | (entry.Borrow o s) ↦ 1 | (entry.Buffer c w) ↦ 2 | (entry.Registration l) ↦ 3 ]

-- the key that orders the entries of one kind
abbrev pub key_of : Entry → ℕ
key_of e = elim e [ (entry.Heap start n) ↦ start | (entry.Borrow object s) ↦ object | (entry.Buffer c w) ↦ c | _ ↦ 0 ]

-- the order of entries: by kind, then by key
abbrev pub comes_before : Entry → Entry → Bool
comes_before e x = nat_lt (rank e) (rank x) || (rank e == rank x && nat_lt (key_of e) (key_of x))

-- the list with one more entry, inserted in order
abbrev pub with_entry : Entry → List Entry → List Entry
with_entry e [] = e ∷ []
with_entry e (x ∷ entries) = if comes_before e x then e ∷ x ∷ entries else x ∷ with_entry e entries

-- a heap block that begins at the address
abbrev pub is_heap_at : ℕ → Entry → Bool
is_heap_at address e = elim e [ (entry.Heap start len) ↦ start == address | _ ↦ false ]

-- a copy of the kernel object
abbrev pub is_borrow_of : ℕ → Entry → Bool
is_borrow_of object e = elim e [ (entry.Borrow o start) ↦ o == object | _ ↦ false ]

-- the buffer of the context
abbrev pub is_buffer_of : ℕ → Entry → Bool
is_buffer_of context e = elim e [ (entry.Buffer c writable) ↦ c == context | _ ↦ false ]

-- the driver's registration
abbrev pub is_registration : Entry → Bool
is_registration e = elim e [ (entry.Registration live) ↦ true | _ ↦ false ]

-- the driver is registered
abbrev pub is_live : Entry → Bool
is_live e = elim e [ (entry.Registration live) ↦ live | _ ↦ false ]

-- the registration with another state; other entries stay
abbrev pub with_live : Bool → Entry → Entry
with_live live e = elim e [ (entry.Registration was) ↦ entry.Registration live | other ↦ other ]

-- the entry covers heap words
abbrev pub is_heap_use : Entry → Bool
is_heap_use e = elim e [ (entry.Heap start len) ↦ true | (entry.Borrow object start) ↦ true | _ ↦ false ]

-- the initial list of a domain
abbrev pub opening_entries : List Entry
opening_entries = entry.Registration false ∷ []

-- the driver has a live registration
abbrev pub is_registered : List Entry → Bool
is_registered entries = list_any is_live entries

-- the entries with the registration live or not
abbrev pub registered : Bool → List Entry → List Entry
registered live entries = map (with_live live) entries

-- the heap

-- the two ranges of words overlap
abbrev pub overlap : ℕ → ℕ → ℕ → ℕ → Bool
overlap start n other len = nat_lt start (other + len) && nat_lt other (start + n)

-- the entry covers one of the n words from a start on
abbrev pub covers_some : ℕ → ℕ → Entry → Bool
covers_some start n e =
    elim e [ (entry.Heap s k) ↦ overlap start n s k | (entry.Borrow o s) ↦ overlap start n s OBJECT_WORDS | _ ↦ false ]

-- the n words from a start on are free
abbrev pub is_free_run : List Entry → ℕ → ℕ → Bool
is_free_run entries start n = not (list_any (covers_some start n) entries)

-- the first of this many consecutive starts that has n free words
unfoldable pub lowest_run : ℕ → List Entry → ℕ → ℕ → Option ℕ
lowest_run zero entries start n = None
lowest_run (suc left) entries start n =
    elim (is_free_run entries start n) [ true ↦ Some start | false ↦ lowest_run left entries (start + 1) n ]

-- the lowest start of n free heap words; None if there is none, or Heap and Borrow entries are at their maximum
abbrev pub free_start : ℕ → ℕ → List Entry → Option ℕ
free_start heap_start n entries = if nat_lt (count_by is_heap_use entries) MOST_HEAP_ENTRIES
    then lowest_run (DATA_END + 1 - (heap_start + n)) entries heap_start n else None

-- the start of the copy of a borrowed object; the 0 is never reached, because only a Borrow is of an object
abbrev pub borrow_start : ℕ → List Entry → Option ℕ
borrow_start object [] = None
borrow_start object (e ∷ entries) =
    if is_borrow_of object e then Some (elim e [ (entry.Borrow o start) ↦ start | _ ↦ 0 ])
    else borrow_start object entries

-- the entries without the heap block at an address
abbrev pub without_heap : ℕ → List Entry → List Entry
without_heap address entries = filter (λ e. not (is_heap_at address e)) entries

-- the entries without the copy of an object
abbrev pub without_borrow : ℕ → List Entry → List Entry
without_borrow object entries = filter (λ e. not (is_borrow_of object e)) entries

-- the entries without the buffer of a context
abbrev pub without_buffer : ℕ → List Entry → List Entry
without_buffer context entries = filter (λ e. not (is_buffer_of context e)) entries

-- the entries that are left after a Collect: only the registration
abbrev pub collected : List Entry → List Entry
collected entries = filter is_registration entries

-- the entries that a Collect releases, in order: all except the registration
abbrev pub released : List Entry → List Entry
released entries = filter (λ e. not (is_registration e)) entries
