use Rattle.std.specs.Prelude.{◌≡◌, ℕ, ◌-◌, ◌≤◌, Bool, false, not, nat_le, nat_lt, ◌||◌, List, count_by}
use Rattle.nook_data.specs.declared.entries.Entry.{Entry}
use Rattle.nook_data.specs.declared.entries.Entry.TheVariants as entry
use Rattle.nook_data.specs.declared.limits.TheConstants.{CONTEXTS, MOST_HEAP_ENTRIES}
use Rattle.nook_data.specs.declared.memory_map.TheConstants.{DATA_END, LAST_OBJECT, OBJECT_WORDS}
use Rattle.object_tracker.specs.declared.query.Query.{Query}
use Rattle.object_tracker.specs.declared.query.Query.TheVariants as query
use Rattle.machine_defs.specs.Entries.{is_heap_at, is_borrow_of, is_heap_use, is_buffer_of, is_registration, is_live}

-- a copy of an object past the last, or past the heap's end; a buffer of a context past the last
abbrev pub is_stray : Entry → Bool
is_stray (entry.Heap start len) = false
is_stray (entry.Borrow object start) = nat_lt LAST_OBJECT object || nat_lt (DATA_END - OBJECT_WORDS) start
is_stray (entry.Buffer context writable) = nat_le CONTEXTS context
is_stray (entry.Registration live) = false

-- at most 64 heap and borrow entries, at most one buffer for each of 17 contexts, and one registration
pub record IsKept (entries : List Entry) : Type 0 where
  pub heap : count_by is_heap_use entries ≤ MOST_HEAP_ENTRIES
  pub buffers : (context : ℕ) → count_by (is_buffer_of context) entries ≤ 1
  pub contexts : count_by is_stray entries ≡ 0
  pub registration : count_by is_registration entries ≡ 1

-- what holds of every tracker
pub record IsTracked (heap_start : ℕ) (entries : List Entry) : Type 0 where
  pub start : heap_start ≤ DATA_END
  pub kept : IsKept entries

-- the entry matches what is looked for
abbrev pub fits : Query → Entry → Bool
fits (query.Heap start) e = is_heap_at start e
fits (query.Borrow object) e = is_borrow_of object e
fits (query.Buffer context) e = is_buffer_of context e
fits query.Held e = not (is_registration e)
fits query.Live e = is_live e
