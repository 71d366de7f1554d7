use Rattle.std.specs.Prelude.{ℕ, ◌/◌, if◌then◌else◌, Bool, true, false, List, [], map, replicate, slice_index_or}
use Rattle.std.specs.Prelude.{slice_set}
use Rattle.std.specs.List.{range_with_len}
use Rattle.nook_data.specs.Types.{Entry, Image}
use Rattle.nook_data.specs.declared.limits.TheConstants.{CONTEXTS}
use Rattle.nook_data.specs.declared.memory_map.TheConstants.{PAGE_WORDS, OWN_PAGES}
use Rattle.machine_defs.specs.Pages.{is_lent, may_write_where, opening_memory, loaded_memory}

-- The words of a domain as its page map keeps them, and what else the map knows.

-- the 8,192 words; which of the 17 contexts have their buffer lent for writing; and which of pages 0 to 114 were
-- written since the last load, or since the beginning
pub record PageMap : Type 0 where
  pub words : List ℕ
  pub lent : List Bool
  pub own : List Bool

-- no context's buffer is lent
unfoldable pub none_lent : List Bool
none_lent = replicate CONTEXTS false

-- no page was written
unfoldable pub none_written : List Bool
none_written = replicate OWN_PAGES false

-- the initial page map: zeros except for the numbers of the objects, nothing lent, nothing written
abbrev pub opening_pages : PageMap
opening_pages = record { words = opening_memory []; lent = none_lent; own = none_written }

-- a driver may write the address if the buffers of these contexts are lent for writing
abbrev pub may_change : List Bool → ℕ → Bool
may_change lent address = may_write_where (λ context. slice_index_or lent context false) address

-- the contexts whose buffers the entry list lends for writing
abbrev pub lent_contexts : List Entry → List Bool
lent_contexts entries = map (is_lent entries) (range_with_len 0 CONTEXTS)

-- one word is written, and its page is its own copy from now on
abbrev pub page_written : PageMap → ℕ → ℕ → PageMap
page_written p address word =
    record p { words = slice_set p.words address word; own = slice_set p.own (address / PAGE_WORDS) true }

-- a driver's write; nothing changes if it may not write there
abbrev pub driver_written : PageMap → ℕ → ℕ → PageMap
driver_written p address word = if may_change p.lent address then page_written p address word else p

-- the image is loaded
abbrev pub pages_loaded : Image → PageMap → PageMap
pages_loaded image p = record p { words = loaded_memory image p.words; own = none_written }
