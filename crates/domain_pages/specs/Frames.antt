use Rattle.std.specs.Prelude.{◌≡◌, ℕ, ◌+◌, ◌-◌, ◌/◌, ◌<◌, ◌≤◌, ◌&&◌, ◌||◌, nat_le, nat_lt, if◌then◌else◌, Bool, true, false, List, ◌++◌, map, replicate, length, slice_index, slice_index_or}
use Rattle.std.specs.List.{range_with_len}
use Rattle.nook_data.specs.declared.memory_map.TheConstants.{DATA_START, MEMORY_WORDS, OBJECTS, OWN_PAGES, PAGES}
use Rattle.nook_data.specs.declared.memory_map.TheConstants.{PAGE_WORDS, TEXT_WORDS}

-- How a page map shows its words: a page that has its own frame shows the frame, every other page the image.

-- an image's word at an address: its text up to 2,047, then its initial words; zeros past the end of each
abbrev pub image_word : List ℕ → List ℕ → ℕ → ℕ
image_word text initial address =
    if nat_lt address TEXT_WORDS then slice_index text address else slice_index initial (address - DATA_START)

-- the word at an address; the table says which of the 128 pages have their own frame
abbrev pub word_at : List Bool → List ℕ → List ℕ → List ℕ → ℕ → ℕ
word_at table frames text initial address =
    if slice_index_or table (address / PAGE_WORDS) false
    then slice_index frames address
    else image_word text initial address

-- the words at all 8,192 addresses
unfoldable pub shown : List Bool → List ℕ → List ℕ → List ℕ → List ℕ
shown table frames text initial = map (word_at table frames text initial) (range_with_len 0 MEMORY_WORDS)

-- only the 13 kernel objects have frames
unfoldable pub opening_table : List Bool
opening_table = replicate OWN_PAGES false ++ replicate OBJECTS true

-- there is a frame for each page, and each kernel object has its frame
pub record IsFramed (table : List Bool) (frames : List ℕ) : Type 0 where
  pub frames_all : length frames ≡ MEMORY_WORDS
  pub objects : (page : ℕ) → OWN_PAGES ≤ page → page < PAGES → slice_index_or table page false ≡ true

-- the text has all its words, and they are the words that are shown
pub record IsText (table : List Bool) (frames text initial : List ℕ) : Type 0 where
  pub size : length text ≡ TEXT_WORDS
  pub same : (k : ℕ) → k < TEXT_WORDS → word_at table frames text initial k ≡ slice_index text k

-- from this address on the text is zeros
pub record IsEndOfText (end : ℕ) (text : List ℕ) : Type 0 where
  pub within : end ≤ TEXT_WORDS
  pub zeros : (k : ℕ) → end ≤ k → slice_index text k ≡ 0

-- the page contains one of n words from an address on
abbrev pub has_some : ℕ → ℕ → ℕ → Bool
has_some start n page = nat_lt 0 n && (nat_le (start / PAGE_WORDS) page && nat_le page ((start + n - 1) / PAGE_WORDS))

-- which of pages 0 to 114 have their own frame after the kernel writes n words from an address on
unfoldable pub with_own : ℕ → ℕ → List Bool → List Bool
with_own start n own = map (λ page. has_some start n page || slice_index_or own page false) (range_with_len 0 OWN_PAGES)
