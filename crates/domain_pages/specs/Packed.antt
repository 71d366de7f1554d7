use Rattle.std.specs.Prelude.{◌≡◌, ℕ, ◌+◌, ◌<◌, ◌≤◌, Bool, true, false, List, [], ◌∷◌, ◌++◌, drop, length, replicate, slice_index, take}
use Rattle.nook_data.specs.declared.memory_map.TheConstants.{PAGE_WORDS, TEXT_WORDS}
use Rattle.domain_pages.specs.Frames.{word_at, IsFramed}

-- How the frames of a page map are kept in little memory. A table says which pages have a frame.

-- the words of the pages that have a frame, page by page
abbrev pub packed : List Bool → List ℕ → List ℕ
packed [] frames = []
packed (true ∷ table) frames = take PAGE_WORDS frames ++ packed table (drop PAGE_WORDS frames)
packed (false ∷ table) frames = packed table (drop PAGE_WORDS frames)

-- how many words there are
abbrev pub frame_words : List Bool → ℕ
frame_words [] = 0
frame_words (true ∷ table) = PAGE_WORDS + frame_words table
frame_words (false ∷ table) = frame_words table

-- the frames unpacked, with zeros for a page that has none
abbrev pub unpacked : List Bool → List ℕ → List ℕ
unpacked [] words = []
unpacked (true ∷ table) words = take PAGE_WORDS words ++ unpacked table (drop PAGE_WORDS words)
unpacked (false ∷ table) words = replicate PAGE_WORDS 0 ++ unpacked table words

-- the words are those of the pages that have a frame, including kernel objects; and the text is the words that are
-- shown, without some zeros at its end
pub record IsPacked (table : List Bool) (words text initial : List ℕ) : Type 0 where
  pub size : length words ≡ frame_words table
  pub framed : IsFramed table (unpacked table words)
  pub short : length text ≤ TEXT_WORDS
  pub same : (k : ℕ) → k < TEXT_WORDS → word_at table (unpacked table words) text initial k ≡ slice_index text k
