use Rattle.std.specs.Prelude.{◌≡◌, ◌⊎◌, ℕ, ◌&&◌, nat_lt, bytes_eq, Bool, true, List, [], length, slice_index_or}
use Rattle.std.specs.List.{list_any}
use Rattle.nook_data.specs.Types.{CallEntry}
use Rattle.nook_data.specs.Classes.{covers, is_write}
use Rattle.promise_defs.specs.Blocks.{words_for}

-- What a medium holds when a part is interrupted.

-- a Write that was entered covers the block, and has these words for it
abbrev pub has_words : ℕ → List ℕ → CallEntry → Bool
has_words block words c =
    is_write c.op && (nat_lt 0 c.attempts && (covers c.op block && bytes_eq words (words_for c.op block)))

-- each block of a medium holds the words last acknowledged for it, or those that one of the open calls has for it
pub record IsDurable (calls : List CallEntry) (acknowledged medium : List (List ℕ)) : Type 0 where
  pub size : length medium ≡ length acknowledged
  pub blocks : (block : ℕ) → (slice_index_or medium block [] ≡ slice_index_or acknowledged block [])
      ⊎ (list_any (has_words block (slice_index_or medium block [])) calls ≡ true)
