-- How contracts see a list with spare room, and the words that are copied into a room.
use Rattle.std.specs.Prelude.{ℕ, List, []}
use Rattle.nook_data.specs.Types.{Answer}
use Rattle.nook_data.specs.declared.calls.Answer.TheVariants.{Blocks, Frame}

-- a list, and the number of further items that it has room for
pub record Kept (T : Type 0) : Type 0 where
  pub list : List T
  pub spare : ℕ

-- the words that an answer carries
abbrev pub answer_words : Answer → List ℕ
answer_words (Blocks words) = words
answer_words (Frame words) = words
answer_words _ = []
