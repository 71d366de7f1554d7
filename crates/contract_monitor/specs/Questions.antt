use Rattle.std.specs.Prelude.{ℕ, Bool, List, ◌||◌, not, bytes_eq}
use Rattle.nook_data.specs.declared.calls.Op.{Op}
use Rattle.promise_defs.specs.Blocks.{words_for}
use Rattle.nook_data.specs.Classes.{covers}

-- a block that the operation covers has its words
abbrev pub holds_block : Op → ℕ → List ℕ → Bool
holds_block o block words = not (covers o block) || bytes_eq words (words_for o block)
