use Rattle.std.specs.Prelude.{ℕ, zero, suc, Bool, true, false, List, [], ◌∷◌, ◌++◌, ◌*◌, ◌-◌, take, drop, replicate}
use Rattle.std.specs.Prelude.{slice_get, unwrap_or, ◌==◌, ◌&&◌, ◌||◌, not, bytes_eq}
use Rattle.std.specs.List.{list_any}
use Rattle.nook_data.specs.Types.{Class, Op}
use Rattle.nook_data.specs.declared.classes.Class.TheVariants.{Block, Net, Sound}
use Rattle.nook_data.specs.declared.calls.Op.TheVariants.{Write}
use Rattle.nook_data.specs.declared.limits.TheConstants.{BLOCK_WORDS}
use Rattle.nook_data.specs.Classes.{covers}

-- The blocks of a disk, 16 words each, as a monitor and the plain disk see them.

-- a disk of zeros; the other classes have no blocks
abbrev pub blank_blocks : Class → ℕ → List (List ℕ)
blank_blocks Block count = replicate count (replicate BLOCK_WORDS 0)
blank_blocks Net count = []
blank_blocks Sound count = []

-- the words of this many consecutive blocks, beginning with the first
abbrev pub get_blocks : List (List ℕ) → ℕ → ℕ → List ℕ
get_blocks blocks first zero = []
get_blocks blocks first (suc more) = unwrap_or (slice_get blocks first) [] ++ get_blocks blocks (suc first) more

-- the words of a Write for a block that it covers
abbrev pub words_for : Op → ℕ → List ℕ
words_for (Write first words) block = take BLOCK_WORDS (drop (BLOCK_WORDS * (block - first)) words)
words_for o block = []

-- the blocks after a Write put its words in the chosen ones; `block` is the number of the first
abbrev pub put_from : (ℕ → Bool) → Op → ℕ → List (List ℕ) → List (List ℕ)
put_from chosen o block [] = []
put_from chosen o block (words ∷ blocks) =
    elim (chosen block) [ true ↦ words_for o block | false ↦ words ] ∷ put_from chosen o (suc block) blocks

-- each block that a Write covers holds its words; `block` is the number of the first
abbrev pub holds_from : ℕ → Op → List (List ℕ) → Bool
holds_from block o [] = true
holds_from block o (words ∷ blocks) =
    (not (covers o block) || bytes_eq words (words_for o block)) && holds_from (suc block) o blocks

-- a block is among these numbers
abbrev pub has_block : ℕ → List ℕ → Bool
has_block block blocks = list_any (λ other. other == block) blocks
