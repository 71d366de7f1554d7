-- A word of text, read and fetched.
use Rattle.std.proofs.Common.{◌≡◌, ◌<◌, ℕ, List, arith}
use Rattle.machine_defs.specs.Pages.{fetch_word, read_word}

-- a word of text is read as it is fetched
pub read_in_text : (memory : List ℕ) (k : ℕ) → k < 2048 → read_word memory k ≡ fetch_word memory k
read_in_text memory k low = grind arith
