-- The length of padded words.
use Rattle.std.proofs.Common.{◌++◌, ◌≡◌, ℕ, ◌+◌, ◌-◌, ◌≤◌, List, length, replicate, arith, length-append}
use Rattle.std.proofs.lemmas.List.{length-replicate}
use Rattle.machine_defs.specs.Pages.{padded_words}

-- padding words to a number yields that many
pub length-padded_words : (n : ℕ) (words : List ℕ) → length words ≤ n → length (padded_words n words) ≡ n
length-padded_words n words h =
    let tail : List ℕ = replicate (n - length words) 0 in
    let a : length (words ++ tail) ≡ length words + length tail = length-append words tail in
    let b : length tail ≡ n - length words = length-replicate (n - length words) 0 in
    omega arith
