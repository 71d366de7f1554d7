-- Words that fill their space need no zeros.
use Rattle.std.proofs.Common.{◌≡◌, ℕ, ◌-◌, List, length, arith}
use Rattle.std.proofs.lemmas.List.{append-nil}
use Rattle.machine_defs.specs.Pages.{padded_words}

pub padded_full : (n : ℕ) (words : List ℕ) → length words ≡ n → padded_words n words ≡ words
padded_full n words full = let none : n - length words ≡ 0 = omega (arith, full) in rw none (append-nil words)
