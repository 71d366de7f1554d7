use Rattle.std.proofs.Common.{◌≡◌, ◌<◌, ◌≤◌, ◌⊎◌, ℕ, length}
use Rattle.domain_pages.specs.Decoding.{IsDecodedAt}
use Rattle.domain_pages.proofs.decoding.decode_range.Given as goal

abbrev pub invariant-loop-address : goal.invariant-loop-address
invariant-loop-address l =
    (length l.decoded ≡ 2049)
    × ((k : ℕ) → (k < l.address) ⊎ (l.end ≤ k) → IsDecodedAt l.decoded l.text k)
