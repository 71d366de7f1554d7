use Rattle.std.proofs.Common.{◌≡◌, ◌<◌, ◌≤◌, ℕ, length, slice_index}
use Rattle.domain_pages.specs.Decoding.{IsDecoded}
use Rattle.domain_pages.proofs.decoding.put_text.Given as goal

abbrev pub invariant-loop-address : goal.invariant-loop-address
invariant-loop-address l =
    (length l.text ≡ 2048)
    × ((k : ℕ) → k < l.address → slice_index l.text k ≡ slice_index l.words k)
    × ((k : ℕ) → l.address ≤ k → slice_index l.text k ≡ slice_index l.initial.text k)
    × IsDecoded l.decoded l.text
