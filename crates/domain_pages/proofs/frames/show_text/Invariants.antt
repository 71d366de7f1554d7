use Rattle.std.proofs.Common.{◌≡◌, ◌<◌, ◌≤◌, ◌⊎◌, ℕ, length, slice_index}
use Rattle.domain_pages.proofs.frames.show_text.Given as goal

abbrev pub invariant-loop-address : goal.invariant-loop-address
invariant-loop-address l =
    (length l.text ≡ 2048)
    × ((k : ℕ) → l.start ≤ k → k < l.address → slice_index l.text k ≡ slice_index l.frames k)
    × ((k : ℕ) → (k < l.start) ⊎ (l.address ≤ k) → slice_index l.text k ≡ slice_index l.initial.text k)
