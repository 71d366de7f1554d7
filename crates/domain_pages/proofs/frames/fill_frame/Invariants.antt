use Rattle.std.proofs.Common.{◌≡◌, ◌<◌, ◌≤◌, ◌⊎◌, ℕ, length, slice_index}
use Rattle.domain_pages.specs.Frames.{image_word}
use Rattle.domain_pages.proofs.frames.fill_frame.Given as goal

abbrev pub invariant-loop-address : goal.invariant-loop-address
invariant-loop-address l =
    (length l.frames ≡ length l.initial.frames)
    × ((k : ℕ) → l.start ≤ k → k < l.address → slice_index l.frames k ≡ image_word l.text l.initial' k)
    × ((k : ℕ) → (k < l.start) ⊎ (l.address ≤ k) → slice_index l.frames k ≡ slice_index l.initial.frames k)
