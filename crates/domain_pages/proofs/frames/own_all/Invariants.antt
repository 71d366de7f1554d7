use Rattle.std.proofs.Common.{◌≡◌, ◌/◌, ◌<◌, ℕ, length}
use Rattle.domain_pages.specs.Frames.{word_at}
use Rattle.domain_pages.proofs.Own.{AreOwned}
use Rattle.domain_pages.proofs.frames.own_all.Given as goal

abbrev pub invariant-loop-page : goal.invariant-loop-page
invariant-loop-page l =
    (length l.frames ≡ 8192)
    × AreOwned l.initial.table l.table (l.start / 64) l.page
    × ((k : ℕ) → k < 8192 → word_at l.table l.frames l.text l.initial' k ≡ word_at l.initial.table l.initial.frames l.text l.initial' k)
