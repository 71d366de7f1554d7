use Rattle.std.proofs.Common.{◌≡◌, ◌+◌, ◌≤◌, length, slice_range, vec_capacity}
use Rattle.domain_pages.proofs.map.PageMap.shown_words.Given as goal

abbrev pub invariant-loop-i : goal.invariant-loop-i
invariant-loop-i l =
    (l.words.items ≡ slice_range l.self.words l.start (l.start + l.i))
    × (length l.words.items ≡ l.i)
    × (l.count ≤ vec_capacity l.words)
