use Rattle.std.proofs.Common.{◌≡◌, ◌/◌, ◌<◌, ◌≤◌, ℕ, true, false, slice_index_or}
use Rattle.domain_pages.proofs.frames.are_framed.Given as goal

abbrev pub invariant-loop-page : goal.invariant-loop-page
invariant-loop-page l = (page : ℕ) → l.start / 64 ≤ page → page < l.page → slice_index_or l.table page false ≡ true
