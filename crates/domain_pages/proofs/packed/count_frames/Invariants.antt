use Rattle.std.proofs.Common.{◌≤◌}
use Rattle.domain_pages.proofs.packed.count_frames.Given as goal

abbrev pub invariant-loop-page : goal.invariant-loop-page
invariant-loop-page l = l.count ≤ l.page
