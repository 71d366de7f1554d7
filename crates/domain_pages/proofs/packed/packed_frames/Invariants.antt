use Rattle.std.proofs.Common.{◌≡◌, ◌*◌, ◌++◌, drop}
use Rattle.domain_pages.specs.Packed.{packed}
use Rattle.domain_pages.proofs.packed.packed_frames.Given as goal

abbrev pub invariant-loop-page : goal.invariant-loop-page
invariant-loop-page l = l.made.items ++ packed (drop l.page l.table) (drop (l.page * 64) l.frames) ≡ packed l.table l.frames
