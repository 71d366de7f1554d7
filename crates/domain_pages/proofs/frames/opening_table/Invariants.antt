use Rattle.std.proofs.Common.{◌≡◌, ◌-◌, true, false, replicate}
use Rattle.std.proofs.Math.Seq.{paste}
use Rattle.domain_pages.proofs.frames.opening_table.Given as goal

abbrev pub invariant-loop-page : goal.invariant-loop-page
invariant-loop-page l = l.table ≡ paste (replicate 128 false) 115 (replicate (l.page - 115) true) (l.page - 115)
