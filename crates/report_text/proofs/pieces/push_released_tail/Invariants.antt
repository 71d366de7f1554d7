use Rattle.std.proofs.Common.{◌≡◌, ◌++◌, drop}
use Rattle.report_defs.specs.Views.Reporting.{released_tail}
use Rattle.report_text.proofs.pieces.push_released_tail.Given as goal

abbrev pub invariant-loop-entry : goal.invariant-loop-entry
invariant-loop-entry l = l.line ++ released_tail (drop l.entry-index l.released) ≡ l.initial.line ++ released_tail l.released
