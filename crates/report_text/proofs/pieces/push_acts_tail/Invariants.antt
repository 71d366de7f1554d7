use Rattle.std.proofs.Common.{◌≡◌, ◌++◌, drop}
use Rattle.report_defs.specs.ReportLines.{acts_tail}
use Rattle.report_text.proofs.pieces.push_acts_tail.Given as goal

abbrev pub invariant-loop-act : goal.invariant-loop-act
invariant-loop-act l = l.line ++ acts_tail (drop l.act-index l.acts) ≡ l.initial.line ++ acts_tail l.acts
