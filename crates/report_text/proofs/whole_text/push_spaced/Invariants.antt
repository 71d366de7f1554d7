use Rattle.std.proofs.Common.{◌≡◌, ◌++◌, drop}
use Rattle.std.specs.List.{flat_map}
use Rattle.report_defs.specs.ReportLines.{spaced}
use Rattle.report_text.proofs.whole_text.push_spaced.Given as goal

abbrev pub invariant-loop-word : goal.invariant-loop-word
invariant-loop-word l = l.line ++ flat_map spaced (drop l.word-index l.words) ≡ l.initial.line ++ flat_map spaced l.words
