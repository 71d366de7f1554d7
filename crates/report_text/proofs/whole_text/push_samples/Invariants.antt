use Rattle.std.proofs.Common.{◌≡◌, ◌++◌, drop}
use Rattle.std.specs.List.{flat_map}
use Rattle.report_defs.specs.ReportText.{played_line}
use Rattle.report_text.proofs.whole_text.push_samples.Given as goal

abbrev pub invariant-loop-act : goal.invariant-loop-act
invariant-loop-act l = l.line ++ flat_map played_line (drop l.act-index l.acts) ≡ l.initial.line ++ flat_map played_line l.acts
