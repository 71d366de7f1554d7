use Rattle.std.proofs.Common.{◌≡◌, ◌++◌, drop}
use Rattle.std.specs.List.{flat_map}
use Rattle.report_defs.specs.ReportText.{wire_line}
use Rattle.report_text.proofs.whole_text.push_frames.Given as goal

abbrev pub invariant-loop-act : goal.invariant-loop-act
invariant-loop-act l = l.line ++ flat_map wire_line (drop l.act-index l.acts) ≡ l.initial.line ++ flat_map wire_line l.acts
