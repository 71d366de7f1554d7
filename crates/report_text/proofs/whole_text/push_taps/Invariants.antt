use Rattle.std.proofs.Common.{◌≡◌, ◌++◌, drop}
use Rattle.report_defs.specs.ReportText.{taps_text}
use Rattle.report_text.proofs.whole_text.push_taps.Given as goal

abbrev pub invariant-loop-tap : goal.invariant-loop-tap
invariant-loop-tap l = record {
  counted : l.number ≡ l.tap-index;
  text : l.line ++ taps_text l.number (drop l.tap-index l.taps) ≡ l.initial.line ++ taps_text 0 l.taps;
}
