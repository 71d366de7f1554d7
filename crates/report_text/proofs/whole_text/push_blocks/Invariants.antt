use Rattle.std.proofs.Common.{◌≡◌, ◌++◌, drop}
use Rattle.report_defs.specs.ReportText.{block_lines}
use Rattle.report_text.proofs.whole_text.push_blocks.Given as goal

abbrev pub invariant-loop-words : goal.invariant-loop-words
invariant-loop-words l = record {
  counted : l.block ≡ l.words-index;
  text : l.line ++ block_lines l.block (drop l.words-index l.medium) ≡ l.initial.line ++ block_lines 0 l.medium;
}
