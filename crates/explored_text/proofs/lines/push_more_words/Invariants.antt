use Rattle.std.proofs.Common.{◌≡◌, ◌++◌, drop}
use Rattle.report_defs.specs.Views.Reporting.{comma_words}
use Rattle.explored_text.proofs.lines.push_more_words.Given as goal

abbrev pub invariant-loop-word : goal.invariant-loop-word
invariant-loop-word l = l.line ++ comma_words (drop l.word-index l.words) ≡ l.initial.line ++ comma_words l.words
