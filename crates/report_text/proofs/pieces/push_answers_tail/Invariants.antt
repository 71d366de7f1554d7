use Rattle.std.proofs.Common.{◌≡◌, ◌++◌, drop}
use Rattle.report_defs.specs.Views.Reporting.{answers_tail}
use Rattle.report_text.proofs.pieces.push_answers_tail.Given as goal

abbrev pub invariant-loop-answer : goal.invariant-loop-answer
invariant-loop-answer l = l.line ++ answers_tail (drop l.answer-index l.answers) ≡ l.initial.line ++ answers_tail l.answers
