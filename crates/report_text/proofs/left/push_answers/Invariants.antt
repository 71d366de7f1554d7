use Rattle.std.proofs.Common.{◌≡◌, ◌+◌, ◌++◌, drop}
use Rattle.report_text.specs.Answers.{answer_line}
use Rattle.report_text.specs.Writing.{each_text}
use Rattle.report_text.proofs.left.push_answers.Given as goal

abbrev pub invariant-loop-answer : goal.invariant-loop-answer
invariant-loop-answer l = record {
  counted : l.number ≡ 1 + l.answer-index;
  text : l.line ++ each_text answer_line l.number (drop l.answer-index l.answers) ≡ l.initial.line ++ each_text answer_line 1 l.answers;
}
