-- The line of one answer.
use Rattle.std.specs.Prelude.{ℕ, List, ◌++◌, codes, decimal}
use Rattle.nook_data.specs.declared.calls.Answer.{Answer}
use Rattle.report_defs.specs.ReportLines.{answer_text, line_feed, with_number}

-- a thread's answer: K pP ANSWER
abbrev pub answer_line : ℕ → ℕ × Answer → List ℕ
answer_line number a = decimal number ++ (with_number (codes " p") a.0 ++ (codes " " ++ (answer_text a.1 ++ line_feed)))
