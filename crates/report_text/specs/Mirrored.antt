-- The text of a report of a mirror: that of the two parts, with the mirror's answers in the thread's lines.
use Rattle.std.specs.Prelude.{ℕ, List, [], ◌∷◌, ◌++◌, Bool, codes, decimal}
use Rattle.nook_data.specs.declared.steps.Event.{Event}
use Rattle.nook_data.specs.declared.mirror.MirrorAnswer.{MirrorAnswer}
use Rattle.nook_data.specs.declared.mirror.MirrorAnswer.TheVariants as mirrored
use Rattle.nook_data.specs.declared.scenario.Scenario.{Scenario}
use Rattle.nook_data.specs.declared.scenario.ThreadSpec.{ThreadSpec}
use Rattle.report_defs.specs.ReportLines.{line_feed, with_list, with_number}
use Rattle.report_defs.specs.ReportText.{ending_text, parts_text, thread_line}
use Rattle.run_results.specs.declared.report.Report.{Report}
use Rattle.report_text.specs.Whole.{parts_rows}
use Rattle.report_text.specs.Writing.{each_text}

abbrev pub mirror_answer_text : MirrorAnswer → List ℕ
mirror_answer_text mirrored.Done = codes "done"
mirror_answer_text (mirrored.Blocks words) = with_list (codes "data ") words
mirror_answer_text (mirrored.IoError block) = with_number (codes "io_error ") block
mirror_answer_text mirrored.BadRange = codes "bad_range"
mirror_answer_text mirrored.BadLength = codes "bad_length"
mirror_answer_text mirrored.BothLost = codes "both_lost"

-- an answer of the mirror, printed as one of its first part: K p0 ANSWER
abbrev pub mirror_answer_line : ℕ → MirrorAnswer → List ℕ
mirror_answer_line number a = decimal number ++ (codes " p0 " ++ (mirror_answer_text a ++ line_feed))

-- the thread, if there is one, with the mirror's answers
unfoldable pub mirror_threads_text : List ThreadSpec → List MirrorAnswer → List ℕ
mirror_threads_text [] answers = []
mirror_threads_text (t ∷ threads) answers = thread_line 0 t ++ each_text mirror_answer_line 1 answers

-- the report of a mirror: of its parts' journals, its answers, the listeners' totals and a status
unfoldable pub mirror_report_text : Scenario → List (List Event) → List MirrorAnswer → List (ℕ × Bool) → ℕ → List ℕ
mirror_report_text scenario journals answers taps status =
    parts_text 0 scenario.parts journals ++ (mirror_threads_text scenario.threads answers ++ ending_text taps status)

-- the same text by the rows of a report
abbrev pub mirror_report_rows : Scenario → Report → List MirrorAnswer → ℕ → List ℕ
mirror_report_rows scenario r answers status =
    parts_rows 0 scenario.parts r.run.journals r.parts r.ends
    ++ (mirror_threads_text scenario.threads answers ++ ending_text r.run.taps status)
