use Rattle.std.specs.Prelude.{⊤}
use Rattle.std.specs.Fmt.{digits}
use Rattle.promise_defs.specs.Contract.{break_from, first_break}
use Rattle.promise_defs.specs.Ideal.{ran, class_run}
use Rattle.promise_defs.specs.Licence.{is_licensed_from, is_licensed}
use Rattle.promise_defs.specs.Losses.{losses}
use Rattle.report_defs.specs.ReportLines.{event_line, event_lines}
use Rattle.report_defs.specs.ReportText.{part_text, parts_text, threads_text, taps_text, has_break, has_given_up}
use Rattle.report_defs.specs.ReportText.{report_text, failures_count, summary_line}
use Rattle.nook_io.specs.Listening.{heard_events}
use Rattle.promise_defs.specs.Trace.{trace_from, trace}

-- a law that computes unfolds this one name, and with it every definition of traces, contracts, losses and reports
unfoldable pub trace_on_literals : ⊤
unfolding digits break_from first_break ran class_run is_licensed_from is_licensed losses event_line event_lines
    part_text parts_text threads_text taps_text has_break has_given_up report_text failures_count summary_line
    heard_events trace_from trace
trace_on_literals = tt
