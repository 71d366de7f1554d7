-- The text of a report with the final states of its parts, by its rows.
use Rattle.std.specs.Prelude.{ℕ, suc, ◌+◌, List, [], ◌∷◌}
use Rattle.std.specs.Prelude.{◌++◌, codes, flat_map}
use Rattle.nook_data.specs.declared.classes.Class.{Class}
use Rattle.nook_data.specs.declared.classes.Class.TheVariants as class
use Rattle.nook_data.specs.declared.steps.Event.{Event}
use Rattle.nook_data.specs.declared.verdicts.Losses.{Losses}
use Rattle.nook_data.specs.declared.scenario.PartSpec.{PartSpec}
use Rattle.nook_data.specs.declared.scenario.Scenario.{Scenario}
use Rattle.promise_defs.specs.Contract.{first_break}
use Rattle.promise_defs.specs.Losses.{losses}
use Rattle.report_defs.specs.ReportLines.{event_lines, line_feed, with_number}
use Rattle.report_defs.specs.ReportText.{block_lines, contract_line, ending_text, losses_lines, part_line, played_line}
use Rattle.report_defs.specs.ReportText.{threads_text, wire_line}
use Rattle.report_defs.specs.Views.Reporting.{config_line, failures_line, object_line}
use Rattle.report_defs.specs.Views.Reporting.{acts_of_event}
use Rattle.nook_data.specs.Views.Room.{Kept}
use Rattle.run_results.specs.declared.report.PartEnd.{PartEnd}
use Rattle.run_results.specs.declared.report.PartReport.{PartReport}
use Rattle.run_results.specs.declared.report.Report.{Report}
use Rattle.report_text.specs.declared.whole_text.Kind.{Kind}
use Rattle.report_text.specs.declared.whole_text.Kind.TheVariants as kind
use Rattle.report_text.specs.Writing.{each_text}

-- ---- the text

-- the lines of an event's acts: frames sent, or samples played
abbrev pub event_rows : Kind → Event → List ℕ
event_rows kind.Frames e = flat_map wire_line (acts_of_event e)
event_rows kind.Samples e = flat_map played_line (acts_of_event e)

-- the same for an event with a number, which it ignores
abbrev pub event_text : Kind → ℕ → Event → List ℕ
event_text k number e = event_rows k e

abbrev pub device_rows : Class → List Event → List (List ℕ) → List ℕ
device_rows class.Block events medium = block_lines 0 medium
device_rows class.Net events medium = each_text (event_text kind.Frames) 0 events
device_rows class.Sound events medium = each_text (event_text kind.Samples) 0 events

-- the last numbers in the line of a net part's frames
abbrev pub lost_counts : Losses → List ℕ
lost_counts n =
    with_number (codes " reset ") n.reset ++ (with_number (codes " full_ring ") n.full_ring
    ++ (with_number (codes " full_queue ") n.full_queue ++ line_feed))

abbrev pub kept_counts : Losses → List ℕ
kept_counts n =
    with_number (codes " queued ") n.queued ++ (with_number (codes " ring ") n.ring
    ++ (with_number (codes " driver ") n.driver ++ lost_counts n))

abbrev pub frame_counts : Losses → List ℕ
frame_counts n =
    with_number (codes "losses sends ") n.sends ++ (line_feed ++ (with_number (codes "frames arrived ") n.arrived
    ++ (with_number (codes " received ") n.received ++ kept_counts n)))

-- what a sound part lost
abbrev pub sample_counts : Losses → List ℕ
sample_counts n = with_number (codes "losses samples ") n.samples ++ (with_number (codes " busy ") n.busy ++ line_feed)

-- a part's last lines
abbrev pub ending_rows : Class → PartReport → PartEnd → List ℕ
ending_rows c r e = config_line e.config ++ (losses_lines c r.losses
    ++ (failures_line r.failures ++ contract_line r.first_break))

-- the lines of a part's final state
abbrev pub left_rows : Class → List Event → Losses → PartEnd → List ℕ
left_rows c events n e =
    each_text object_line 1 e.objects ++ (device_rows c events e.medium ++ (config_line e.config ++ losses_lines c n))

-- the lines after a part's events
abbrev pub final_rows : Class → List Event → PartReport → PartEnd → List ℕ
final_rows c events r e =
    each_text object_line 1 e.objects ++ (device_rows c events e.medium ++ ending_rows c r e)

abbrev pub part_rows : ℕ → PartSpec → List Event → PartReport → PartEnd → List ℕ
part_rows number s events r e =
    part_line number s ++ (event_lines 1 events ++ final_rows s.class events r e)

abbrev pub parts_rows : ℕ → List PartSpec → List (Kept Event) → List PartReport → List PartEnd → List ℕ
parts_rows number [] journals reports ends = []
parts_rows number (s ∷ specs) [] reports ends = []
parts_rows number (s ∷ specs) (journal ∷ journals) [] ends = []
parts_rows number (s ∷ specs) (journal ∷ journals) (r ∷ reports) [] = []
parts_rows number (s ∷ specs) (journal ∷ journals) (r ∷ reports) (e ∷ ends) =
    part_rows number s journal.list r e ++ parts_rows (suc number) specs journals reports ends

-- the whole report
abbrev pub report_rows : Scenario → Report → List ℕ
report_rows scenario r =
    parts_rows 0 scenario.parts r.run.journals r.parts r.ends
    ++ (threads_text 0 scenario.threads r.run.answers ++ ending_text r.run.taps r.status)
