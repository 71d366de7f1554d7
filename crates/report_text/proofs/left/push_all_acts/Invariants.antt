use Rattle.std.proofs.Common.{◌≡◌, ◌++◌, drop}
use Rattle.report_text.specs.Whole.{event_text}
use Rattle.report_text.specs.Writing.{each_text}
use Rattle.report_text.proofs.left.push_all_acts.Given as goal

abbrev pub invariant-loop-event : goal.invariant-loop-event
invariant-loop-event l =
    l.line ++ each_text (event_text l.kind) l.event-index (drop l.event-index l.events)
    ≡ l.initial.line ++ each_text (event_text l.kind) 0 l.events
