-- What was read of a section.
use Rattle.std.specs.Prelude.{◌≡◌, ℕ, suc, ◌+◌, List, ◌++◌, length}
use Rattle.nook_data.specs.declared.scenario.PartSpec.{PartSpec}
use Rattle.nook_data.specs.declared.scenario.Scenario.{Scenario}
use Rattle.nook_data.specs.declared.steps.Event.{Event}
use Rattle.report_defs.specs.ReportLines.{event_lines}
use Rattle.run_laws.specs.Audit.{Done, Section}
use Rattle.run_laws.specs.Fitting.{FitsFrom, section_from}
use Rattle.journal_audit.specs.Found.{found_from, inside}
use Rattle.journal_audit.specs.Position.{Follows, Position}

-- the lines of some events were read between two positions: they lead from one section to another, and fit
pub record Reads (s t : Section) (p q : Position) : Type 0 where
  pub same : (scenario : Scenario) (sections : List Done) (coming : List PartSpec)
      → found_from scenario (inside sections s coming) p ≡ found_from scenario (inside sections t coming) q
  pub index : t.index ≡ s.index
  pub spec : t.spec ≡ s.spec
  pub events : List Event
  pub leads : section_from s events ≡ t
  pub journal : t.seat.run.journal ≡ s.seat.run.journal ++ events
  pub fits : (later : List Event) → FitsFrom t later → FitsFrom s (events ++ later)
  pub follows : Follows (event_lines (suc (length s.seat.run.journal)) events) p q
  pub lines : q.number ≡ p.number + length events
