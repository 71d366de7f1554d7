-- What an audit finds from a position on.
use Rattle.std.specs.Prelude.{◌≡◌, ℕ, true, false, List, [], Option, Some, None}
use Rattle.report_defs.specs.ReportText.{parts_text}
use Rattle.run_laws.specs.Audit.{Auditing, Done, Section, first_unfit, lines_of, opening_audit}
use Rattle.run_laws.specs.Fitting.{AllFit, fitting_text, sections_of}
use Rattle.nook_data.specs.declared.scenario.PartSpec.{PartSpec}
use Rattle.nook_data.specs.declared.scenario.Scenario.{Scenario}
use Rattle.journal_audit.specs.LinesLeft.{event_ends}
use Rattle.journal_audit.specs.Position.{Follows, Position}
use Rattle.journal_audit.specs.PastSections.{SumsUp, Past}

-- what an auditor who knows this finds from a position on
abbrev pub found_from : Scenario → Auditing → Position → Option ℕ
found_from scenario a p = first_unfit scenario a p.number (lines_of p.rest)

-- what an auditor knows between two sections
abbrev pub between : List Done → List PartSpec → Auditing
between sections coming = record { sections = sections; current = None; due = []; coming = coming; last = false }

-- what an auditor knows inside a section
abbrev pub inside : List Done → Section → List PartSpec → Auditing
inside sections s coming = record { sections = sections; current = Some s; due = []; coming = coming; last = false }

-- what an auditor knows after the sections, if a text is due
abbrev pub at_last : List Done → List ℕ → Auditing
at_last sections due = record { sections = sections; current = None; due = due; coming = []; last = true }

-- The sections of these parts are complete between two positions, and are those of journals that fit. The audit has
-- summed them up. If these other parts are still to come at the second position, an auditor finds from there on what
-- was to be found from the first.
pub record ArePast (scenario : Scenario) (first : Position) (specs coming : List PartSpec) (p : Position) (t : Past) : Type 0 where
  pub sections : List Done
  pub sums : SumsUp specs sections t
  pub same : found_from scenario (opening_audit scenario) first ≡ found_from scenario (between sections coming) p
  pub fit : AllFit scenario.threads 0 specs t.journals
  pub are : sections ≡ sections_of scenario.threads 0 specs t.journals
  pub text : Follows (parts_text 0 specs t.journals) first p
  pub ends : t.ends ≡ event_ends first.number 0 specs t.journals

-- every line of a report that begins at a position fits by itself: it is the report of journals that fit
pub record FitsByItself (scenario : Scenario) (first : Position) (t : Past) : Type 0 where
  pub none : found_from scenario (opening_audit scenario) first ≡ None
  pub fit : AllFit scenario.threads 0 scenario.parts t.journals
  pub text : first.rest ≡ fitting_text scenario t.journals
  pub ends : t.ends ≡ event_ends first.number 0 scenario.parts t.journals
