-- What an audit keeps of the finished sections.
use Rattle.std.specs.Prelude.{◌≡◌, ℕ, Bool, List, length, map}
use Rattle.run_laws.specs.Audit.{Done, Section, journal_in, own_listeners, published_in}
use Rattle.promise_defs.specs.Contract.{first_break}
use Rattle.promise_defs.specs.Losses.{losses}
use Rattle.report_defs.specs.ReportText.{has_break, has_given_up}
use Rattle.nook_io.specs.Listening.{Listening}
use Rattle.nook_data.specs.declared.calls.Answer.{Answer}
use Rattle.nook_data.specs.declared.scenario.PartSpec.{PartSpec}
use Rattle.nook_data.specs.declared.steps.Event.{Event}
use Rattle.run_results.specs.declared.report.PartReport.{PartReport}
use Rattle.request_taps.specs.Bus.{settled, after_hearing_all}
use Rattle.request_taps.specs.declared.tap.Tap.{Tap}

-- the answers of each section to each thread, each section's journal, the number of the line after its events, what the
-- program's own listeners heard, and whether some part broke its contract or was given up
pub record Past : Type 0 where
  pub answers : List (List (List (ℕ × Answer)))
  pub journals : List (List Event)
  pub ends : List ℕ
  pub taps : List (Tap Listening)
  pub broken : Bool
  pub given_up : Bool

abbrev pub answers_in : Done → List (List (ℕ × Answer))
answers_in d = d.answers

-- it sums up these sections of a scenario with these parts
pub record SumsUp (parts : List PartSpec) (sections : List Done) (t : Past) : Type 0 where
  pub many : length sections ≡ length parts
  pub answers : t.answers ≡ map answers_in sections
  pub journals : t.journals ≡ map journal_in sections
  pub taps : t.taps ≡ after_hearing_all (published_in 0 sections) (map settled own_listeners)
  pub broken : t.broken ≡ has_break parts (map journal_in sections)
  pub given_up : t.given_up ≡ has_given_up parts (map journal_in sections)

-- what is summed up of a section's part
abbrev pub judged_in : Section → PartReport
judged_in s = record {
  losses = losses s.seat.run.journal;
  first_break = first_break s.spec.class s.spec.blocks s.seat.run.journal;
  failures = s.seat.run.state.failures;
}
