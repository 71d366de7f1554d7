use Rattle.std.specs.Prelude.{ℕ, Option, List, [], ◌∷◌, filter, map, option_map}
use Rattle.explore_defs.specs.declared.outcome.Outcome.{Outcome}
use Rattle.explore_defs.specs.declared.outcome.PartOutcome.{PartOutcome}
use Rattle.guard_defs.specs.GuardedRuns.{spec_of}
use Rattle.machine_defs.specs.Devices.{medium_of}
use Rattle.machine_defs.specs.Pages.{object_words}
use Rattle.nook_data.specs.Types.{Act, Answer, Break, Class, Event, Losses, PartSpec}
use Rattle.nook_data.specs.declared.classes.Class.TheVariants as class
use Rattle.part_defs.specs.Runs.{state_of}
use Rattle.part_defs.specs.State.{PartState}
use Rattle.promise_defs.specs.Contract.{first_break}
use Rattle.promise_defs.specs.Losses.{is_played, is_sent, losses}
use Rattle.report_defs.specs.ReportText.{journal_acts}
use Rattle.run_defs.specs.Simulation.{RunningPart, Simulation, answer_table}

-- The outcome of a run: the answers of its threads and, for each part, what the report shows after its events, except
-- the number of the event that first broke a clause.

-- the words of the twelve objects
abbrev pub objects_of : List ℕ → List (List ℕ)
objects_of memory =
    map (λ object. object_words object memory) (1 ∷ 2 ∷ 3 ∷ 4 ∷ 5 ∷ 6 ∷ 7 ∷ 8 ∷ 9 ∷ 10 ∷ 11 ∷ 12 ∷ [])

-- the acts that a report lists at its end
abbrev pub given_by : Class → List Act → List Act
given_by class.Block acts = []
given_by class.Net acts = filter is_sent acts
given_by class.Sound acts = filter is_played acts

-- nothing was lost
abbrev pub no_losses : Losses
no_losses = record {
  sends = 0;
  samples = 0;
  busy = 0;
  arrived = 0;
  received = 0;
  queued = 0;
  ring = 0;
  driver = 0;
  reset = 0;
  full_ring = 0;
  full_queue = 0;
}

-- the losses that are reported for a class
abbrev pub shown_losses : Class → Losses → Losses
shown_losses class.Block n = no_losses
shown_losses class.Net n = record n { samples = 0; busy = 0 }
shown_losses class.Sound n = record no_losses { samples = n.samples; busy = n.busy }

-- the clause of a break
abbrev pub clause_of : Option Break → Option ℕ
clause_of verdict = option_map (λ (b : Break). b.clause) verdict

-- the outcome of a part with this specification, its journal and its final state
abbrev pub left_by : PartSpec → List Event → PartState → PartOutcome
left_by spec events p = record {
  objects = objects_of p.domain.memory;
  medium = medium_of p.domain.device;
  given = given_by spec.class (journal_acts events);
  config = p.log.config;
  losses = shown_losses spec.class (losses events);
  failures = p.failures;
  broken = clause_of (first_break spec.class spec.blocks events);
}

-- the outcome of each part from its journal; there is a journal for each part
unfoldable pub parts_left : List PartSpec → List (List Event) → List PartOutcome
parts_left [] journals = []
parts_left (spec ∷ specs) [] = []
parts_left (spec ∷ specs) (events ∷ journals) = left_by spec events (state_of spec events) ∷ parts_left specs journals

-- the outcome of the parts' journals and the threads' answers
abbrev pub outcome_by : List PartSpec → List (List Event) → List (List (ℕ × Answer)) → Outcome
outcome_by specs journals answers = record { answers = answers; parts = parts_left specs journals }

-- ---- of a simulation

-- the first clause that a part broke
abbrev pub broken_by : RunningPart → Option ℕ
broken_by seat = clause_of (first_break (spec_of seat).class (spec_of seat).blocks seat.run.journal)

-- the outcome of a part in its current state
abbrev pub part_outcome : RunningPart → PartOutcome
part_outcome seat = left_by (spec_of seat) seat.run.journal seat.run.state

-- the outcome of a simulation
unfoldable pub outcome_of : Simulation → Outcome
outcome_of s = record { answers = answer_table s; parts = map part_outcome s.parts }
