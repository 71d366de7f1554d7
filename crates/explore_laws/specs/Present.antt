use Rattle.std.specs.Prelude.{ℕ, ◌+◌, ◌||◌, if◌then◌else◌, Bool, false, is_some, ◌++◌, Option, Some, None, List}
use Rattle.std.specs.Prelude.{[], ◌∷◌, fold, map, option_map, slice_get, slice_set}
use Rattle.contract_monitor.specs.Judging.{event_broken}
use Rattle.contract_monitor.specs.Keeping.{LossCounts, counts_after, shorter, shorter_after, losses_of}
use Rattle.contract_monitor.specs.Monitors.{counts_of}
use Rattle.explore_defs.specs.Outcomes.{broken_by, given_by, objects_of, shown_losses}
use Rattle.explore_defs.specs.declared.outcome.Outcome.{Outcome}
use Rattle.explore_defs.specs.declared.outcome.PartOutcome.{PartOutcome}
use Rattle.guard_defs.specs.GuardedRuns.{known_of, spec_of}
use Rattle.machine_defs.specs.Devices.{medium_of}
use Rattle.nook_data.specs.Clauses.{clause_number}
use Rattle.nook_data.specs.Types.{Act, Event, MemberRow, Step}
use Rattle.part_defs.specs.Runs.{event_of, state_after}
use Rattle.part_defs.specs.Stages.{is_given_up}
use Rattle.part_defs.specs.State.{PartState}
use Rattle.promise_defs.specs.Contract.{Known}
use Rattle.promise_defs.specs.Losses.{CallEffects, call_effects_after}
use Rattle.report_defs.specs.Campaigns.{gone_count, lost_of}
use Rattle.report_defs.specs.ReportText.{journal_acts}
use Rattle.run_defs.specs.Schedules.{round}
use Rattle.run_defs.specs.Simulation.{Choice, RunningPart, Simulation, ThreadState, coming_after, threads_after}
use Rattle.run_defs.specs.Simulation.{answers_of_thread}

-- The present of a simulation is what determines how it continues and what its outcome will be; neither its journals,
-- nor the order of the steps that led to it, nor its schedule are part of it.

-- the present of a part: its state and the frames still to arrive; what the contract's judge knows, with only those
-- popped frames that were not handed up, until a clause is broken; the clause that was broken first; the open calls
-- and the counts, as needed for the losses; and the acts that the report will list
pub record PartPresent : Type 0 where
  pub state : PartState
  pub coming : List (List ℕ)
  pub known : Option Known
  pub broken : Option ℕ
  pub call_effects : List CallEffects
  pub counts : LossCounts
  pub given : List Act

-- the present of a simulation; a thread is its remaining operations, its open call and its answers
pub record Present : Type 0 where
  pub parts : List PartPresent
  pub threads : List ThreadState

-- what the judge continues from; nothing once a clause is broken
abbrev pub judged_from : Option ℕ → Known → Option Known
judged_from None k = Some (shorter k)
judged_from (Some clause) k = None

-- the present of a part
abbrev pub part_present : RunningPart → PartPresent
part_present seat = record {
  state = seat.run.state;
  coming = seat.coming;
  known = judged_from (broken_by seat) (known_of seat);
  broken = broken_by seat;
  call_effects = fold call_effects_after [] seat.run.journal;
  counts = counts_of seat.run.journal;
  given = given_by (spec_of seat).class (journal_acts seat.run.journal);
}

-- the present of a simulation
unfoldable pub present : Simulation → Present
present s = record { parts = map part_present s.parts; threads = s.threads }

-- ---- how it continues

-- a part with this present, and no journal
abbrev pub bare : PartPresent → RunningPart
bare p = record { run = record { state = p.state; journal = [] }; coming = p.coming }

-- a simulation with this present
abbrev pub bare_run : Present → Simulation
bare_run now = record { order = round 0; parts = map bare now.parts; threads = now.threads }

-- the clause that was broken first, after an event
abbrev pub broken_after : Option ℕ → Option Known → Event → Option ℕ
broken_after (Some clause) k e = Some clause
broken_after None None e = None
broken_after None (Some k) e = option_map clause_number (event_broken k e)

-- what the judge continues from, after an event
abbrev pub known_next : Option ℕ → Option Known → Event → Option Known
known_next None (Some k) e = Some (shorter_after k e)
known_next broken k e = None

-- the present of a part after its step
abbrev pub present_after : Step → PartPresent → PartPresent
present_after s p = let e = event_of p.state s in record {
  state = state_after p.state s;
  coming = coming_after s p.coming;
  known = known_next (broken_after p.broken p.known e) p.known e;
  broken = broken_after p.broken p.known e;
  call_effects = call_effects_after p.call_effects e;
  counts = counts_after p.call_effects p.counts e;
  given = p.given ++ given_by p.state.spec.class (journal_acts (e ∷ []));
}

-- the present after a choice, given the present of its part
abbrev pub present_by : Present → Choice → Option PartPresent → Present
present_by now c None = now
present_by now c (Some p) = record {
  parts = slice_set now.parts c.part (present_after c.step p);
  threads = threads_after 0 c.part (event_of p.state c.step) now.threads;
}

-- the present after a choice
abbrev pub goes_on_by : Present → Choice → Present
goes_on_by now c = present_by now c (slice_get now.parts c.part)

-- ---- what it leads to

-- the outcome of a part, by its present
abbrev pub part_outcome_in : PartPresent → PartOutcome
part_outcome_in p = record {
  objects = objects_of p.state.domain.memory;
  medium = medium_of p.state.domain.device;
  given = p.given;
  config = p.state.log.config;
  losses = shown_losses p.state.spec.class (losses_of p.counts);
  failures = p.state.failures;
  broken = p.broken;
}

-- the outcome, by the present
abbrev pub outcome_in : Present → Outcome
outcome_in now = record { answers = map answers_of_thread now.threads; parts = map part_outcome_in now.parts }

-- ---- the numbers of its row

-- the failures of all parts
abbrev pub failures_in : List PartPresent → ℕ
failures_in [] = 0
failures_in (p ∷ parts) = p.state.failures + failures_in parts

-- what was lost in all parts
abbrev pub lost_in : List PartPresent → ℕ
lost_in [] = 0
lost_in (p ∷ parts) = lost_of (losses_of p.counts) + lost_in parts

-- some part has broken a clause
abbrev pub broken_in : List PartPresent → Bool
broken_in [] = false
broken_in (p ∷ parts) = is_some p.broken || broken_in parts

-- some part was given up
abbrev pub given_up_in : List PartPresent → Bool
given_up_in [] = false
given_up_in (p ∷ parts) = is_given_up p.state || given_up_in parts

-- the numbers of a run of this many steps, from its present
abbrev pub numbers_in : ℕ → Present → MemberRow
numbers_in steps now = record {
  status = if broken_in now.parts then 7 else if given_up_in now.parts then 1 else 0;
  events = steps;
  failures = failures_in now.parts;
  gone = gone_count (map answers_of_thread now.threads);
  lost = lost_in now.parts;
}
