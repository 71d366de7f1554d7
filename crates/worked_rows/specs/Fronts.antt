use Rattle.std.specs.Prelude.{ℕ, ◌-◌, ◌++◌, if◌then◌else◌, true, Option, Some, None, List, [], ◌∷◌, length, take}
use Rattle.std.specs.Prelude.{codes, count_by, drop, replicate}
use Rattle.nook_data.specs.Answers.{answers_of}
use Rattle.nook_data.specs.declared.calls.Answer.{Answer}
use Rattle.nook_data.specs.declared.calls.Op.{Op}
use Rattle.nook_data.specs.declared.calls.Op.TheVariants as op
use Rattle.nook_data.specs.declared.scenario.FaultKind.{FaultKind}
use Rattle.nook_data.specs.declared.scenario.FaultKind.TheVariants as fault
use Rattle.nook_data.specs.declared.scenario.PartSpec.{PartSpec}
use Rattle.nook_data.specs.declared.scenario.Scenario.{Scenario}
use Rattle.nook_data.specs.declared.scenario.ScheduleSpec.TheVariants as schedule
use Rattle.nook_data.specs.declared.steps.Event.{Event}
use Rattle.nook_data.specs.declared.verdicts.Break.{Break}
use Rattle.promise_defs.specs.Contract.{first_break}
use Rattle.part_defs.specs.Runs.{state_after, state_of, step_of}
use Rattle.part_defs.specs.State.{PartState}
use Rattle.part_defs.specs.Steps.{opening}
use Rattle.part_laws.specs.Bound.{carries_failure, is_burst}
use Rattle.part_laws.specs.Facts.{is_dead}
use Rattle.headline_laws.specs.Recoveries.{is_stage, while_away}
use Rattle.run_defs.specs.References.{block_image, net_image, sound_image}
use Rattle.run_defs.specs.Simulation.{Simulation, Choice, begins, choices_of, journals_of, runs}
use Rattle.worked_rows.specs.Cases.{of_part}
use Rattle.worked_rows.specs.Scenarios.{disk, driver, link, stream, strike, thread}
use Rattle.worked_rows.specs.Verdicts.{Verdict, verdict_of}

-- Runs that go wrong late, and the verdicts on the events before that.

-- ---- runs

-- a scenario of one part and one thread
abbrev pub alone : PartSpec → List Op → Scenario
alone spec ops = record
    { schedule = schedule.RoundRobin; parts = spec ∷ []; threads = thread (codes "t0") (of_part ops) ∷ [] }

-- the first of some journals
abbrev pub first_journal : List (List Event) → List Event
first_journal [] = []
first_journal (journal ∷ journals) = journal

-- the journal of a run that has ended; empty otherwise
abbrev pub journal_at : Simulation → List Choice → List Event
journal_at m [] = first_journal (journals_of m)
journal_at m (c ∷ choices) = []

abbrev pub journal_after : Simulation → List Event
journal_after m = journal_at m (choices_of m)

-- the journal of a part when one thread requests these operations
abbrev pub journal_of : PartSpec → List Op → List Event
journal_of spec ops = journal_after (runs 1000 (begins (alone spec ops)))

-- from that burst on, the driver's entry at this address replies at once that all is done
abbrev pub lies_at : ℕ → FaultKind
lies_at address = fault.Code address 0x17000000

-- ---- a clause is broken late

-- the first break, with the verdicts on the events before it and on all events
pub record LateBreak : Type 0 where
  pub broken : Option Break
  pub before : Verdict
  pub all : Verdict

abbrev pub events_before : Option Break → List Event → List Event
events_before None events = events
events_before (Some b) events = take (b.event - 1) events

abbrev pub late_break : PartSpec → List Event → LateBreak
late_break spec journal = record {
  broken = first_break spec.class spec.blocks journal;
  before = verdict_of spec (events_before (first_break spec.class spec.blocks journal) journal);
  all = verdict_of spec journal;
}

-- the contract was kept, and the applications saw one run of the never-failing device, with licensed losses
abbrev pub transparent : ℕ → Verdict
transparent failures = record { failures = failures; kept = true; one_run = true; licensed = true }

-- a block is written, read and written again; the last Write stores nothing
abbrev pub lying_disk : PartSpec
lying_disk = disk 2 0 block_image (strike 5 0 (lies_at 18) ∷ [])

abbrev pub lying_disk_ops : List Op
lying_disk_ops = op.Write 1 (replicate 16 1) ∷ op.Read 1 1 ∷ op.Write 1 (replicate 16 2) ∷ op.Read 1 1 ∷ []

-- one Send puts its frame on the wire, and the next one does not
abbrev pub lying_link : PartSpec
lying_link = link 0 net_image (strike 4 0 (lies_at 4) ∷ []) []

abbrev pub lying_link_ops : List Op
lying_link_ops = op.Send (1 ∷ []) ∷ op.Send (2 ∷ []) ∷ []

-- the stream is opened and two samples are played; the next Play does not play its sample
abbrev pub lying_stream : PartSpec
lying_stream = stream 0 sound_image (strike 5 0 (lies_at 6) ∷ [])

abbrev pub lying_stream_ops : List Op
lying_stream_ops = op.Open ∷ op.Play (10 ∷ 11 ∷ []) ∷ op.Play (12 ∷ []) ∷ []

-- ---- a part is given up in the middle

-- the verdict on the events before the part is given up, and the answers from that event on
pub record EarlyEnd : Type 0 where
  pub before : Verdict
  pub answers : List (ℕ × Answer)

-- the events before the part is given up
abbrev pub events_alive : PartState → List Event → List Event
events_alive p [] = []
events_alive p (e ∷ events) = if is_dead (state_after p (step_of e)).mode
    then [] else e ∷ events_alive (state_after p (step_of e)) events

abbrev pub answers_in : List Event → List (ℕ × Answer)
answers_in [] = []
answers_in (e ∷ events) = answers_of e ++ answers_in events

abbrev pub early_end : PartSpec → List Event → EarlyEnd
early_end spec journal = record {
  before = verdict_of spec (events_alive (opening spec) journal);
  answers = answers_in (drop (length (events_alive (opening spec) journal)) journal);
}

-- a block is written, and the driver traps in the Read; no failure is allowed
abbrev pub frail_disk : PartSpec
frail_disk = disk 2 0 block_image (strike 4 0 fault.Trap ∷ [])

abbrev pub frail_disk_ops : List Op
frail_disk_ops = op.Write 1 (replicate 16 1) ∷ op.Read 1 1 ∷ op.Read 7 1 ∷ op.Get 0 ∷ []

-- ---- the longest recovery

-- the events up to and including the first failure
abbrev pub up_to_failure : List Event → List Event
up_to_failure [] = []
up_to_failure (e ∷ events) = e ∷ (if carries_failure e then [] else up_to_failure events)

-- the events of the first recovery
abbrev pub first_recovery : PartSpec → List Event → List Event
first_recovery spec journal =
    while_away (state_of spec (up_to_failure journal)) (drop (length (up_to_failure journal)) journal)

-- a driver that yields as often as it may before each reply, so each call has 32 bursts
abbrev pub slow_text : List ℕ
slow_text =
    codes ".class sound\n"
    ++ codes ".entry init init\n.entry open slow\n.entry play slow\n.entry close slow\n.entry get slow\n.entry set slow\n"
    ++ codes "init: LI r1 2\nKCALL 3\nLI r7 30\nJMP more\n"
    ++ codes "slow: LI r7 31\n"
    ++ codes "more: LI r6 1\n"
    ++ codes "yield: KCALL 8\nSUB r7 r6\nBNE r7 r0 yield\nRET r0\n"

-- all four keys are set and the stream is open when the driver traps in the Play
abbrev pub slow_stream : PartSpec
slow_stream = stream 1 (driver slow_text) (strike 193 0 fault.Trap ∷ [])

abbrev pub slow_stream_ops : List Op
slow_stream_ops = op.Set 0 16000 ∷ op.Set 1 7 ∷ op.Set 2 2 ∷ op.Set 3 1 ∷ op.Open ∷ op.Play (10 ∷ []) ∷ []

-- the number of stages and the number of bursts among some events
abbrev pub lengths_of : List Event → ℕ × ℕ
lengths_of events = (count_by is_stage events, count_by is_burst events)
