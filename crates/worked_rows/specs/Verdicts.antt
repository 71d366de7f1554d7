use Rattle.std.specs.Prelude.{ℕ, Bool, true, false, is_none, List, [], ◌∷◌, length, replicate, codes}
use Rattle.nook_data.specs.declared.steps.Event.{Event}
use Rattle.nook_data.specs.declared.scenario.FaultKind.TheVariants as fault
use Rattle.nook_data.specs.declared.calls.Op.TheVariants as op
use Rattle.nook_data.specs.declared.scenario.PartSpec.{PartSpec}
use Rattle.nook_data.specs.declared.scenario.Scenario.{Scenario}
use Rattle.nook_data.specs.declared.scenario.ScheduleSpec.TheVariants as schedule
use Rattle.promise_defs.specs.Contract.{first_break}
use Rattle.promise_defs.specs.Ideal.{class_run}
use Rattle.promise_defs.specs.Licence.{is_licensed}
use Rattle.run_defs.specs.References.{block_image, net_image, sound_image}
use Rattle.part_defs.specs.Runs.{state_of}
use Rattle.run_defs.specs.Simulation.{Simulation, Choice, begins, runs, choices_of, journals_of}
use Rattle.promise_defs.specs.Trace.{trace}
use Rattle.worked_rows.specs.Scenarios.{strike, disk, link, stream, thread}

-- Runs with failures in Init, in replays, in a write of eight blocks and in its resubmission, and the verdicts on
-- these runs.

-- a verdict on a journal: how often its driver failed, whether it kept its class contract, whether its trace is one run
-- of the never-failing device, and whether its losses are licensed
pub record Verdict : Type 0 where
  pub failures : ℕ
  pub kept : Bool
  pub one_run : Bool
  pub licensed : Bool

abbrev pub verdict_of : PartSpec → List Event → Verdict
verdict_of spec journal = record {
  failures = (state_of spec journal).failures;
  kept = is_none (first_break spec.class spec.blocks journal);
  one_run = class_run spec.class spec.blocks (trace journal);
  licensed = is_licensed spec journal;
}

abbrev pub verdicts_from : List PartSpec → List (List Event) → List Verdict
verdicts_from [] journals = []
verdicts_from (spec ∷ specs) [] = []
verdicts_from (spec ∷ specs) (journal ∷ journals) = verdict_of spec journal ∷ verdicts_from specs journals

abbrev pub verdicts_at : Scenario → Simulation → List Choice → List Verdict
verdicts_at s m [] = verdicts_from s.parts (journals_of m)
verdicts_at s m (c ∷ choices) = []

abbrev pub verdicts_after : Scenario → Simulation → List Verdict
verdicts_after s m = verdicts_at s m (choices_of m)

-- the verdicts on a scenario's parts, once its run has ended
abbrev pub verdicts_of : Scenario → List Verdict
verdicts_of s = verdicts_after s (runs 100000 (begins s))

-- with this many failures the driver kept its contract, and the applications saw one run, with licensed losses
abbrev pub recovered : ℕ → List Verdict
recovered failures = record { failures = failures; kept = true; one_run = true; licensed = true } ∷ []

abbrev pub eight_blocks : List ℕ
eight_blocks = replicate 128 7

-- a disk that fails in its first init, in the middle of a write of eight blocks, in the replay of its configuration,
-- and in the middle of the resubmitted write
abbrev pub failing_disk : Scenario
failing_disk = record {
  schedule = schedule.RoundRobin;
  parts = disk 16 8 block_image
      (strike 1 0 fault.Trap ∷ strike 5 258 fault.Trap ∷ strike 8 1 fault.Trap ∷ strike 12 100 fault.Trap ∷ []) ∷ [];
  threads = thread (codes "t0")
      ((0, op.Set 1 3) ∷ (0, op.Write 0 eight_blocks) ∷ (0, op.Read 0 8) ∷ (0, op.Get 1) ∷ []) ∷ [];
}

-- a link that fails in its first init, after a frame is on the wire, and in the replay of its configuration
abbrev pub failing_link : Scenario
failing_link = record {
  schedule = schedule.RoundRobin;
  parts = link 8 net_image (strike 1 1 fault.Trap ∷ strike 5 8 fault.Hang ∷ strike 8 3 fault.Trap ∷ [])
      ((5 ∷ 6 ∷ []) ∷ []) ∷ [];
  threads = thread (codes "t0")
      ((0, op.Set 2 9) ∷ (0, op.Send (1 ∷ [])) ∷ (0, op.Send (2 ∷ [])) ∷ (0, op.Recv) ∷ (0, op.Get 2) ∷ []) ∷ [];
}

-- a stream that fails in its first init, in the middle of a play, in the replay of its configuration, and when it is
-- reopened
abbrev pub failing_stream : Scenario
failing_stream = record {
  schedule = schedule.RoundRobin;
  parts = stream 8 sound_image
      (strike 1 0 fault.Trap ∷ strike 6 6 fault.Trap ∷ strike 9 1 fault.Trap ∷ strike 13 0 fault.Trap ∷ []) ∷ [];
  threads = thread (codes "t0")
      ((0, op.Set 1 7) ∷ (0, op.Open) ∷ (0, op.Play (10 ∷ 11 ∷ 12 ∷ [])) ∷ (0, op.Play (13 ∷ [])) ∷ (0, op.Close) ∷ [])
      ∷ [];
}
