use Rattle.std.specs.Prelude.{ℕ, List, [], ◌∷◌, codes, map, option_map, replicate, Option, None}
use Rattle.explore_defs.specs.Orders.{led}
use Rattle.explore_defs.specs.Outcomes.{no_losses, outcome_of}
use Rattle.explore_defs.specs.declared.outcome.Outcome.{Outcome}
use Rattle.machine_defs.specs.Pages.{opening_object}
use Rattle.nook_data.specs.Types.{PartSpec, Scenario}
use Rattle.nook_data.specs.declared.calls.Answer.TheVariants as answer
use Rattle.nook_data.specs.declared.calls.Op.TheVariants as op
use Rattle.nook_data.specs.declared.classes.Class.TheVariants as class
use Rattle.nook_data.specs.declared.scenario.ScheduleSpec.TheVariants as schedule
use Rattle.run_defs.specs.References.{block_image}
use Rattle.run_defs.specs.Simulation.{actor_of, begins, choices_of}

-- Two threads on a disk of one block: one sets register 1 to 5, the other gets it. Actors 0 and 1 are the threads,
-- actor 2 is the part's boot.

-- the disk, with the reference driver
abbrev pub small_disk : PartSpec
small_disk = record {
  name = codes "d";
  class = class.Block;
  blocks = 1;
  bad = [];
  limit = 0;
  image = block_image;
  faults = [];
  arrivals = [];
}

abbrev pub set_and_get : Scenario
set_and_get = record {
  schedule = schedule.RoundRobin;
  parts = small_disk ∷ [];
  threads = record { name = codes "a"; ops = (0, op.Set 1 5) ∷ [] }
      ∷ record { name = codes "b"; ops = (0, op.Get 1) ∷ [] } ∷ [];
}

-- the outcome after the steps of these actors
abbrev pub outcome_after : List ℕ → Option Outcome
outcome_after picks = option_map outcome_of (led (begins set_and_get) picks)

-- the actors that may continue after them
abbrev pub actors_after : List ℕ → Option (List ℕ)
actors_after picks = option_map (λ s. map actor_of (choices_of s)) (led (begins set_and_get) picks)

-- both operations are answered, the get with this value; the disk has nothing else to report
abbrev pub both_done : ℕ → Outcome
both_done value = record {
  answers = ((0, answer.Done) ∷ []) ∷ ((0, answer.Value value) ∷ []) ∷ [];
  parts = record {
    objects = map opening_object (1 ∷ 2 ∷ 3 ∷ 4 ∷ 5 ∷ 6 ∷ 7 ∷ 8 ∷ 9 ∷ 10 ∷ 11 ∷ 12 ∷ []);
    medium = replicate 16 0 ∷ [];
    given = [];
    config = 0 ∷ 5 ∷ 0 ∷ 0 ∷ [];
    losses = no_losses;
    failures = 0;
    broken = None;
  } ∷ [];
}
